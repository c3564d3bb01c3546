-- The procedure that is carried along is the procedure of the vertex, where first statements rise strictly from 1; and the table's laws.
use Rattle.std.specs.Prelude.{◌≡◌, Bool, List, T, ℤ, length, set}
use Rattle.std.proofs.Math.Path.{refl}
use Rattle.std.proofs.Common.{sym, get_or-set_same}
use Rattle.std.proofs.Math.Bool.{true, false}
use Prim.Native.Nat.{ℕ, zero, suc, ◌+◌, ◌-◌, ◌≤◌, ◌<◌}
use Rattle.std.proofs.Math.Nat.{add-zero, add-suc}
use native.Mathlib.Omega.{arith}
use borrow.Author.Tests.{le-leb, lt-leb, eqb-true, eqb-false}
use Rattle.std.proofs.Math.Dec.{eqb, eqb→eq}
use Rattle.std.proofs.Math.ListN.{get_or}
use Rattle.std.proofs.Math.Seq.{get_or-set_other}
use Rattle.basics.proofs.Booleans.{parts, tests}
use Rattle.words.specs.Limits.{most_statements}
use Rattle.programs.specs.ProgramWords.{n, p, first, begun, procedure_of}
use Rattle.programs.specs.ProgramTests.{rises, exit_passes}
use Rattle.program_readers.specs.Sizes.{Header}
use Rattle.program_readers.specs.Owners.{ExitsPass, Reached, Owners}
use Rattle.program_readers.specs.declared.places.Sizes.{Sizes}

module _ (words : List ℤ) where
  -- ---- the procedure carried along

  module _ (x : ExitsPass words) where
    exit_rises : (q : ℕ) → 1 ≤ q → q ≤ p words → T (rises words q)
    unfolding ExitsPass exit_passes
    exit_rises q l h = let t = x q l h in search parts

    main_first : 1 ≤ p words → first words 1 ≡ 1
    unfolding rises
    main_first h = let t = exit_rises 1 (omega arith) h in eqb→eq (first words 1) 1 t

    next_rises : (q : ℕ) → 1 ≤ q → q < p words → first words q < first words (q + 1)
    unfolding rises
    next_rises q l h =
        let e : q + 1 - 1 ≡ q = omega arith in
        let t = simp (tests, e) at (exit_rises (q + 1) (omega arith) (omega arith)) in
        t.1 (λ d. omega arith)

    climbs : (q d : ℕ) → 1 ≤ q → q + d ≤ p words → first words q ≤ first words (q + d)
    climbs q zero l h = rw add-zero (omega arith)
    climbs q (suc d) l h =
        let e : q + d + 1 ≡ q + suc d = omega arith in
        omega (arith, climbs q d l (omega arith), rw e at (next_rises (q + d) (omega arith) (omega arith)))

    -- each procedure up to q has begun
    all_begun : (v q i : ℕ) → 1 ≤ q → q ≤ p words → first words q ≤ v → i ≤ q → begun words v i ≡ i
    unfolding begun
    all_begun v q zero l h f g = refl
    all_begun v q (suc i) l h f g =
        let e : i + 1 + (q - suc i) ≡ q = omega arith in
        let low : first words (i + 1) ≤ v = omega (arith, rw e at (climbs (i + 1) (q - suc i) (omega arith) (omega arith))) in
        simp (le-leb (first words (i + 1)) v low, all_begun v q i l h f (omega arith))

    -- and none after it
    none_begun : (v q d : ℕ) → q + d ≤ p words → (q < p words → v < first words (q + 1)) → begun words v q ≡ q → begun words v (q + d) ≡ q
    unfolding begun
    none_begun v q zero h f b = rw add-zero b
    none_begun v q (suc d) h f b =
        let e : q + 1 + d ≡ q + d + 1 = omega arith in
        let high : v < first words (q + d + 1) = omega (arith, f (omega arith), rw e at (climbs (q + 1) d (omega arith) (omega arith))) in
        rw add-suc (simp (lt-leb (first words (q + d + 1)) v high, none_begun v q d (omega arith) f b))

    begun_reached : (v q : ℕ) → Reached words v q → begun words v (p words) ≡ q
    begun_reached v q r =
        let e : q + (p words - q) ≡ p words = omega (arith, r.known) in
        rw e at (none_begun v q (p words - q) (omega (arith, r.known)) r.next (before q r))
      where
        before : (q : ℕ) → Reached words v q → begun words v q ≡ q
        before zero r = unfold begun in refl
        before (suc q) r = all_begun v (suc q) (suc q) (omega arith) r.known (r.begins (omega arith)) (omega arith)

    pub procedure_reached : (v q : ℕ) → v ≤ n words → Reached words v q → procedure_of words v ≡ q
    unfolding procedure_of
    procedure_reached v q h r = simp (le-leb v (n words) h, begun_reached v q r)

    -- before the first vertex
    pub none_reached : Reached words 0 0
    none_reached = record { known = omega arith; begins = λ l. absurd (omega arith); next = λ l. omega (arith, main_first l) }

    module _ (v q : ℕ) (l : 1 ≤ v) (r : Reached words (v - 1) q) where
      -- at the next procedure's first statement
      pub next_reached : q < p words → first words (q + 1) ≡ v → Reached words v (q + 1)
      next_reached h e = record { known = omega arith; begins = λ l. omega arith; next = λ g. omega (arith, next_rises (q + 1) (omega arith) g) }

      -- elsewhere
      pub still_reached : (q < p words → first words (q + 1) ≡ v → ⊥) → Reached words v q
      still_reached d = record { known = r.known; begins = λ g. omega (arith, r.begins g); next = λ g. omega (arith, r.next g, d g) }

  -- ---- the table

  -- it holds the procedures of the vertices 1..i
  unfoldable pub Filled : List ℕ → ℕ → Type 0
  Filled table i = (v : ℕ) → 1 ≤ v → v ≤ i → get_or table v 0 ≡ procedure_of words v

  module _ (table : List ℕ) where
    pub none_filled : Filled table 0
    unfolding Filled
    none_filled v l h = absurd (omega arith)

    pub next_filled : (i q : ℕ) → i + 1 < length table → Filled table i → procedure_of words (i + 1) ≡ q → Filled (set table (i + 1) q) (i + 1)
    unfolding Filled
    next_filled i q h f e v l g = go (eqb v (i + 1)) refl
      where
        go : (b : Bool) → eqb v (i + 1) ≡ b → get_or (set table (i + 1) q) v 0 ≡ procedure_of words v
        go true c = let d : v ≡ i + 1 = eqb-true v (i + 1) c in rw (d, get_or-set_same) (sym e)
        go false c = let d : v ≡ i + 1 → ⊥ = eqb-false v (i + 1) c in rw get_or-set_other (f v l (omega arith))

    pub owners_filled : most_statements < length table → Filled table (n words) → Owners words table
    unfolding Owners Filled
    owners_filled l f = (l, f)

    module _ (o : Owners words table) (sizes : Sizes) (h : Header words sizes) where
      pub owners_long : sizes.statements < length table
      unfolding Owners
      owners_long = omega (arith, o.0, h.few_statements)

      -- a statement's procedure is in the table, an exit's follows from its number
      pub statement_owner : (v : ℕ) → 1 ≤ v → v ≤ sizes.statements → get_or table v 0 ≡ procedure_of words v
      unfolding Owners
      statement_owner v l e = o.1 v l (omega (arith, h.statements))

      pub exit_owner : (v : ℕ) → sizes.statements < v → v - sizes.statements ≡ procedure_of words v
      unfolding procedure_of
      exit_owner v l = rw (h.statements, lt-leb v (n words) (omega (arith, h.statements)))
