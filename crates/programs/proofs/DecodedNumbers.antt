-- The numbers of a decoded program are those of its words: what a procedure has is what its exit row says. And their ranges, where the words
-- have the form: a vertex belongs to one of the procedures 1..p, a first statement is one of 1..n, and F is 0..L.
use Rattle.std.specs.Prelude.{◌≡◌, Bool, List, ℤ, pos}
use Rattle.std.proofs.Math.Path.{refl, ap, subst}
use Rattle.std.proofs.Common.{ap₂}
use Prim.Native.Nat.{ℕ, zero, suc, ◌+◌, ◌-◌, ◌≤◌, ◌<◌}
use Rattle.std.proofs.Math.Numerals.{add-one}
use native.Mathlib.Omega.{arith}
use borrow.Author.Tests.{leb-false, le-leb}
use Rattle.std.proofs.Math.Bool.{true, false, cond}
use Rattle.std.proofs.Math.Dec.{leb}
use Rattle.basics.proofs.Lists.{get_or_listed}
use Rattle.words.specs.Limits.{most_statements, most_procedures, most_globals, most_locals}
use Rattle.words.specs.Words.{word}
use Rattle.words.proofs.Ranges.{number_most, number_range}
use Rattle.programs.specs.Program.{Procedure, procedure_at, no_procedure, first_of, locals_of, parameters_of, others_of, width_of}
use Rattle.programs.specs.ProgramWords.{n, p, G, exit_field, first, locals, parameters, begun, procedure_of, k}
use Rattle.programs.specs.ProgramForm.{ProgramForm, ExitForm}
use Rattle.programs.proofs.ProgramForm.{first_is, locals_is}
use Rattle.programs.specs.Decode.{procedure, program}

module _ (words : List ℤ) where
  -- ---- of a procedure

  pub procedure_is : (q : ℕ) → 1 ≤ q → q ≤ p words → procedure_at (program words) q ≡ procedure words q
  unfolding procedure_at program
  procedure_is zero l h = absurd (omega arith)
  procedure_is (suc i) l h = rw add-one at (get_or_listed (procedure words) (p words) i no_procedure h)

  module _ (q : ℕ) (l : 1 ≤ q) (h : q ≤ p words) where
    pub first_of_lem : first_of (program words) q ≡ first words q
    unfolding procedure
    first_of_lem = ap (λ (x : Procedure). x.first) (procedure_is q l h)

    pub locals_of_lem : locals_of (program words) q ≡ locals words q
    unfolding procedure
    locals_of_lem = ap (λ (x : Procedure). x.locals) (procedure_is q l h)

    pub parameters_of_lem : parameters_of (program words) q ≡ parameters words q
    unfolding procedure
    parameters_of_lem = ap (λ (x : Procedure). x.parameters) (procedure_is q l h)

    pub others_of_lem : others_of (program words) q ≡ locals words q - parameters words q
    others_of_lem = ap₂ (λ (x y : ℕ). x - y) locals_of_lem parameters_of_lem

    pub width_of_lem : width_of (program words) q ≡ G words + locals words q
    unfolding program
    width_of_lem = ap (λ (x : ℕ). G words + x) locals_of_lem

  -- ---- ranges, whatever the words

  pub locals_most : (q : ℕ) → locals words q ≤ most_locals
  unfolding locals
  locals_most q = number_most most_locals (exit_field words q 1)

  pub k_most : (v : ℕ) → k words v ≤ most_globals + most_locals
  unfolding k
  k_most v = omega (arith, number_most most_globals (word words 2), locals_most (procedure_of words v))

  begun_most : (v i : ℕ) → begun words v i ≤ i
  unfolding begun
  begun_most v zero = omega arith
  begun_most v (suc i) = go (leb (first words (i + 1)) v) (begun_most v i)
    where
      go : (b : Bool) → begun words v i ≤ i → cond b (suc (begun words v i)) (begun words v i) ≤ suc i
      go true h = omega arith
      go false h = omega arith

  pub procedure_most : (v : ℕ) → v ≤ n words + p words → procedure_of words v ≤ p words
  unfolding procedure_of
  procedure_most v h = go (leb v (n words))
    where
      go : (b : Bool) → cond b (begun words v (p words)) (v - n words) ≤ p words
      go true = begun_most v (p words)
      go false = omega arith

  begun_one : (v i : ℕ) → first words 1 ≤ v → 1 ≤ begun words v (suc i)
  unfolding begun
  begun_one v zero h = rw (le-leb (first words 1) v h) (omega arith)
  begun_one v (suc i) h = go (leb (first words (suc i + 1)) v) (begun_one v i h)
    where
      go : (b : Bool) → 1 ≤ begun words v (suc i) → 1 ≤ cond b (suc (begun words v (suc i))) (begun words v (suc i))
      go true k = omega arith
      go false k = k

  -- ---- ranges, where the words have the form

  module _ (f : ProgramForm words) where
    pub some_procedure_lem : 1 ≤ p words
    some_procedure_lem = (number_range 1 most_procedures most_procedures (word words 1) (omega arith) f.sizes.procedures_range).0

    pub first_range : (q : ℕ) → 1 ≤ q → q ≤ p words → (1 ≤ first words q) × (first words q ≤ n words)
    unfolding first
    first_range q l h = number_range 1 (n words) most_statements (exit_field words q 0) (number_most most_statements (word words 0)) (f.exits q l h).first_range

    pub parameters_most : (q : ℕ) → 1 ≤ q → q ≤ p words → parameters words q ≤ locals words q
    unfolding parameters
    parameters_most q l h =
        let x : ExitForm words q = f.exits q l h in
        (number_range 0 (locals words q) most_locals (exit_field words q 2) (locals_most q) (rw (locals_is words q x.locals_range) at x.parameters_range)).1

    -- "Main is procedure 1 and vertex 1 is its first statement."
    pub main_first : first words 1 ≡ 1
    main_first =
        let x : ExitForm words 1 = f.exits 1 (omega arith) some_procedure_lem in
        let a : exit_field words 1 0 ≡ pos 1 = x.main refl in
        let b : exit_field words 1 0 ≡ pos (first words 1) = first_is words 1 x.first_range in cc

    pub procedure_range : (v : ℕ) → 1 ≤ v → v ≤ n words + p words → (1 ≤ procedure_of words v) × (procedure_of words v ≤ p words)
    unfolding procedure_of
    procedure_range v l h = (go (leb v (n words)) refl, procedure_most v h)
      where
        go : (b : Bool) → leb v (n words) ≡ b → 1 ≤ cond b (begun words v (p words)) (v - n words)
        go true e = let k = some_procedure_lem in subst (λ i. 1 ≤ begun words v i) (let q : suc (p words - 1) ≡ p words = omega arith in q) (begun_one v (p words - 1) (omega (arith, main_first)))
        go false e = let k : n words < v = leb-false v (n words) e in omega arith
