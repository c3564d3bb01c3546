-- Turns by the words: which kinds of vertices stay, call and return; and the table of the returns still to come, filled from the trace's end.
use Rattle.std.proofs.Math.Path.{◌≡◌, refl, sym, ap}
use Rattle.std.proofs.Common.{ap₂, ◌∙◌}
use Rattle.std.specs.Prelude.{Bool, ◌&&◌, List, ℤ, pos, negsuc, length, set}
use Rattle.std.proofs.Math.Bool.{true, false, cond}
use Rattle.std.proofs.Math.Option.{some}
use Prim.Native.Nat.{ℕ, zero, suc, ◌+◌, ◌-◌, ◌≤◌, ◌<◌}
use native.Mathlib.Omega.{arith}
use borrow.Author.Tests.{eqb-true, eqb-false, le-leb, leb-true, leb-false}
use Rattle.std.proofs.Math.Dec.{leb, eqb}
use Rattle.std.proofs.Math.ListN.{get_or}
use Rattle.std.proofs.Math.Seq.{get_or-set_same, get_or-set_other}
use Rattle.words.specs.Limits.{most_steps}
use Rattle.words.specs.Words.{word, number}
use Rattle.words.proofs.Ranges.{number_most}
use Rattle.programs.specs.Program.{Statement, skip, assign, branch, assert, call}
use Rattle.programs.specs.ProgramForm.{ProgramForm}
use Rattle.programs.specs.ProgramWords.{by_kind, n, p, kind, k, fields, vertex_field, column_field, op_field, procedure_field}
use Rattle.programs.specs.Decode as decode
use Rattle.programs.specs.Decode.{Fields, skip_row, assign_row, branch_row, assert_row, call_row, fields_of, meaning, statement}
use Rattle.programs.proofs.Formed.{statement_is, no_statement}
use Rattle.programs.specs.MoveLabels as labels
use Rattle.programs.specs.MoveLabels.{turn_at}
use Rattle.traces.specs.TraceWords.{N, vertex_word}
use Rattle.traces.specs.Stretches.{with_turn, listed_at, returns_in, returns_from}
use Rattle.traces.proofs.StretchLaws.{none_at_end, returns_next}
use Rattle.reading.specs.Reading.{natural}
use Rattle.std.specs.Prelude.{Some, None}
use Rattle.program_readers.specs.declared.places.Sizes.{Sizes}
use Rattle.run_state.specs.Statements.{is_call}
use Rattle.valid_paths.specs.Readings.{turn_for, turn_of, is_statement, Table}
use Rattle.valid_paths.specs.declared.turns.Turn.TheVariants.{Stays, Calls, Returns}

module _ (words : List ℤ) (v : ℕ) where
  pub other_returns : (1 ≤ v → n words < v) → turn_at (decode.program words) v ≡ labels.returns
  unfolding labels.turn_of
  other_returns h = ap labels.turn_of (no_statement words v h)

  module _ (l : 1 ≤ v) (h : v ≤ n words) where
    pub call_turns : kind words v ≡ 5 → turn_at (decode.program words) v ≡ labels.calls
    unfolding labels.turn_of
    call_turns e = ap labels.turn_of (statement_is words v l h ∙ ap some (is_call words v e))

    -- a row of another kind is no call's
    not_call : (kind words v ≡ 5 → ⊥) → (back callee at : ℕ) → fields_of words v ≡ call_row back callee at → ⊥
    unfolding fields_of by_kind
    not_call d back callee at q = go (eqb (kind words v) 1) (eqb (kind words v) 2) (eqb (kind words v) 3) (eqb (kind words v) 4) (eqb (kind words v) 5) refl q
      where
        go : (a b c e f : Bool) → eqb (kind words v) 5 ≡ f
            → cond a (skip_row (vertex_field words v 0)) (cond b (assign_row (vertex_field words v 0) (column_field words v 1) (fields words v + 2)) (cond c (branch_row (vertex_field words v 0) (vertex_field words v 1) (op_field words v 2) (fields words v + 3))
            (cond e (assert_row (vertex_field words v 0) (op_field words v 1) (fields words v + 2)) (cond f (call_row (vertex_field words v 0) (procedure_field words v 1) (fields words v + 2)) (skip_row 0))))) ≡ call_row back callee at → ⊥
        go true b c e f x q = let z : ◌≡◌ {A = ℕ} 0 1 = cc in omega arith
        go false true c e f x q = let z : ◌≡◌ {A = ℕ} 0 1 = cc in omega arith
        go false false true e f x q = let z : ◌≡◌ {A = ℕ} 0 1 = cc in omega arith
        go false false false true f x q = let z : ◌≡◌ {A = ℕ} 0 1 = cc in omega arith
        go false false false false true x q = d (eqb-true (kind words v) 5 x)
        go false false false false false x q = let z : ◌≡◌ {A = ℕ} 0 1 = cc in omega arith

    row_stays : (r : Fields) → ((back callee at : ℕ) → r ≡ call_row back callee at → ⊥) → labels.turn_of (some (meaning words (k words v) r)) ≡ labels.stays
    unfolding meaning labels.turn_of
    row_stays (skip_row next) h = refl
    row_stays (assign_row next column at) h = refl
    row_stays (branch_row yea nay op at) h = refl
    row_stays (assert_row next op at) h = refl
    row_stays (call_row back callee at) h = absurd (h back callee at refl)

    pub other_stays : (kind words v ≡ 5 → ⊥) → turn_at (decode.program words) v ≡ labels.stays
    unfolding statement
    other_stays d = ap labels.turn_of (statement_is words v l h) ∙ row_stays (fields_of words v) (not_call d)

some_turn : (st : Statement) → labels.turn_of (some st) ≡ labels.returns → ⊥
unfolding labels.turn_of
some_turn (skip next) e = let z : ◌≡◌ {A = ℕ} 0 1 = cc in omega arith
some_turn (assign next i x) e = let z : ◌≡◌ {A = ℕ} 0 1 = cc in omega arith
some_turn (branch yea nay x) e = let z : ◌≡◌ {A = ℕ} 0 1 = cc in omega arith
some_turn (assert next op x) e = let z : ◌≡◌ {A = ℕ} 0 1 = cc in omega arith
some_turn (call return q actuals) e = let z : ◌≡◌ {A = ℕ} 0 1 = cc in omega arith

-- the kinds by their turns
module _ (words : List ℤ) (v : ℕ) where
  pub call_kind : turn_at (decode.program words) v ≡ labels.calls → (1 ≤ v) × (v ≤ n words) × (kind words v ≡ 5)
  call_kind t = go (leb 1 v) refl (leb v (n words)) refl (eqb (kind words v) 5) refl
    where
      go : (a : Bool) → leb 1 v ≡ a → (b : Bool) → leb v (n words) ≡ b → (c : Bool) → eqb (kind words v) 5 ≡ c → (1 ≤ v) × (v ≤ n words) × (kind words v ≡ 5)
      go true p true q true r = (leb-true 1 v p, leb-true v (n words) q, eqb-true (kind words v) 5 r)
      go true p true q false r = absurd (let e : labels.stays ≡ labels.calls = sym (other_stays words v (leb-true 1 v p) (leb-true v (n words) q) (eqb-false (kind words v) 5 r)) ∙ t in let z : ◌≡◌ {A = ℕ} 0 1 = cc in omega arith)
      go true p false q c r = absurd (let e : labels.returns ≡ labels.calls = sym (other_returns words v (λ l. leb-false v (n words) q)) ∙ t in let z : ◌≡◌ {A = ℕ} 0 1 = cc in omega arith)
      go false p b q c r = absurd (let e : labels.returns ≡ labels.calls = sym (other_returns words v (λ l. absurd (omega (arith, leb-false 1 v p)))) ∙ t in let z : ◌≡◌ {A = ℕ} 0 1 = cc in omega arith)

  pub exit_kind : ProgramForm words → turn_at (decode.program words) v ≡ labels.returns → 1 ≤ v → v ≤ n words + p words → kind words v ≡ 6
  unfolding number
  exit_kind f t l h = go (leb v (n words)) refl
    where
      go : (b : Bool) → leb v (n words) ≡ b → kind words v ≡ 6
      go true q = absurd (some_turn (statement words v) (ap labels.turn_of (sym (statement_is words v l (leb-true v (n words) q))) ∙ t))
      go false q =
          let past = leb-false v (n words) q in
          let e : n words + (v - n words) ≡ v = omega (arith, past) in
          ap (number 6) (rw e at (f.exits (v - n words) (omega (arith, past)) (omega arith)).kind)

-- where a step returns there is no statement
pub past_statements : (words : List ℤ) (v : ℕ) → turn_at (decode.program words) v ≡ labels.returns → 1 ≤ v → n words < v
past_statements words v t l = go (leb v (n words)) refl
  where
    go : (b : Bool) → leb v (n words) ≡ b → n words < v
    go true q = absurd (some_turn (statement words v) (ap labels.turn_of (sym (statement_is words v l (leb-true v (n words) q))) ∙ t))
    go false q = leb-false v (n words) q

-- ---- a statement or none, as the code tests it

module _ (words : List ℤ) (sizes : Sizes) (e : sizes.statements ≡ n words) (v : ℕ) where
  pub no_statement_there : is_statement sizes v ≡ false → 1 ≤ v → n words < v
  no_statement_there f l = go (leb v sizes.statements) refl
    where
      go : (b : Bool) → leb v sizes.statements ≡ b → n words < v
      go true q = absurd (let z : ◌≡◌ {A = Bool} true false = sym (ap₂ ◌&&◌ (le-leb 1 v l) q) ∙ f in let u : ◌≡◌ {A = ℕ} 0 1 = cc in omega arith)
      go false q = omega (arith, leb-false v sizes.statements q, e)

  pub statement_there : is_statement sizes v ≡ true → (1 ≤ v) × (v ≤ n words)
  statement_there f = go (leb 1 v) (leb v sizes.statements) refl refl
    where
      go : (a b : Bool) → leb 1 v ≡ a → leb v sizes.statements ≡ b → (1 ≤ v) × (v ≤ n words)
      go true true p q = (leb-true 1 v p, omega (arith, leb-true v sizes.statements q, e))
      go true false p q = absurd (let z : ◌≡◌ {A = Bool} false true = sym (ap₂ ◌&&◌ p q) ∙ f in let u : ◌≡◌ {A = ℕ} 0 1 = cc in omega arith)
      go false b p q = absurd (let z : ◌≡◌ {A = Bool} false true = sym (ap₂ ◌&&◌ p q) ∙ f in let u : ◌≡◌ {A = ℕ} 0 1 = cc in omega arith)

  -- a statement that doesn't stay calls
  pub statement_turns : is_statement sizes v ≡ true → (turn_at (decode.program words) v ≡ labels.stays → ⊥) → turn_at (decode.program words) v ≡ labels.calls
  statement_turns f d =
      let (l, h) = statement_there f in
      go (eqb (kind words v) 5) refl l h
    where
      go : (b : Bool) → eqb (kind words v) 5 ≡ b → 1 ≤ v → v ≤ n words → turn_at (decode.program words) v ≡ labels.calls
      go true q l h = call_turns words v l h (eqb-true (kind words v) 5 q)
      go false q l h = absurd (d (other_stays words v l h (eqb-false (kind words v) 5 q)))

-- ---- the code's turns

pub turn_back : (t : labels.Turn) → turn_of (turn_for t) ≡ t
unfolding turn_of turn_for
turn_back labels.stays = refl
turn_back labels.calls = refl
turn_back labels.returns = refl

module _ (words : List ℤ) (v : ℕ) where
  pub told_stays : turn_at (decode.program words) v ≡ labels.stays → Stays ≡ turn_for (turn_at (decode.program words) v)
  unfolding turn_for
  told_stays e = ap turn_for (sym e)

  pub told_calls : turn_at (decode.program words) v ≡ labels.calls → Calls ≡ turn_for (turn_at (decode.program words) v)
  unfolding turn_for
  told_calls e = ap turn_for (sym e)

  pub told_returns : turn_at (decode.program words) v ≡ labels.returns → Returns ≡ turn_for (turn_at (decode.program words) v)
  unfolding turn_for
  told_returns e = ap turn_for (sym e)

  pub stays_told : Stays ≡ turn_for (turn_at (decode.program words) v) → turn_at (decode.program words) v ≡ labels.stays
  unfolding turn_of
  stays_told e = sym (ap turn_of e ∙ turn_back (turn_at (decode.program words) v))

  pub calls_told : Calls ≡ turn_for (turn_at (decode.program words) v) → turn_at (decode.program words) v ≡ labels.calls
  unfolding turn_of
  calls_told e = sym (ap turn_of e ∙ turn_back (turn_at (decode.program words) v))

  pub returns_told : Returns ≡ turn_for (turn_at (decode.program words) v) → turn_at (decode.program words) v ≡ labels.returns
  unfolding turn_of
  returns_told e = sym (ap turn_of e ∙ turn_back (turn_at (decode.program words) v))

-- ---- the table

-- the vertex that a word lists, as the code reads it
pub listed_in : (z : ℤ) (v : ℕ) → natural z ≡ Some v → listed_at z ≡ v
listed_in (pos m) v e = cc
listed_in (negsuc m) v e = absurd (let z : ◌≡◌ {A = ℕ} 0 1 = cc in omega arith)

pub listed_out : (z : ℤ) → natural z ≡ None → listed_at z ≡ 0
listed_out (pos m) e = absurd (let z : ◌≡◌ {A = ℕ} 0 1 = cc in omega arith)
listed_out (negsuc m) e = refl

module _ (program witness : List ℤ) where
  -- filled from j on
  unfoldable pub FilledFrom : List ℕ → ℕ → Type 0
  FilledFrom table j = (i : ℕ) → j ≤ i → i ≤ N program witness → get_or table i 0 ≡ returns_from program witness i

  pub last_filled : (table : List ℕ) → N program witness < length table → FilledFrom (set table (N program witness) 0) (N program witness)
  unfolding FilledFrom
  last_filled table h i l b = let e : i ≡ N program witness = omega arith in rw (e, get_or-set_same) (sym (none_at_end program witness))

  turn_most : (t : labels.Turn) (m k : ℕ) → m ≤ k → with_turn t m ≤ k + 1
  unfolding with_turn
  turn_most labels.stays m k h = omega arith
  turn_most labels.calls m k h = omega arith
  turn_most labels.returns m k h = omega arith

  returns_few : (i m : ℕ) → returns_in program witness i m ≤ m
  unfolding returns_in
  returns_few i zero = omega arith
  returns_few i (suc m) =
      let h = turn_most (turn_at (decode.program program) (listed_at (vertex_word program witness i))) (returns_in program witness (i + 1) m) m (returns_few (i + 1) m) in omega arith

  pub returns_most : (i : ℕ) → returns_from program witness i ≤ 4096
  returns_most i = omega (arith, returns_few i (N program witness - i), number_most most_steps (word witness 1))

  pub more_filled : (table : List ℕ) (j x : ℕ) → N program witness < length table → j < N program witness → FilledFrom table (j + 1)
      → x ≡ with_turn (turn_at (decode.program program) (listed_at (vertex_word program witness j))) (returns_from program witness (j + 1)) → FilledFrom (set table j x) j
  unfolding FilledFrom
  more_filled table j x h l f e i b c = go (eqb i j) refl
    where
      go : (t : Bool) → eqb i j ≡ t → get_or (set table j x) i 0 ≡ returns_from program witness i
      go true q = let d : i ≡ j = eqb-true i j q in rw (d, get_or-set_same table j x 0 (omega arith)) (e ∙ sym (returns_next program witness j l))
      go false q = let d : i ≡ j → ⊥ = eqb-false i j q in rw get_or-set_other (f i (omega arith) c)

  pub filled_at : (table : List ℕ) (j i : ℕ) → FilledFrom table j → j ≤ i → i ≤ N program witness → get_or table i 0 ≡ returns_from program witness i
  unfolding FilledFrom
  filled_at table j i f l h = f i l h

  pub filled_most : (table : List ℕ) (j i : ℕ) → FilledFrom table j → j ≤ i → i ≤ N program witness → get_or table i 0 ≤ 4096
  filled_most table j i f l h = rw (filled_at table j i f l h) (returns_most i)

  pub all_filled : (table : List ℕ) → N program witness < length table → FilledFrom table 0 → Table program witness table
  unfolding FilledFrom
  all_filled table h f = record { long = h; filled = λ i l. f i (omega arith) l }
