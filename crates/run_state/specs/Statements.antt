-- The statement at a vertex of each kind: which statement of the decoded program it is, and what the form of the program gives for it, since
-- the kind says which row it has.
use Rattle.std.specs.Prelude.{◌≡◌, refl, Bool, true, false, List, ℕ, ◌+◌, ◌-◌, ◌≤◌, ◌<◌, T, leb, ℤ, drop, Option, Some, None}
use Rattle.std.specs.Option.{IsSome}
use Rattle.std.proofs.Math.Path.{ap}
use native.Mathlib.Omega.{arith}
use borrow.Author.Tests.{leb-true, leb-false, ne_eqb}
use Rattle.basics.proofs.Booleans.{both}
use Rattle.words.specs.Words.{number}
use Rattle.words.specs.RowWords.{rows_of}
use Rattle.words.specs.RowForm.{Expression}
use Rattle.programs.specs.Program.{skip, assign, branch, assert, call}
use Rattle.programs.specs.ProgramWords.{by_kind, n, p, kind, parameters, k, fields, vertex_field, column_field, op_field, procedure_field}
use Rattle.programs.specs.ProgramTests.{statement_passes}
use Rattle.programs.specs.ProgramForm.{ProgramForm}
use Rattle.programs.proofs.ProgramForm.{statement_form}
use Rattle.programs.specs.Decode.{comparison, condition, expression, skip_row, assign_row, branch_row, assert_row, call_row, fields_of, meaning, statement}
use Rattle.programs.specs.StatementRows.{Successor, ConditionHere, CallForm, RowHere}
use Rattle.programs.proofs.StatementRows.{row_here}
use Rattle.program_readers.specs.Kinds.{kind_value}
use Rattle.program_readers.specs.declared.kinds.Kind.{Kind}

module _ (words : List ℤ) (v : ℕ) where
  -- ---- its row

  skip_row_lem : kind words v ≡ 1 → fields_of words v ≡ skip_row (vertex_field words v 0)
  unfolding fields_of by_kind
  skip_row_lem e = simp e

  assign_row_lem : kind words v ≡ 2 → fields_of words v ≡ assign_row (vertex_field words v 0) (column_field words v 1) (fields words v + 2)
  unfolding fields_of by_kind
  assign_row_lem e = simp e

  branch_row_lem : kind words v ≡ 3 → fields_of words v ≡ branch_row (vertex_field words v 0) (vertex_field words v 1) (op_field words v 2) (fields words v + 3)
  unfolding fields_of by_kind
  branch_row_lem e = simp e

  assert_row_lem : kind words v ≡ 4 → fields_of words v ≡ assert_row (vertex_field words v 0) (op_field words v 1) (fields words v + 2)
  unfolding fields_of by_kind
  assert_row_lem e = simp e

  call_row_lem : kind words v ≡ 5 → fields_of words v ≡ call_row (vertex_field words v 0) (procedure_field words v 1) (fields words v + 2)
  unfolding fields_of by_kind
  call_row_lem e = simp e

  -- ---- which statement it is

  pub is_skip : kind words v ≡ 1 → statement words v ≡ skip (vertex_field words v 0)
  unfolding statement meaning
  is_skip e = ap (meaning words (k words v)) (skip_row_lem e)

  pub is_assign : kind words v ≡ 2 → statement words v ≡ assign (vertex_field words v 0) (column_field words v 1) (expression words (k words v) (fields words v + 2))
  unfolding statement meaning
  is_assign e = ap (meaning words (k words v)) (assign_row_lem e)

  pub is_branch : kind words v ≡ 3 → statement words v ≡ branch (vertex_field words v 0) (vertex_field words v 1) (condition (op_field words v 2) (expression words (k words v) (fields words v + 3)))
  unfolding statement meaning
  is_branch e = ap (meaning words (k words v)) (branch_row_lem e)

  pub is_assert : kind words v ≡ 4 → statement words v ≡ assert (vertex_field words v 0) (comparison (op_field words v 1)) (expression words (k words v) (fields words v + 2))
  unfolding statement meaning
  is_assert e = ap (meaning words (k words v)) (assert_row_lem e)

  pub is_call : kind words v ≡ 5 → statement words v ≡ call (vertex_field words v 0) (procedure_field words v 1) (rows_of (k words v) (parameters words (procedure_field words v 1)) (drop (fields words v + 2) words))
  unfolding statement meaning
  is_call e = ap (meaning words (k words v)) (call_row_lem e)

  -- ---- what the form gives

  module _ (f : ProgramForm words) (l : 1 ≤ v) (h : v ≤ n words) where
    pub skips : kind words v ≡ 1 → Successor words v (vertex_field words v 0)
    unfolding RowHere
    skips e = row_here words v f _ l h (skip_row_lem e)

    pub assigns : kind words v ≡ 2 → Successor words v (vertex_field words v 0) × ((column_field words v 1 < k words v) × Expression words (fields words v + 2) (k words v))
    unfolding RowHere
    assigns e = row_here words v f _ l h (assign_row_lem e)

    pub branches : kind words v ≡ 3 → ConditionHere words v (vertex_field words v 0) (vertex_field words v 1) (op_field words v 2) (fields words v + 3)
    unfolding RowHere
    branches e = row_here words v f _ l h (branch_row_lem e)

    pub asserts : kind words v ≡ 4 → ConditionHere words v (vertex_field words v 0) 0 (op_field words v 1) (fields words v + 2)
    unfolding RowHere
    asserts e = (row_here words v f _ l h (assert_row_lem e)).1

    pub calls : kind words v ≡ 5 → CallForm words v (vertex_field words v 0) (procedure_field words v 1) (fields words v + 2)
    unfolding RowHere
    calls e = row_here words v f _ l h (call_row_lem e)

    passes : T (statement_passes words v)
    passes = (statement_form words v).1 (f.statements v l h)

    -- its kind is one of 1..5
    some_kind : (kind words v ≡ 1 → ⊥) → (kind words v ≡ 2 → ⊥) → (kind words v ≡ 3 → ⊥) → (kind words v ≡ 4 → ⊥) → (kind words v ≡ 5 → ⊥) → ⊥
    unfolding statement_passes by_kind
    some_kind a b c d e = (simp (both, ne_eqb _ _ a, ne_eqb _ _ b, ne_eqb _ _ c, ne_eqb _ _ d, ne_eqb _ _ e) at passes).1.1

  -- ---- statements and exits are told apart by their kinds

  module _ (f : ProgramForm words) (l : 1 ≤ v) (h : v ≤ n words + p words) where
    exit_kind : n words < v → kind words v ≡ 6
    unfolding number
    exit_kind b =
        let e : n words + (v - n words) ≡ v = omega arith in
        ap (number 6) (rw e at (f.exits (v - n words) (omega arith) (omega arith)).kind)

    pub at_statement : (kind words v ≡ 6 → ⊥) → v ≤ n words
    at_statement d = go (leb v (n words)) refl
      where
        go : (b : Bool) → leb v (n words) ≡ b → v ≤ n words
        go true e = leb-true v (n words) e
        go false e = absurd (d (exit_kind (leb-false v (n words) e)))

    pub at_exit : kind words v ≡ 6 → n words < v
    at_exit e = go (leb v (n words)) refl
      where
        go : (b : Bool) → leb v (n words) ≡ b → n words < v
        go true d = absurd (some_kind f l (leb-true v (n words) d) (λ q. omega arith) (λ q. omega arith) (λ q. omega arith) (λ q. omega arith) (λ q. omega arith))
        go false d = leb-false v (n words) d

    pub any_kind : (kind words v ≡ 1 → ⊥) → (kind words v ≡ 2 → ⊥) → (kind words v ≡ 3 → ⊥) → (kind words v ≡ 4 → ⊥) → (kind words v ≡ 5 → ⊥) → (kind words v ≡ 6 → ⊥) → ⊥
    any_kind a b c d e x = some_kind f l (at_statement x) a b c d e

    -- so a kind is read of it
    pub kind_there : (o : Option Kind) → kind_value o ≡ kind words v → IsSome o
    kind_there (Some its) e = refl
    kind_there None e = absurd (any_kind (λ d. omega (arith, e, d)) (λ d. omega (arith, e, d)) (λ d. omega (arith, e, d)) (λ d. omega (arith, e, d)) (λ d. omega (arith, e, d)) (λ d. omega (arith, e, d)))
