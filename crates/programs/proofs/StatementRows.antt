-- What the form of a program says of a statement's row, by its kind: where the statement goes, and which column, op, expression, callee and
-- actuals it has. The kind of the form is the kind of the row, since both are read from the same word.
use Rattle.std.specs.Prelude.{◌≡◌, List, ℕ, ◌+◌, ◌*◌, ◌≤◌, ◌<◌, ◌≤ℤ◌, ◌<ℤ◌, ℤ, pos}
use Rattle.std.proofs.Math.Path.{ap}
use Rattle.std.proofs.Common.{subst, arith}
use Rattle.basics.proofs.Integers.{ints}
use Rattle.words.specs.Limits.{most_globals, most_locals}
use Rattle.words.specs.Words.{number}
use Rattle.words.specs.RowWords.{row_size}
use Rattle.words.specs.RowForm.{RowForm, RowsForm, Expression}
use Rattle.words.specs.Ranges.{Between}
use Rattle.words.proofs.Ranges.{number_most, number_range, number_is}
use Rattle.programs.specs.ProgramWords.{by_kind, n, p, G, locals, k, line_words, fields, field, parameters, vertex_field, procedure_field, column_field, op_field}
use Rattle.programs.specs.ProgramForm.{ProgramForm, SuccessorForm, ConditionForm, FieldsForm, RowInPool, skip_form, assign_form, branch_form, assert_form, call_form}
use Rattle.programs.proofs.ProgramForm.{successor_range}
use Rattle.programs.proofs.LookUps.{fields_inside}
use Rattle.programs.proofs.DecodedNumbers.{k_most}
use Rattle.programs.proofs.Formed.{callee_range}
use Rattle.programs.specs.Decode.{Fields, call_row, fields_of}
use Rattle.programs.specs.StatementRows.{CallForm, ConditionHere, IsCall, RowHere, Successor}

module _ (program : List ℤ) where
  module _ (v : ℕ) where
    -- a vertex of the same procedure has as many columns
    pub same_columns : {u : ℕ} → (Successor program) v u → 1 ≤ u → k program u ≡ k program v
    unfolding k
    same_columns s l = ap (λ (q : ℕ). G program + locals program q) (s.same l)

    nowhere : (Successor program) v 0
    nowhere = record { known = omega arith; same = λ l. absurd (omega arith) }

    successor_of : (i : ℕ) → SuccessorForm program v i → (Successor program) v (vertex_field program v i)
    successor_of i s = let (one, (last, same)) = successor_range program v i s in record { known = last; same = λ l. same }

    column_small : (pos 0 ≤ℤ field program v 1) × (field program v 1 <ℤ pos (k program v)) → column_field program v 1 < k program v
    column_small c =
        let most = k_most program v in
        omega (arith, ints, number_is (most_globals + most_locals) (most_globals + most_locals) (field program v 1) (omega arith) c.0 (omega (arith, ints, c.1)), c.1)

    module _ (f : ProgramForm program) where
      expression_here : (i : ℕ) → RowInPool program v (line_words + (i + row_size (k program v))) → RowForm program (fields program v + i) (k program v) → Expression program (fields program v + i) (k program v)
      expression_here i r x = record { inside = omega (arith, fields_inside program f v (i + row_size (k program v)) r); form = x }

      condition_here : (low i yea nay : ℕ) → RowInPool program v (line_words + (i + 1 + row_size (k program v))) → ConditionForm program low (fields program v + i) (k program v) → (Successor program) v yea → (Successor program) v nay
          → (ConditionHere program) v yea nay (op_field program v i) (fields program v + (i + 1))
      condition_here low i yea nay r c y z =
          let e : fields program v + i + 1 ≡ fields program v + (i + 1) = omega arith in
          record { op_known = number_most 6 (field program v i); here = expression_here (i + 1) r (rw e at c.expression); when_true = y; when_false = z }

      call_here : RowInPool program v (line_words + (2 + parameters program (procedure_field program v 1) * row_size (k program v))) → SuccessorForm program v 0 → Between (pos 1) (pos (p program)) (field program v 1)
          → RowsForm program (fields program v + 2) (k program v) (parameters program (procedure_field program v 1))
          → (CallForm program) v (vertex_field program v 0) (procedure_field program v 1) (fields program v + 2)
      call_here r s q x =
          let (least, most) = callee_range program v q in
          record {
            callee_low = least;
            callee_high = most;
            back_low = (successor_range program v 0 s).0;
            goes = successor_of 0 s;
            inside = omega (arith, fields_inside program f v (2 + parameters program (procedure_field program v 1) * row_size (k program v)) r);
            form = x;
          }

      row_of : FieldsForm program v → (RowHere program) v (fields_of program v)
      unfolding fields_of by_kind number RowHere
      row_of (skip_form e r s) = rw e (successor_of 0 s)
      row_of (assign_form e r s c x) = rw e (successor_of 0 s, (column_small c, expression_here 2 r x))
      row_of (branch_form e r s u c) = rw e (condition_here 0 2 (vertex_field program v 0) (vertex_field program v 1) r c (successor_of 0 s) (successor_of 1 u))
      row_of (assert_form e r s c) = rw e ((number_range 1 6 6 (field program v 1) (omega arith) c.op).0, condition_here 1 1 (vertex_field program v 0) 0 r c (successor_of 0 s) nowhere)
      row_of (call_form e r s q x) = rw e (call_here r s q x)

      pub row_here : (r : Fields) → 1 ≤ v → v ≤ n program → fields_of program v ≡ r → (RowHere program) v r
      row_here r low high e = subst ((RowHere program) v) e (row_of (f.statements v low high).fields_form)

      pub called : {back callee actuals : ℕ} → IsCall program v back callee actuals → (CallForm program) v back callee actuals
      unfolding RowHere
      called {back} {callee} {actuals} c = row_here (call_row back callee actuals) c.low c.high c.row
