-- What the form of a program says of a statement's row, by its kind: where the statement goes, and which column, op, expression, callee and
-- actuals it has. The kind of the form is the kind of the row, since both are read from the same word.
use Rattle.std.specs.Prelude.{◌≡◌, List, ℕ, ◌+◌, ◌*◌, ◌≤◌, ◌<◌, ℤ, length}
use Rattle.words.specs.RowWords.{row_size}
use Rattle.words.specs.RowForm.{RowsForm, Expression}
use Rattle.programs.specs.ProgramWords.{n, p, k, parameters, procedure_of}
use Rattle.programs.specs.Decode.{Fields, skip_row, assign_row, branch_row, assert_row, call_row, fields_of}

-- v is a statement, and its row a call's
pub record IsCall (program : List ℤ) (v back callee actuals : ℕ) : Type 0 where
  pub low : 1 ≤ v
  pub high : v ≤ n program
  pub row : fields_of program v ≡ call_row back callee actuals

module _ (program : List ℤ) where
  -- ---- what is known of a row

  -- a vertex that a statement of v goes to: one of the same procedure, or 0
  pub record Successor (v u : ℕ) : Type 0 where
    pub known : u ≤ n program + p program
    pub same : 1 ≤ u → procedure_of program u ≡ procedure_of program v

  -- a branch or an assert: where its sides go, and its op and expression
  pub record ConditionHere (v yea nay op at : ℕ) : Type 0 where
    pub op_known : op ≤ 6
    pub here : Expression program at (k program v)
    pub when_true : Successor v yea
    pub when_false : Successor v nay

  -- a call's return point is a vertex of the caller's procedure, and its actuals lie in the program's words
  pub record CallForm (v back callee actuals : ℕ) : Type 0 where
    pub callee_low : 1 ≤ callee
    pub callee_high : callee ≤ p program
    pub back_low : 1 ≤ back
    pub goes : Successor v back
    pub inside : actuals + parameters program callee * row_size (k program v) ≤ length program
    pub form : RowsForm program actuals (k program v) (parameters program callee)

  unfoldable pub RowHere : ℕ → Fields → Type 0
  RowHere v (skip_row next) = Successor v next
  RowHere v (assign_row next i at) = Successor v next × ((i < k program v) × Expression program at (k program v))
  RowHere v (branch_row yea nay op at) = ConditionHere v yea nay op at
  RowHere v (assert_row next op at) = (0 < op) × ConditionHere v next 0 op at
  RowHere v (call_row back callee at) = CallForm v back callee at
