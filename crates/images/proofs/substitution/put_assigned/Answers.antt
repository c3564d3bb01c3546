-- The column that is assigned is cleared in a copy of the row, and the expression added with its coefficient.
use Rattle.std.proofs.Common.{sym, ap, ◌∙◌, ℕ, ◌+◌, drop, length-set, ℤ, arith}
use Rattle.rows.specs.Rows.{Row, substitute}
use Rattle.rows.specs.Columns.{columns as block}
use Rattle.words.specs.Words.{word}
use Rattle.words.specs.RowWords.{row_of}
use Rattle.row_buffers.proofs.EntryLimits.{small_weaken, limited_small}
use Rattle.row_buffers.proofs.RowsOfWords.{narrow_row, entry_coefficient, form_limited}
use Rattle.images.proofs.Copied.{cleared_small, expression_put}
use Rattle.images.proofs.substitution.put_assigned.Goals as goal
use Rattle.images.proofs.substitution.put_assigned.Goals.{Start}

module _ (s : Start) where
  -- the row, and the expression
  abbrev row : Row
  row = row_of (s.args.k + s.args.k) (drop s.args.from s.args.rows.now)

  abbrev expression : Row
  expression = substitute (block s.args.k s.args.k) (row_of s.args.k (drop s.args.place s.args.words.now))

pub add_expression-requires-clause-columns_in_bounds : goal.add_expression-requires-clause-columns_in_bounds
add_expression-requires-clause-columns_in_bounds c =
    let s = (goal.at.add_expression-requires-clause-columns_in_bounds c).Start in
    let a = c.args in (
      omega (arith, length-set {A = ℤ}),
      cleared_small a.k a.i c.requires.i_lt_k (expression s) (row s) (narrow_row (a.k + a.k) (drop a.from a.rows.now)) a.target.now _ (omega arith) c.copy_row.ensures
          (small_weaken (omega arith) (limited_small (form_limited c.requires.k_in_bounds.1))),
    )

pub returns : goal.returns
returns c =
    let s = (goal.at.returns c).Start in
    let a = c.args in
    expression_put a.k a.i c.requires.i_lt_k (expression s) (row s) (narrow_row (a.k + a.k) (drop a.from a.rows.now)) a.target.now _ (omega arith) c.copy_row.ensures _ _
    (ap (λ (p : ℕ). word a.rows.now (p + (a.k + a.i))) c.coefficients_from.ensures ∙ sym (entry_coefficient (a.k + a.k) a.from (a.k + a.i) a.rows.now (omega arith)))
    c.add_expression.ensures
