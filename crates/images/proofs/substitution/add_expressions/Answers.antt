-- The sums so far can be added to, and one more row is the next expression's.
use Rattle.std.proofs.Common.{◌+◌, ◌*◌, arith}
use Rattle.rows.specs.Rows.{substitute_all}
use Rattle.words.specs.RowWords.{rows_by, rows_of}
use Rattle.words.specs.RowForm.{Expression}
use Rattle.row_buffers.specs.EntryLimits.{sum_limit}
use Rattle.images.specs.Sums.{Ready}
use Rattle.images.proofs.SumLaws.{fewer, none_summed, expression_more, still}
use Rattle.images.proofs.substitution.add_expressions.Goals as goal
use Rattle.images.proofs.substitution.add_expressions.Goals.{In-loop-i}

pub loop-i-init : goal.loop-i-init
unfolding substitute_all rows_of rows_by
loop-i-init c = none_summed c.args.rows.now c.args.columns c.args.at c.args.target.now

module _ (c : In-loop-i) where
  -- the expression of a turn
  here : Expression c.args.words.now (c.args.place + c.loop-i.i * c.row_words-size.result) c.args.k
  here = rw c.row_words-size.ensures (c.requires.expressions.each c.loop-i.i (omega arith))

  -- the sums so far can be added to
  ready : Ready c.args.columns sum_limit c.loop-i.target
  ready = still sum_limit (fewer c.requires.weights c.loop-i.i (omega arith)) c.loop-i.invariant c.requires.ready (omega arith)

pub add_expression-requires-clause-columns_in_bounds : goal.add_expression-requires-clause-columns_in_bounds
add_expression-requires-clause-columns_in_bounds c = let q = ready (goal.at.add_expression-requires-clause-columns_in_bounds c).In-loop-i in (q.long, q.small)

pub loop-i-preserved : goal.loop-i-preserved
loop-i-preserved c =
    let n = (goal.at.loop-i-preserved c).In-loop-i in
    let a = c.args in
    let size = c.row_words-size.ensures in
    expression_more c.requires.weights (ready n).long c.loop-i.i (omega arith) a.words.now a.place a.k (rw size at (here n)) c.loop-i.invariant (rw size at c.add_expression.ensures)
