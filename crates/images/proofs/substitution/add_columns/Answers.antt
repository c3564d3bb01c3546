-- The sums so far can be added to, and one more row is the next column's.
use Rattle.std.proofs.Common.{arith}
use Rattle.rows.specs.Columns.{columns as block}
use Rattle.row_buffers.specs.EntryLimits.{sum_limit}
use Rattle.images.specs.Sums.{Ready}
use Rattle.images.proofs.SumLaws.{fewer, none_summed, column_more, still}
use Rattle.images.proofs.substitution.add_columns.Goals as goal
use Rattle.images.proofs.substitution.add_columns.Goals.{In-loop-i}

pub loop-i-init : goal.loop-i-init
unfolding block
loop-i-init c = none_summed c.args.rows.now c.args.columns c.args.at c.args.target.now

-- the sums so far can be added to
ready : (c : In-loop-i) → Ready c.args.columns sum_limit c.loop-i.target
ready c = still sum_limit (fewer c.requires.weights c.loop-i.i (omega arith)) c.loop-i.invariant c.requires.ready (omega (arith, c.requires.ready.narrow))

pub add_column-requires-clause-columns_in_bounds : goal.add_column-requires-clause-columns_in_bounds
add_column-requires-clause-columns_in_bounds c = let q = ready (goal.at.add_column-requires-clause-columns_in_bounds c).In-loop-i in (q.long, q.small)

pub loop-i-preserved : goal.loop-i-preserved
loop-i-preserved c = column_more c.requires.weights (ready (goal.at.loop-i-preserved c).In-loop-i).long c.loop-i.i (omega arith) c.args.c c.loop-i.invariant c.add_column.ensures
