-- Two blocks of columns.
use Rattle.std.proofs.Common.{◌+◌, arith}
use Rattle.row_buffers.specs.EntryLimits.{target_limit}
use Rattle.images.specs.Sums.{Weights}
use Rattle.images.proofs.SumLaws.{fewer, later, weights_at, joined, still, put_in}
use Rattle.images.proofs.substitution.put_exit.Goals as goal
use Rattle.images.proofs.substitution.put_exit.Goals.{After-begin-at}

-- the weights, from where the coefficients stand
weights : (c : After-begin-at) → Weights c.args.rows.now c.begin-at.result (c.args.s.globals + c.args.s.parameters + c.args.s.globals)
weights c = weights_at c.requires.row_here c.begin-at.ensures

pub add_columns-requires-2-clause-weights : goal.add_columns-requires-2-clause-weights
add_columns-requires-2-clause-weights c = later (weights (goal.at.add_columns-requires-2-clause-weights c).After-begin-at) _ _ (omega arith)

pub add_columns-requires-2-clause-ready : goal.add_columns-requires-2-clause-ready
add_columns-requires-2-clause-ready c =
    still target_limit (fewer (weights (goal.at.add_columns-requires-2-clause-ready c).After-begin-at) _ (omega arith)) c.add_columns.ensures c.begin-at.ensures.ready (omega arith)

pub returns : goal.returns
returns c = put_in c.begin-at.ensures (joined c.add_columns.ensures c.add_columns-2.ensures)
