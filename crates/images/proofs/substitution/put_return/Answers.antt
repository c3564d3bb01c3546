-- Three blocks of columns.
use Rattle.std.proofs.Common.{◌+◌, ◌-◌, append_assoc, arith}
use Rattle.rows.specs.Columns.{columns as block}
use Rattle.row_buffers.specs.EntryLimits.{target_limit}
use Rattle.images.specs.Sums.{Weights}
use Rattle.images.proofs.SumLaws.{fewer, later, weights_at, joined, still, put_in}
use Rattle.images.proofs.substitution.put_return.Goals as goal
use Rattle.images.proofs.substitution.put_return.Goals.{After-begin-at}

-- the weights, from where the coefficients stand
weights : (c : After-begin-at) → Weights c.args.rows.now c.begin-at.result (c.args.s.k + c.args.s.k)
weights c = weights_at c.requires.row_here c.begin-at.ensures

pub add_columns-requires-2-clause-weights : goal.add_columns-requires-2-clause-weights
add_columns-requires-2-clause-weights c = later (weights (goal.at.add_columns-requires-2-clause-weights c).After-begin-at) _ _ (omega arith)

pub add_columns-requires-2-clause-ready : goal.add_columns-requires-2-clause-ready
add_columns-requires-2-clause-ready c =
    still target_limit (fewer (weights (goal.at.add_columns-requires-2-clause-ready c).After-begin-at) _ (omega arith)) c.add_columns.ensures c.begin-at.ensures.ready (omega arith)

pub add_columns-requires-3-clause-weights : goal.add_columns-requires-3-clause-weights
add_columns-requires-3-clause-weights c = later (weights (goal.at.add_columns-requires-3-clause-weights c).After-begin-at) _ _ (omega arith)

pub add_columns-requires-3-clause-ready : goal.add_columns-requires-3-clause-ready
add_columns-requires-3-clause-ready c =
    still target_limit (fewer (weights (goal.at.add_columns-requires-3-clause-ready c).After-begin-at) _ (omega arith)) (joined c.add_columns.ensures c.add_columns-2.ensures) c.begin-at.ensures.ready (omega arith)

pub returns : goal.returns
returns c =
    let s = c.args.s in
    rw (append_assoc (block 0 s.k) (block (s.k + s.k) s.globals) (block (s.k + s.globals) (s.k - s.globals)))
    at (put_in c.begin-at.ensures (joined (joined c.add_columns.ensures c.add_columns-2.ensures) c.add_columns-3.ensures))
