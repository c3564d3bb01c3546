-- Globals, actuals and fresh columns, at entry and now.
use Rattle.std.proofs.Common.{◌+◌, arith}
use Rattle.certificates.specs.Entailments.{entry_image}
use Rattle.entailments.specs.Meaning.{procedure_columns}
use Rattle.images.specs.Sums.{middle_limit, Weights}
use Rattle.images.proofs.SumLaws.{fewer, later, weights_at, joined, still, put_in}
use Rattle.images.proofs.substitution.put_entry.Goals as goal
use Rattle.images.proofs.substitution.put_entry.Goals.{After-begin-at}

-- the weights, from where the coefficients stand
weights : (c : After-begin-at) → Weights c.args.rows.now c.begin-at.result (procedure_columns c.args.s + procedure_columns c.args.s)
weights c = weights_at c.requires.row_here c.begin-at.ensures

pub add_entered-requires-2-clause-weights : goal.add_entered-requires-2-clause-weights
add_entered-requires-2-clause-weights c = later (weights (goal.at.add_entered-requires-2-clause-weights c).After-begin-at) _ _ (omega arith)

pub add_entered-requires-2-clause-ready : goal.add_entered-requires-2-clause-ready
add_entered-requires-2-clause-ready c =
    still middle_limit (fewer (weights (goal.at.add_entered-requires-2-clause-ready c).After-begin-at) _ (omega arith)) c.add_entered.ensures c.begin-at.ensures.ready (omega arith)

pub returns : goal.returns
unfolding entry_image
returns c = put_in c.begin-at.ensures (joined c.add_entered.ensures c.add_entered-2.ensures)
