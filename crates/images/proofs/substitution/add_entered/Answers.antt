-- A block of columns, the actuals behind it, and the fresh columns behind these.
use Rattle.std.proofs.Common.{◌+◌, arith}
use Rattle.row_buffers.specs.EntryLimits.{target_limit}
use Rattle.images.proofs.SumLaws.{fewer, later, joined, still}
use Rattle.images.proofs.substitution.add_entered.Goals as goal

pub add_expressions-requires-clause-weights : goal.add_expressions-requires-clause-weights
add_expressions-requires-clause-weights c = later c.requires.weights _ _ (omega arith)

pub add_expressions-requires-clause-ready : goal.add_expressions-requires-clause-ready
add_expressions-requires-clause-ready c =
    let p = c.requires in
    still target_limit (fewer p.weights _ (omega arith)) c.add_columns.ensures p.ready (omega (arith, p.shape_form.few_globals))

pub add_columns-requires-2-clause-weights : goal.add_columns-requires-2-clause-weights
add_columns-requires-2-clause-weights c =
    let s = c.args.s in
    later (later c.requires.weights s.globals (s.parameters + c.args.fresh) (omega arith)) _ _ (omega arith)

pub add_columns-requires-2-clause-ready : goal.add_columns-requires-2-clause-ready
add_columns-requires-2-clause-ready c =
    let p = c.requires in
    still target_limit (fewer p.weights _ (omega arith)) (joined c.add_columns.ensures c.add_expressions.ensures) p.ready (omega (arith, p.shape_form.few_globals, p.shape_form.few_locals))

pub returns : goal.returns
returns c = joined c.add_columns.ensures (joined c.add_expressions.ensures c.add_columns-2.ensures)
