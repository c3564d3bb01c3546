-- `procedure_after` meets its contract: a vertex starts the next procedure or stays in the one before.
use Rattle.std.proofs.Common.{arith, sym, ◌∙◌}
use Rattle.program_readers.specs.OwnerLaws.{next_reached}
use Rattle.program_readers.proofs.procedures.procedure_after.Goals as goal

pub returns-then-first-v : goal.returns-then-first-v
returns-then-first-v c =
    next_reached c.args.program.now c.requires.exits_pass c.args.v.0 c.args.q.0 c.requires.le_v c.requires.reached
    (omega (arith, c.requires.header.procedures, c.if-q-sizes.true)) (sym c.first_of-first.ensures.result_value ∙ c.if-first-v.true)
