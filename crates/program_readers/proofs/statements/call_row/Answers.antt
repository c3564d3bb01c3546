-- `call_row` meets its contract: its fields are all there.
use Rattle.std.proofs.Common.{arith}
use Rattle.program_readers.specs.Inside.{call_inside}
use Rattle.program_readers.proofs.statements.call_row.Goals as goal

pub number_inside-requires : goal.number_inside-requires
number_inside-requires c = omega (arith, c.fields_inside-fields.ensures.value, call_inside c.args.program.now c.args.sizes c.requires)

pub number_inside-requires-2 : goal.number_inside-requires-2
number_inside-requires-2 c = omega (arith, c.fields_inside-fields.ensures.value, call_inside c.args.program.now c.args.sizes c.requires)
