-- `assert_row` meets its contract: its fields are all there.
use Rattle.std.proofs.Common.{arith}
use Rattle.program_readers.specs.Inside.{assert_inside}
use Rattle.program_readers.proofs.statements.assert_row.Goals as goal

pub number_inside-requires : goal.number_inside-requires
number_inside-requires c = omega (arith, c.fields_inside-fields.ensures.value, assert_inside c.args.program.now c.args.sizes c.requires)

pub op_inside-requires : goal.op_inside-requires
op_inside-requires c = omega (arith, c.fields_inside-fields.ensures.value, assert_inside c.args.program.now c.args.sizes c.requires)
