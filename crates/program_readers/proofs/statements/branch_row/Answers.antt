-- `branch_row` meets its contract: its fields are all there.
use Rattle.std.proofs.Common.{arith}
use Rattle.program_readers.specs.Inside.{branch_inside}
use Rattle.program_readers.proofs.statements.branch_row.Goals as goal

pub number_inside-requires : goal.number_inside-requires
number_inside-requires c = omega (arith, c.fields_inside-fields.ensures.value, branch_inside c.args.program.now c.args.sizes c.requires)

pub number_inside-requires-2 : goal.number_inside-requires-2
number_inside-requires-2 c = omega (arith, c.fields_inside-fields.ensures.value, branch_inside c.args.program.now c.args.sizes c.requires)

pub op_inside-requires : goal.op_inside-requires
op_inside-requires c = omega (arith, c.fields_inside-fields.ensures.value, branch_inside c.args.program.now c.args.sizes c.requires)
