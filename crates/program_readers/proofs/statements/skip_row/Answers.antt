-- `skip_row` meets its contract: its field is there.
use Rattle.std.proofs.Common.{arith}
use Rattle.program_readers.specs.Inside.{skip_inside}
use Rattle.program_readers.proofs.statements.skip_row.Goals as goal

pub number_inside-requires : goal.number_inside-requires
number_inside-requires c = omega (arith, c.fields_inside.ensures.value, skip_inside c.args.program.now c.args.sizes c.requires)
