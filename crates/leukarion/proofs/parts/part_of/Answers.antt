-- The tests on the number choose as the definition does: 13 and 25 are found first.
use Rattle.std.proofs.Common.{sym, ap, arith}
use Rattle.leukarion.specs.Parts.{part_for}
use Rattle.leukarion.specs.PartLaws.{below_one, one_to_three, but_thirteen, thirteen, twenty_five_lem, above_fifteen}
use Rattle.leukarion.proofs.parts.part_of.Goals as goal

pub returns-in-13 : goal.returns-in-13
returns-in-13 c = ap part_for (sym (thirteen c.args.number c.in-13.is))

pub returns-in-25 : goal.returns-in-25
returns-in-25 c = ap part_for (sym (twenty_five_lem c.args.number c.in-25.is))

pub returns-in-1-to-3 : goal.returns-in-1-to-3
returns-in-1-to-3 c = ap part_for (sym (one_to_three c.args.number (omega arith) (omega arith)))

pub returns-in-4-to-15 : goal.returns-in-4-to-15
returns-in-4-to-15 c = ap part_for (sym (but_thirteen c.args.number (omega arith) (omega arith) (λ e. omega arith)))

pub returns-in_default : goal.returns-in_default
returns-in_default c = ap part_for (sym (below_one c.args.number (omega arith)))

pub returns-in_default-2 : goal.returns-in_default-2
returns-in_default-2 c = ap part_for (sym (above_fifteen c.args.number (omega arith) (λ e. omega arith)))
