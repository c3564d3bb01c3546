-- `procedure_of` meets its contract: a statement's procedure is in the table, an exit's follows from its number.
use Rattle.std.proofs.Common.{arith}
use Rattle.program_readers.specs.OwnerLaws.{statement_owner, exit_owner}
use Rattle.program_readers.proofs.procedures.procedure_of.Goals as goal

pub returns-then-v-n : goal.returns-then-v-n
returns-then-v-n c program h o l = rw c.owner_slot-slot.ensures (statement_owner program c.args.owners.now o c.args.sizes h c.args.v.0 l c.if-v-n.true)

pub returns : goal.returns
returns c program h o l = exit_owner program c.args.owners.now o c.args.sizes h c.args.v.0 (omega (arith, c.if-v-n.false))
