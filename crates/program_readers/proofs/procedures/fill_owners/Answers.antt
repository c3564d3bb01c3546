-- `fill_owners` meets its contract: the table is filled by one entry more.
use Rattle.std.proofs.Common.{◌≡◌, ◌+◌, arith}
use Rattle.programs.specs.ProgramWords.{n as statement_count}
use Rattle.program_readers.specs.OwnerLaws.{none_reached, none_filled, next_filled, procedure_reached, owners_filled}
use Rattle.program_readers.proofs.procedures.fill_owners.Goals as goal

pub loop-i-init : goal.loop-i-init
loop-i-init c = (none_reached c.args.program.now c.requires.exits_pass, none_filled c.args.program.now c.args.owners.now)

pub loop-i-preserved : goal.loop-i-preserved
loop-i-preserved c =
    let l = c.loop-i in
    let r = c.procedure_after-q in
    let here = procedure_reached c.args.program.now c.requires.exits_pass (l.i + 1) r.result.0 (omega (arith, c.requires.header.statements)) r.ensures in
    let filled = next_filled c.args.program.now l.owners l.i r.result.0 (omega arith) l.invariant.1 here in
    (r.ensures, rw c.owner_slot.ensures filled)

pub returns-clause-owners : goal.returns-clause-owners
returns-clause-owners c =
    let l = c.loop-i in
    let e : l.i ≡ statement_count c.args.program.now = omega (arith, c.requires.header.statements) in
    owners_filled c.args.program.now l.owners (omega arith) (rw e at l.invariant.1)
