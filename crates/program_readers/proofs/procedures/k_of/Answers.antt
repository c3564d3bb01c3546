-- `k_of` meets its contract: the procedure that the table has is the vertex's, and one of 1..p.
use Rattle.std.proofs.Common.{◌≡◌, arith}
use Rattle.programs.specs.ProgramWords.{k, procedure_of}
use Rattle.programs.proofs.DecodedNumbers.{procedure_most}
use Rattle.program_readers.specs.OwnerLaws.{owners_long}
use Rattle.program_readers.proofs.procedures.k_of.Goals as goal
use Rattle.program_readers.proofs.procedures.k_of.Goals.{After-procedure_of-q}

found : (c : After-procedure_of-q) → c.procedure_of-q.result.0 ≡ procedure_of c.args.program.now c.args.v.0
found c = c.procedure_of-q.ensures c.args.program.now c.requires.header c.requires.owners c.requires.le_v

pub procedure_of-q-requires : goal.procedure_of-q-requires
procedure_of-q-requires c = owners_long c.args.program.now c.args.owners.now c.requires.owners c.args.sizes c.requires.header

pub locals_of-requires-clause-q_le_most_procedures : goal.locals_of-requires-clause-q_le_most_procedures
locals_of-requires-clause-q_le_most_procedures c =
    let h = c.requires.header in
    omega (arith, found c, h.statements, h.procedures, procedure_most c.args.program.now c.args.v.0 (omega (arith, h.statements, h.procedures)))

pub returns-clause-value : goal.returns-clause-value
unfolding k
returns-clause-value c = simp (c.requires.header.globals, c.locals_of.ensures.value, found (goal.at.returns-clause-value c).After-procedure_of-q)
