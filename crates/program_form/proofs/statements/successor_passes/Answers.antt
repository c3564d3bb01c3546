-- `successor_passes` meets its contract: vertex 0 is refused, and the table has the procedures of the other two vertices.
use Rattle.std.proofs.Common.{◌≡◌, arith, sym, le-leb}
use Rattle.programs.specs.ProgramTests.{successor_passes, same_procedure}
use Rattle.programs.specs.ProgramWords.{procedure_of}
use Rattle.program_readers.specs.OwnerLaws.{owners_long}
use Rattle.program_form.proofs.statements.successor_passes.Goals as goal

pub procedure_of-its-requires : goal.procedure_of-its-requires
procedure_of-its-requires c = owners_long c.args.program.now c.args.owners.now c.requires.statement.owners c.args.sizes c.requires.statement.header

pub procedure_of-mine-requires : goal.procedure_of-mine-requires
procedure_of-mine-requires c = owners_long c.args.program.now c.args.owners.now c.requires.statement.owners c.args.sizes c.requires.statement.header

pub returns : goal.returns
unfolding successor_passes same_procedure
returns c =
    let s = c.requires.statement in
    let its : c.procedure_of-its.result.0 ≡ procedure_of c.args.program.now c.vertex_at-w.result.0 = c.procedure_of-its.ensures c.args.program.now s.header s.owners (omega (arith, c.if-w-eq0.false)) in
    let mine : c.procedure_of-mine.result.0 ≡ procedure_of c.args.program.now c.args.v.0 = c.procedure_of-mine.ensures c.args.program.now s.header s.owners s.low in
    simp (sym c.fields_at.ensures.value, sym c.vertex_at-w.ensures.result_value, le-leb 1 c.vertex_at-w.result.0 (omega (arith, c.if-w-eq0.false)), s.header.statements, s.header.procedures, its, mine)
