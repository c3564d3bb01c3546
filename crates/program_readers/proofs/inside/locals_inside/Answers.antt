-- `locals_inside` meets its contract: the second field of an exit row, which is there whole.
use Rattle.std.proofs.Common.{◌≡◌, ◌+◌, ap, ◌∙◌, arith}
use Rattle.programs.specs.ProgramWords.{n, row, locals}
use Rattle.programs.proofs.LookUps.{look_ups}
use Rattle.program_readers.proofs.inside.locals_inside.Goals as goal
use Rattle.program_readers.proofs.inside.locals_inside.Goals.{After-row_inside-row}

-- where the exit row begins
begins : (c : After-row_inside-row) → let a = c.args in c.row_inside-row.result ≡ row a.program.now (n a.program.now + a.q.0)
begins c =
    let e : c.exit_of.result.0 ≡ n c.args.program.now + c.args.q.0 = omega (arith, c.exit_of.ensures, c.requires.header.0.statements) in
    c.row_inside-row.ensures.value ∙ ap (row c.args.program.now) e

pub number_inside-requires : goal.number_inside-requires
number_inside-requires c = omega (arith, begins c, (look_ups c.args.program.now c.requires.header.1).exit_rows c.args.q.0 c.requires.le_q.0 c.requires.le_q.1)

pub returns : goal.returns
unfolding locals
returns c = rw (begins (goal.at.returns c).After-row_inside-row) at c.number_inside.ensures.value
