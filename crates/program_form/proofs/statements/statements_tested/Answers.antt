-- `statements_tested` meets its contract: one statement more passes, or it is the first that fails.
use Rattle.std.proofs.Common.{◌≡◌, arith, sym}
use Rattle.programs.specs.ProgramTests.{statement_test}
use Rattle.programs.specs.ProgramWords.{n as count}
use Rattle.answers.specs.TestedLaws.{loop_failed, loop_passed}
use Rattle.words.proofs.TestLoops.{no_test, next_passes}
use Rattle.program_form.proofs.statements.statements_tested.Goals as goal

pub loop-i-init : goal.loop-i-init
loop-i-init c = no_test (statement_test c.args.program.now)

pub returns-then-not-statement_passes : goal.returns-then-not-statement_passes
unfolding statement_test
returns-then-not-statement_passes c =
    rw (c.row_line-line.ensures, c.at-refusal.ensures, c.kind_place.ensures)
    (loop_failed (statement_test c.args.program.now) (count c.args.program.now) c.loop-i.i (omega (arith, c.requires.header.statements)) c.loop-i.invariant
    (sym c.if-not-statement_passes.ensures))

pub loop-i-preserved : goal.loop-i-preserved
unfolding statement_test
loop-i-preserved c =
    next_passes (statement_test c.args.program.now) c.loop-i.i c.loop-i.invariant (sym c.if-not-statement_passes.ensures)

pub returns : goal.returns
returns c =
    let e : c.loop-i.i ≡ count c.args.program.now = omega (arith, c.requires.header.statements) in
    loop_passed (statement_test c.args.program.now) (count c.args.program.now) (rw e at c.loop-i.invariant)
