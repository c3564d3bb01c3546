-- `exits_tested` meets its contract: one exit more passes, or it is the first that fails.
use Rattle.std.proofs.Common.{◌≡◌, arith, sym}
use Rattle.programs.specs.ProgramTests.{exit_test}
use Rattle.programs.specs.ProgramWords.{p as count}
use Rattle.answers.specs.TestedLaws.{loop_failed, loop_passed}
use Rattle.words.proofs.TestLoops.{no_test, next_passes}
use Rattle.program_form.proofs.tests.exits_tested.Goals as goal

pub loop-i-init : goal.loop-i-init
loop-i-init c = no_test (exit_test c.args.program.now)

pub returns-then-not-exit_passes : goal.returns-then-not-exit_passes
unfolding exit_test
returns-then-not-exit_passes c =
    rw (c.at.ensures, c.kind_place-place.ensures, c.exit_of.ensures, c.requires.statements)
    (loop_failed (exit_test c.args.program.now) (count c.args.program.now) c.loop-i.i (omega (arith, c.requires.procedures)) c.loop-i.invariant
    (sym c.if-not-exit_passes.ensures))

pub loop-i-preserved : goal.loop-i-preserved
unfolding exit_test
loop-i-preserved c =
    next_passes (exit_test c.args.program.now) c.loop-i.i c.loop-i.invariant (sym c.if-not-exit_passes.ensures)

pub returns : goal.returns
returns c =
    let e : c.loop-i.i ≡ count c.args.program.now = omega (arith, c.requires.procedures) in
    loop_passed (exit_test c.args.program.now) (count c.args.program.now) (rw e at c.loop-i.invariant)
