-- `values_tested` meets its contract: the first value that fails is the first failure, and if none does, all tests pass.
use Rattle.std.proofs.Common.{◌≡◌, sym, ◌∙◌, arith}
use Rattle.words.proofs.TestLoops.{no_test, next_passes}
use Rattle.answers.specs.TestedLaws.{loop_failed, loop_passed}
use Rattle.trace_steps.specs.ValueTests.{value_test}
use Rattle.trace_steps.proofs.starts.values_tested.Goals as goal

pub loop-i-init : goal.loop-i-init
loop-i-init c = no_test (value_test c.args.witness.now c.args.before)

pub returns-then-not-word_small : goal.returns-then-not-word_small
unfolding value_test
returns-then-not-word_small c =
    rw c.at.ensures
    (loop_failed (value_test c.args.witness.now c.args.before) c.args.count c.loop-i.i (omega arith) c.loop-i.invariant (sym c.word_small.ensures ∙ c.if-not-word_small.true))

pub loop-i-preserved : goal.loop-i-preserved
unfolding value_test
loop-i-preserved c = next_passes (value_test c.args.witness.now c.args.before) c.loop-i.i c.loop-i.invariant (sym c.word_small.ensures ∙ c.if-not-word_small.false)

pub returns : goal.returns
returns c =
    let e : c.loop-i.i ≡ c.args.count = omega arith in
    loop_passed (value_test c.args.witness.now c.args.before) c.args.count (rw e at c.loop-i.invariant)
