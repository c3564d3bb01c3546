-- `all_steps` meets its contract: a step that is made leads on, a refusal stays, and after the last step the replay stands where it ended.
use Rattle.std.proofs.Common.{◌≡◌, ◌+◌, sym, arith}
use Rattle.trace_steps.specs.Runs.{progress_by}
use Rattle.trace_steps.specs.StepOnLaws.{here_first, here_after, failed_stays}
use Rattle.replay.proofs.runs.all_steps.Goals as goal

pub loop-i-init : goal.loop-i-init
loop-i-init c = here_first _ c.args.sizes _ _ c.args.steps _ _ c.trace_sizes-trace.result c.trace_sizes-trace.ensures c.requires

pub returns-in-Err : goal.returns-in-Err
returns-in-Err c = failed_stays _ _ _ (c.loop-i.i + 1) c.args.steps _ _ c.step_on-ran.result _ (omega arith) c.step_on-ran.ensures c.in-Err.is

pub loop-i-preserved : goal.loop-i-preserved
loop-i-preserved c =
    here_after _ _ _ c.trace_sizes-trace.result c.loop-i.i _ _ _ c.loop-i.invariant (c.loop-i.i + 1) _ _ c.step_on-ran.result c.step_on-ran.ensures c.in_default.is (omega (arith, c.requires.count))

pub returns : goal.returns
unfolding progress_by
returns c =
    let e : c.loop-i.i ≡ c.args.steps = omega arith in
    rw (c.passed.ensures, c.standing.ensures) (record { progress = sym (rw e at c.loop-i.invariant.came); proper = c.loop-i.invariant.proper; few_used = c.loop-i.invariant.few_used })
