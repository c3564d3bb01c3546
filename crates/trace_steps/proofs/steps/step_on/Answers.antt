-- `step_on` meets its contract: the word lists a vertex, and the step there is made or refused; or it lists none.
use Rattle.std.proofs.Common.{sym, ◌∙◌}
use Rattle.trace_steps.specs.StepOnLaws.{came_on, refused_on, out_on}
use Rattle.trace_steps.proofs.steps.step_on.Goals as goal

pub returns-in_default : goal.returns-in_default
returns-in_default c =
    rw (c.failed_leaving.ensures, c.at-refusal.ensures)
    (out_on _ _ _ c.args.trace c.args.at _ _ c.args.here c.requires (sym c.natural_at-listed.ensures ∙ c.in_default.is))

pub returns-in-Err : goal.returns-in-Err
returns-in-Err c =
    rw (c.failed_leaving-in-Err.ensures, c.standing-there.ensures)
    (refused_on _ _ _ c.args.trace c.args.at _ _ c.args.here c.requires _ c.moved_on-stepped.result _ _ (sym c.natural_at-listed.ensures ∙ c.in-Some.is) c.moved_on-stepped.ensures _ c.in-Err.is)

pub returns : goal.returns
returns c =
    rw (c.passed.ensures, c.standing-there.ensures)
    (came_on _ _ _ c.args.trace c.args.at _ _ c.args.here c.requires _ c.moved_on-stepped.result _ _ (sym c.natural_at-listed.ensures ∙ c.in-Some.is) c.moved_on-stepped.ensures c.in_default-outcome.is)
