-- No program has both an accepted certificate and an accepted trace: the trace's run is one that demand 3 speaks of, and it ends at the error
-- vertex. So the judgement and the replay go by the same steps.
use Rattle.std.specs.Prelude.{◌≡◌, List, ℕ, ℤ}
use Rattle.words.specs.Answer.{trace}
use Rattle.checker.specs.Check.{check}
use Rattle.checker.specs.Demand2.{Accepted}
use Rattle.checker.specs.Demand2Traces.{Replays}
use Rattle.checker.proofs.Demand2Traces.{trace_answered}
use Rattle.checker.proofs.Demand3.{demand_3}

pub never_both : (program certificate witness : List ℤ) (buffer count buffer' steps : ℕ) → Accepted program certificate buffer count → check program witness buffer' ≡ trace steps → ⊥
never_both program certificate witness buffer count buffer' steps a e =
    let r : Replays program witness buffer' steps = (trace_answered program witness buffer' steps).0 e in
    (demand_3 program certificate buffer count a r.run.failing.traced.run).no_error r.run.failing.fails
