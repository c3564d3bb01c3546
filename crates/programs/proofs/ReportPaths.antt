-- The report's own paths (section 2.3): states ⟨i, ω⟩, which know no open calls, and the steps of Table 3 with their labels, where at a return "the
-- valuation δ can be chosen arbitrarily". Runs are those paths from a start of main whose labels are a string of V: each step of such a path is a
-- step of a run, since V gives a return the return point and the locals of the call that waits.
use Rattle.std.specs.Prelude.{◌≡◌, ◌↔◌, ℕ, ◌+◌, ◌≤◌, T, ℤ, length}
use Rattle.std.proofs.Math.Path.{refl, sym, ap}
use Rattle.std.proofs.Common.{◌∙◌, subst, arith}
use Rattle.std.proofs.Math.Option.{some}
use mathlib.Core.List.{List, [], ◌∷◌, ◌++◌}
use Rattle.rows.specs.Rows.{Row}
use Rattle.programs.specs.Program as statements
use Rattle.programs.specs.Program.{Program, statement_at, exit_of, locals_of, others_of, parameters_of, owner, formed}
use Rattle.programs.specs.Runs.{Call, Waiting, State, entered, store, push, pop, Step, on_skip, on_assign, on_true, on_false, on_pass, on_fail, on_call, on_exit, Run, start, ◌then◌, initial, origin}
use Rattle.programs.proofs.FormLaws.{owner_exit}
use Rattle.programs.specs.RunWidths.{BelowWide, waits, Wide}
use Rattle.programs.proofs.RunWidths.{run_wide}
use Rattle.programs.specs.RunOwners as owners
use Rattle.programs.specs.RunOwners.{CallOwned, BelowOwned, Owned}
use Rattle.programs.proofs.RunOwners.{statement_vertex, run_owned}
use Rattle.programs.specs.ValidPaths.{Label, call, ret, label, labels, Valid}
use Rattle.programs.specs.OpenCallStrings.{UnmatchedCall, Reads, done, stays, calls, returns, LeftOpen, alone, above}
use Rattle.programs.proofs.OpenCallStrings.{reads_split, none_open, valid_iff, same_return, run_valid}
use Rattle.programs.specs.ReportPaths.{ReportPath, ReportState, ReportStep, RunAs, StepAs, by_assign, by_call, by_exit, by_fail, by_false, by_pass, by_skip, by_true, first, report_state, stands, steps}

module _ (p : Program) (f : T (formed p)) where
  -- ---- a run is a path of the report

  caller_locals : {q return r : ℕ} {actuals : List Row} {w : Waiting} {rest : List Waiting} → statement_at p w.caller.vertex ≡ some (statements.call return r actuals) → BelowWide p q (w ∷ rest) → BelowOwned p (w ∷ rest)
      → length w.caller.locals ≡ locals_of p (owner p w.caller.vertex)
  caller_locals {w = w} g (waits _ c _) (owners.waits o _) = c.widths.locals_width ∙ ap (locals_of p) (sym (o (statement_vertex p w.caller.vertex g)))

  step_reported : {s t : State} → Wide p s → Owned p s → (x : Step p s t) → ReportStep p (report_state s) (label x) (report_state t)
  unfolding label store push entered
  step_reported w o (on_skip g) = by_skip g
  step_reported w o (on_assign g) = by_assign g
  step_reported w o (on_true g a) = by_true g a
  step_reported w o (on_false g a) = by_false g a
  step_reported w o (on_pass g a) = by_pass g a
  step_reported w o (on_fail g a) = by_fail g a
  step_reported w o (on_call others n g) = by_call others n g
  step_reported w o (on_exit {c = c} {w = caller} ex g) = by_exit c.procedure w.top.low w.top.high ex caller.caller.vertex g caller.caller.locals (caller_locals g w.below o.below)

  run_path : {s : State} (run : Run p s) → ReportPath p (report_state (origin run)) (labels run) (report_state s)
  unfolding origin labels
  run_path (start _ _ _ _ _ _) = stands
  run_path (◌then◌ run step) = steps (run_path run) (step_reported (run_wide p f run) (run_owned p f run) step)

  none_waits : {os : List UnmatchedCall} → LeftOpen p [] os → os ≡ []
  none_waits alone = refl

  back_as : (globals : List ℤ) (c : Call) (ws : List Waiting) (os rest : List UnmatchedCall) (q return : ℕ) (δ : List ℤ) → 1 ≤ q → c.vertex ≡ exit_of p q → CallOwned p c → BelowWide p c.procedure ws → LeftOpen p ws os
      → Reads os (ret return δ ∷ []) rest → (StepAs p f) (record { globals = globals; top = c; below = ws }) (ret return δ) (record { vertex = return; globals = globals; locals = δ }) rest
  unfolding label exit_of
  back_as globals c [] os rest q return δ low e o b a r = absurd (none_open (none_waits a) r)
  back_as globals c (w ∷ ws) os rest q return δ low e o (waits {return = back} d _ _) (above {return = point} g a) (returns done) =
      let owns : owner p c.vertex ≡ c.procedure = o (omega arith) in
      let at : q ≡ c.procedure = sym (owner_exit p q low) ∙ (ap (owner p) (sym e) ∙ owns) in
      let same : back ≡ point = same_return (sym d ∙ g) in
      record {
        state = pop back w ws globals;
        step = on_exit (e ∙ ap (exit_of p) at) d;
        labelled = ap (λ i. ret i w.caller.locals) same;
        stands = ap (λ i. record { vertex = i; globals = globals; locals = w.caller.locals }) same;
        waiting = a;
      }

  step_as : (s : State) {l : Label} {z : ReportState} {os rest : List UnmatchedCall} → Wide p s → CallOwned p s.top → LeftOpen p s.below os → ReportStep p (report_state s) l z → Reads os (l ∷ []) rest
      → (StepAs p f) s l z rest
  unfolding label store push entered
  step_as s w o a (by_skip g) (stays done) = record { state = _; step = on_skip g; labelled = refl; stands = refl; waiting = a }
  step_as s w o a (by_assign g) (stays done) = record { state = _; step = on_assign g; labelled = refl; stands = refl; waiting = a }
  step_as s w o a (by_true g t) (stays done) = record { state = _; step = on_true g t; labelled = refl; stands = refl; waiting = a }
  step_as s w o a (by_false g t) (stays done) = record { state = _; step = on_false g t; labelled = refl; stands = refl; waiting = a }
  step_as s w o a (by_pass g t) (stays done) = record { state = _; step = on_pass g t; labelled = refl; stands = refl; waiting = a }
  step_as s w o a (by_fail g t) (stays done) = record { state = _; step = on_fail g t; labelled = refl; stands = refl; waiting = a }
  step_as s w o a (by_call others n g) (calls done) = record { state = _; step = on_call others n g; labelled = refl; stands = refl; waiting = above g a }
  step_as s {os = os} {rest} w o a (by_exit q low high e j {return} g δ n) r = back_as s.globals s.top s.below os rest q return δ low e o w.below a r

  module _ (globals arguments others : List ℤ) (hg : length globals ≡ p.globals) (ha : length arguments ≡ parameters_of p 1) (ho : length others ≡ others_of p 1) where
    one_more : {u : List Label} {l : Label} {y z : ReportState} {rest : List UnmatchedCall} (r : RunAs p (first p f globals arguments others hg ha ho) u y) (k : (StepAs p f) r.state l z rest) → RunAs p (first p f globals arguments others hg ha ho) (u ++ (l ∷ [])) z
    unfolding origin labels
    one_more {u} r k =
        record {
          state = k.state;
          run = ◌then◌ r.run k.step;
          begins = r.begins;
          labelled = ap (λ (v : List Label). v ++ (label k.step ∷ [])) r.labelled ∙ ap (λ m. u ++ (m ∷ [])) k.labelled;
          stands = k.stands;
        }

    run_as : {u : List Label} {y : ReportState} {rest : List UnmatchedCall} → ReportPath p (report_state (first p f globals arguments others hg ha ho)) u y → Reads [] u rest → (r : RunAs p (first p f globals arguments others hg ha ho) u y) × LeftOpen p r.state.below rest
    unfolding origin labels initial one_more
    run_as stands done = (record { state = (first p f globals arguments others hg ha ho); run = start globals arguments others hg ha ho; begins = refl; labelled = refl; stands = refl }, alone)
    run_as {rest = rest} (steps {u = u} {l} {y} {z} path x) reads =
        let (os, before, after) = reads_split u reads in
        let (r, a) = run_as path before in
        let k : (StepAs p f) r.state l z rest = step_as r.state (run_wide p f r.run) (run_owned p f r.run).top a (subst (λ (y : ReportState). ReportStep p y l z) (sym r.stands) x) after in (
          one_more r k,
          k.waiting,
        )

    -- "Runs are 000's valid paths, generated from V", from any start of main
    pub runs_are_valid_paths : (u : List Label) (y : ReportState) → (ReportPath p (report_state (first p f globals arguments others hg ha ho)) u y × Valid u) ↔ RunAs p (first p f globals arguments others hg ha ho) u y
    runs_are_valid_paths u y = (λ x. (run_as x.0 ((valid_iff u).0 x.1).1).0, λ r. (path r, subst Valid r.labelled (run_valid p r.run)))
      where
        path : RunAs p (first p f globals arguments others hg ha ho) u y → ReportPath p (report_state (first p f globals arguments others hg ha ho)) u y
        path r = rw (sym r.begins, sym r.labelled, sym r.stands) (run_path r.run)
