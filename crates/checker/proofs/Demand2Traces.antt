-- Demand 2 for traces, from the words: "Trace is answered if and only if both have the form, the room suffices and the listed vertices are a
-- run by the Linear Programs report, as document 01 condenses it, from the listed start to the error vertex, inside the stated depth and
-- value limits." The values that the run's calls are entered with are then exactly the listed entry values (document 02, CR 2). And what the
-- result buffer then holds: the k values of the call that stands at the failed assertion.
use Rattle.std.specs.Prelude.{◌≡◌, ◌↔◌, Bool, List, [], ◌++◌, ℕ, ◌≤◌, ℤ, pos, length, drop}
use Rattle.std.proofs.Math.Path.{refl, ap}
use Rattle.std.proofs.Common.{sym, ◌∙◌, subst, append-nil}
use Rattle.std.proofs.Math.Bool.{true, false, cond}
use Rattle.basics.proofs.Booleans.{is_true}
use Rattle.basics.specs.Integers.{eq_z}
use Rattle.basics.proofs.Integers.{eq→eqZ}
use Rattle.words.specs.Words.{word}
use Rattle.words.specs.Tests.{first_failure}
use Rattle.words.specs.Answer.{trace}
use Rattle.words.specs.AnswerLaws.{is_trace}
use Rattle.words.proofs.AnswerLaws.{accepted_after, passed_after}
use Rattle.programs.specs.ProgramTests.{program_tests}
use Rattle.programs.specs.ProgramForm.{ProgramForm}
use Rattle.programs.proofs.ProgramForm.{program_form_lem}
use Rattle.programs.specs.Program.{width_of}
use Rattle.programs.specs.Runs.{values_now, entry_values}
use Rattle.programs.proofs.RunWidths.{now_width, run_wide}
use Rattle.programs.proofs.Formed.{program_formed}
use Rattle.programs.specs.Decode as decode
use Rattle.programs.specs.Moves.{Configuration, configuration, current}
use Rattle.traces.specs.TraceWords.{trace_mark, N, listed_entry_values}
use Rattle.traces.specs.TraceTests.{trace_tests}
use Rattle.traces.proofs.TraceForm.{trace_form_lem}
use Rattle.traces.specs.Replay.{replay_answer, last_values, final_values, trace_answer}
use Rattle.traces.specs.Replay as replay
use Rattle.traces.proofs.TraceAnswers.{concluded_iff}
use Rattle.traces.specs.TracedRuns.{TracedRun}
use Rattle.traces.proofs.ReplayRuns.{replayed_iff}
use Rattle.checker.proofs.Demand2.{judged_untraced}
use Rattle.checker.specs.Check.{judged, replayed, check, buffer_after, checked_buffer}
use Rattle.checker.specs.Demand2Traces.{Replays, TraceForms}

module _ (program witness : List ℤ) where
  -- the check of a trace and a program that has the form is the trace's answer
  pub answers_trace : (buffer : ℕ) → ProgramForm program → word witness 0 ≡ pos trace_mark → check program witness buffer ≡ trace_answer program witness buffer
  unfolding check replayed
  answers_trace buffer f k =
      rw (is_true (eq_z (word witness 0) (pos trace_mark)) (eq→eqZ k)) ((passed_after (first_failure (program_tests program)) (trace_answer program witness buffer) ((program_form_lem program).1 f)).1 refl)

  -- where both have the form, the answer is what the replay concludes
  pub concludes : (buffer : ℕ) → (TraceForms program witness) → check program witness buffer ≡ replay_answer (N program witness) (length witness) buffer (replay.replayed_to program witness (N program witness))
  unfolding trace_answer
  concludes buffer f = answers_trace buffer f.program_form f.trace_form.header.mark ∙ (passed_after (first_failure (trace_tests program witness)) _ ((trace_form_lem program witness).1 f.trace_form)).1 refl

  -- and trace is only answered where both have the form
  trace_forms : (buffer steps : ℕ) → check program witness buffer ≡ trace steps → (TraceForms program witness)
  unfolding check
  trace_forms buffer steps e = go (eq_z (word witness 0) (pos trace_mark)) e
    where
      go : (b : Bool) → cond b (replayed program witness buffer) (judged program witness) ≡ trace steps → (TraceForms program witness)
      go true e =
          let x = (accepted_after (first_failure (program_tests program)) (trace_answer program witness buffer) (is_trace {steps = steps})).0 (unfold replayed in e) in
          record {
            program_form = (program_form_lem program).0 x.0;
            trace_form = (trace_form_lem program witness).0 ((accepted_after (first_failure (trace_tests program witness)) (replay_answer (N program witness) (length witness) buffer (replay.replayed_to program witness (N program witness))) (is_trace {steps = steps})).0 (unfold trace_answer in x.1)).0;
          }
      go false e = absurd (judged_untraced program witness steps e)

  -- the replay comes to where such a run ends
  pub comes_to : (TraceForms program witness) → (r : TracedRun program witness) → replay.replayed_to program witness (N program witness) ≡ replay.at (configuration r.failing.traced.state) []
  comes_to f r = (replayed_iff program witness f.program_form f.trace_form (configuration r.failing.traced.state) []).1 (record { run = r.failing; configured = refl; leaves = r.all_used })

  -- the calls of such a run are entered with the listed entry values, no more and no fewer
  pub entered_with_lem : (r : TracedRun program witness) → entry_values r.failing.traced.run ≡ listed_entry_values program witness
  entered_with_lem r =
      let x = r.failing.traced in
      sym (x.enters ∙ (ap (λ (l : List ℤ). entry_values x.run ++ l) r.all_used ∙ append-nil (entry_values x.run)))

  pub trace_answered : (buffer steps : ℕ) → (check program witness buffer ≡ trace steps) ↔ (Replays program witness) buffer steps
  trace_answered buffer steps = (there, back)
    where
      there : check program witness buffer ≡ trace steps → (Replays program witness) buffer steps
      there e =
          let f : (TraceForms program witness) = trace_forms buffer steps e in
          let x = (concluded_iff (N program witness) (length witness) buffer steps (replay.replayed_to program witness (N program witness))).0 (sym (concludes buffer f) ∙ e) in
          let y = (replayed_iff program witness f.program_form f.trace_form x.0 []).0 x.1 in
          record { forms = f; counted = x.2; run = record { failing = y.run; all_used = y.leaves }; suffices = subst (λ (c : Configuration). length (current c) ≤ buffer) (sym y.configured) x.3 }

      back : (Replays program witness) buffer steps → check program witness buffer ≡ trace steps
      back r = concludes buffer r.forms ∙ (concluded_iff (N program witness) (length witness) buffer steps (replay.replayed_to program witness (N program witness))).1
          (configuration r.run.failing.traced.state, comes_to r.forms r.run, r.counted, r.suffices)

  -- the last values are those of the state that such a run ends in
  pub final_values_lem : (TraceForms program witness) → (r : TracedRun program witness) → final_values program witness ≡ values_now r.failing.traced.state
  unfolding final_values last_values
  final_values_lem f r = ap last_values (comes_to f r)

  -- "after trace its front holds the last values and the rest is as it came"
  pub trace_buffer : (buffer : List ℤ) (steps : ℕ) (r : (Replays program witness) (length buffer) steps)
      → checked_buffer program witness buffer ≡ values_now r.run.failing.traced.state ++ drop (length (values_now r.run.failing.traced.state)) buffer
  unfolding checked_buffer buffer_after
  trace_buffer buffer steps r = rw ((trace_answered (length buffer) steps).1 r, final_values_lem r.forms r.run)

  -- which are "the k values at the failed assertion", with the k of the procedure that it stands in
  pub trace_width : ProgramForm program → (r : TracedRun program witness)
      → length (values_now r.failing.traced.state) ≡ width_of (decode.program program) r.failing.traced.state.top.procedure
  trace_width f r =
      let x = r.failing.traced in now_width (decode.program program) x.state (run_wide (decode.program program) (program_formed program f) x.run)
