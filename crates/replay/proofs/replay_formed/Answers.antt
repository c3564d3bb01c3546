-- `replay_formed` meets its contract: its three ends, at a test, at a step and after the last, are those of the definition, and the buffer is
-- written at the last alone.
use Rattle.std.proofs.Common.{◌≡◌, sym, ap, ◌∙◌}
use Rattle.std.proofs.Math.Option.{none}
use Rattle.words.specs.Tests.{first_failure}
use Rattle.traces.specs.TraceTests.{trace_tests}
use Rattle.traces.proofs.TraceForm.{trace_form_lem}
use Rattle.answers.specs.Answers.{answer_of, refusal_of, told}
use Rattle.answers.specs.TestedLaws.{passed_none, failed_some}
use Rattle.run_state.specs.State.{configuration_of}
use Rattle.trace_steps.specs.Runs.{standing_at, state_of}
use Rattle.trace_steps.specs.RunLaws.{ended_at, ended_refused}
use Rattle.trace_steps.specs.StartLaws.{blank}
use Rattle.replay.specs.AnswerLaws.{refused_buffer, refused_count, test_refused, step_refused, ended_answer, ended_buffer, ended_count}
use Rattle.replay.proofs.replay_formed.Goals as goal
use Rattle.replay.proofs.replay_formed.Goals.{In_default}

pub returns-in-Err : goal.returns-in-Err
returns-in-Err c =
    let p = c.args.program.now in
    let w = c.args.witness.now in
    let buffer = c.args.buffer.now in
    let r = c.in-Err.refusal in
    rw c.refused.ensures
    (record {
      answer_value = test_refused p w buffer (refusal_of r) (failed_some (first_failure (trace_tests p w)) (refusal_of r) (sym c.trace_tested.ensures ∙ ap told c.in-Err.is));
      buffer_after = refused_buffer p w buffer (refusal_of r);
      count_value = refused_count p w buffer (refusal_of r);
    })

-- the trace's tests passed
passed : (c : In_default) → first_failure (trace_tests c.args.program.now c.args.witness.now) ≡ none
passed c = passed_none (first_failure (trace_tests c.args.program.now c.args.witness.now)) (sym c.trace_tested.ensures ∙ ap told c.in_default.is)

pub run-ran-requires-clause-trace_form : goal.run-ran-requires-clause-trace_form
run-ran-requires-clause-trace_form c = (trace_form_lem c.args.program.now c.args.witness.now).0 (passed (goal.at.run-ran-requires-clause-trace_form c).In_default)

pub run-ran-requires-clause-blank : goal.run-ran-requires-clause-blank
run-ran-requires-clause-blank c = blank

pub conclude-requires-clause-trace_form : goal.conclude-requires-clause-trace_form
conclude-requires-clause-trace_form c = (trace_form_lem c.args.program.now c.args.witness.now).0 (passed (goal.at.conclude-requires-clause-trace_form c).In_default)

pub returns-in-Ok : goal.returns-in-Ok
returns-in-Ok c =
    let p = c.args.program.now in
    let w = c.args.witness.now in
    let buffer = c.args.buffer.now in
    let r = c.run-ran in
    let n = c.number_at-steps in
    let there = state_of p w r.new.globals r.new.frames (standing_at r.result) in
    let k = configuration_of p there in
    let e = ended_at p r.result.end there r.ensures.progress c.in-Ok.is in
    let a = answer_of c.conclude.result.answer in
    record {
      answer_value = c.conclude.ensures.answers ∙ ended_answer p w buffer n.result n.ensures.value k there.left e (passed (goal.at.returns-in-Ok c).In_default);
      buffer_after = c.conclude.ensures.fills ∙ ended_buffer p w buffer n.result n.ensures.value k there.left e a;
      count_value = c.conclude.ensures.counts ∙ ended_count p w buffer n.result n.ensures.value k there.left e a;
    }

pub returns-in-Err-end : goal.returns-in-Err-end
returns-in-Err-end c =
    let p = c.args.program.now in
    let w = c.args.witness.now in
    let buffer = c.args.buffer.now in
    let r = c.run-ran in
    let n = c.number_at-steps in
    let q = c.in-Err-end.refusal in
    let there = state_of p w r.new.globals r.new.frames (standing_at r.result) in
    rw c.refused-in-Err-end.ensures
    (record {
      answer_value = step_refused p w buffer n.result n.ensures.value (passed (goal.at.returns-in-Err-end c).In_default) (refusal_of q) (ended_refused p r.result.end there r.ensures.progress c.in-Err-end.is);
      buffer_after = refused_buffer p w buffer (refusal_of q);
      count_value = refused_count p w buffer (refusal_of q);
    })
