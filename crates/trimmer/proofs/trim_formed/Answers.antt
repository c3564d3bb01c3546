-- `trim_formed` meets its contract: what the judge refuses is refused, a trace as no certificate, and what it accepts is trimmed.
use Rattle.std.proofs.Common.{◌≡◌, length, sym, ap, ◌∙◌}
use Rattle.words.specs.Tests.{refusal_at}
use Rattle.checker.specs.Check.{judged}
use Rattle.answers.specs.Answers.{refusal_of, answer_of}
use Rattle.judge.specs.WholeLaws.{judged_formed}
use Rattle.layout_writers.specs.Answered.{refused_both}
use Rattle.trimmer.specs.TrimOutcomes.{judge_refused, judge_traced}
use Rattle.trimmer.proofs.trim_formed.Goals as goal
use Rattle.trimmer.proofs.trim_formed.Goals.{After-judge_formed-answer}

-- what the judge answers is the answer to the program and the certificate
told : (c : After-judge_formed-answer) → judged c.args.program.now c.args.certificate.now ≡ answer_of c.judge_formed-answer.result
told c = sym (c.judge_formed-answer.ensures ∙ judged_formed c.args.program.now c.args.certificate.now c.requires.program_form)

pub trim_safe-requires-clause-accepts : goal.trim_safe-requires-clause-accepts
trim_safe-requires-clause-accepts c = record { count = c.in-Safe.held; safely = told (goal.at.trim_safe-requires-clause-accepts c).After-judge_formed-answer ∙ ap answer_of c.in-Safe.is }

pub returns-in-Trace : goal.returns-in-Trace
returns-in-Trace c =
    let a = c.args in
    let (value, after) = refused_both a.buffer.now (refusal_at 4 0)
    (judge_traced a.program.now a.certificate.now (length a.buffer.now) _ (told (goal.at.returns-in-Trace c).After-judge_formed-answer ∙ ap answer_of c.in-Trace.is)) in
    record { value = rw c.at.ensures value; buffer_after = after }

pub returns-in-Refused : goal.returns-in-Refused
returns-in-Refused c =
    let a = c.args in
    let r = c.in-Refused.refusal in
    let (value, after) = refused_both a.buffer.now (refusal_of r)
    (judge_refused a.program.now a.certificate.now (length a.buffer.now) (refusal_of r) (told (goal.at.returns-in-Refused c).After-judge_formed-answer ∙ ap answer_of c.in-Refused.is)) in
    record { value = value; buffer_after = after }
