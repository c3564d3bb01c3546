-- `read_counted` meets its contract: the program's tests come first, and a program that passes them has the form.
use Rattle.std.proofs.Common.{sym, ap, ◌∙◌}
use Rattle.programs.proofs.ProgramForm.{program_form_lem}
use Rattle.answers.specs.Answers.{refusal_of, told}
use Rattle.program_form.specs.FormLaws.{formed_form, formed_header, refused_first}
use Rattle.replay.specs.AnswerLaws.{refused_buffer, refused_count, form_refused, formed_answer}
use Rattle.replay.proofs.read_counted.Goals as goal

pub replay_formed-requires : goal.replay_formed-requires
replay_formed-requires c =
    let words = c.args.program.now in
    let e = sym c.program_tested-form.ensures.value ∙ ap told c.in-Ok.is in
    record { header = formed_header words c.in-Ok.sizes e; form = formed_form words c.in-Ok.sizes e }

pub returns-in-Ok-clause-answer_value : goal.returns-in-Ok-clause-answer_value
returns-in-Ok-clause-answer_value c =
    let words = c.args.program.now in
    let e = sym c.program_tested-form.ensures.value ∙ ap told c.in-Ok.is in
    c.replay_formed.ensures.answer_value ∙ formed_answer words c.args.witness.now c.args.buffer.now ((program_form_lem words).1 (formed_form words c.in-Ok.sizes e))

pub returns-in-Err : goal.returns-in-Err
returns-in-Err c =
    let words = c.args.program.now in
    let w = c.args.witness.now in
    let r = c.in-Err.refusal in
    rw c.refused.ensures
    (record {
      answer_value = form_refused words w c.args.buffer.now (refusal_of r) (refused_first words (refusal_of r) (sym c.program_tested-form.ensures.value ∙ ap told c.in-Err.is));
      buffer_after = refused_buffer words w c.args.buffer.now (refusal_of r);
      count_value = refused_count words w c.args.buffer.now (refusal_of r);
    })
