-- `trim` meets its contract: the program's refusal is the outcome, or that of a certificate of a program that has its form.
use Rattle.std.specs.Prelude.{Ok}
use Rattle.std.proofs.Common.{◌≡◌, length, sym, ap, ◌∙◌}
use Rattle.std.proofs.lemmas.Result.{err_from_is_err_and}
use Rattle.answers.specs.Answers.{refusal_of, told}
use Rattle.program_form.specs.Form.{program_form}
use Rattle.program_form.specs.FormLaws.{formed_form, formed_header}
use Rattle.layout_writers.specs.Answered.{refused_both}
use Rattle.trimmer.specs.TrimOutcomes.{program_refused}
use Rattle.trimmer.proofs.trim.Goals as goal
use Rattle.trimmer.proofs.trim.Goals.{In_ok-sizes}

-- the program has its form
formed : (c : In_ok-sizes) → program_form c.args.program.now ≡ Ok c.in_ok-sizes.sizes
formed c = sym c.program_tested.ensures.value ∙ ap told c.in_ok-sizes.was

pub trim_formed-requires-clause-header : goal.trim_formed-requires-clause-header
trim_formed-requires-clause-header c = formed_header c.args.program.now c.in_ok-sizes.sizes (formed (goal.at.trim_formed-requires-clause-header c).In_ok-sizes)

pub trim_formed-requires-clause-program_form : goal.trim_formed-requires-clause-program_form
trim_formed-requires-clause-program_form c = formed_form c.args.program.now c.in_ok-sizes.sizes (formed (goal.at.trim_formed-requires-clause-program_form c).In_ok-sizes)

pub returns-in_err-sizes : goal.returns-in_err-sizes
returns-in_err-sizes c =
    let a = c.args in
    let (r, result, refusal) = err_from_is_err_and c.from_residual.result c.from_residual.ensures.1 in
    let (value, after) = refused_both a.buffer.now (refusal_of c.in_err-sizes.field-0.0)
    (program_refused a.program.now a.certificate.now (length a.buffer.now) (refusal_of c.in_err-sizes.field-0.0) (sym c.program_tested.ensures.value ∙ ap told c.in_err-sizes.was)) in
    record { value = rw (result, refusal) value; buffer_after = after }
