-- `convert_formed` meets its contract: where a test of the certificate fails its refusal is the outcome; else the certificate has the form, so the slice
-- is its row words.
use Rattle.std.proofs.Common.{length, arith, sym, ap, ◌∙◌}
use Rattle.std.proofs.lemmas.Result.{err_from_is_err_and}
use Rattle.certificates.specs.CertificateForm.{FormIn}
use Rattle.certificate_form.specs.EdgeColumns.{entries_is}
use Rattle.certificate_form.specs.PlainLaws.{slice_is}
use Rattle.answers.specs.Answers.{refusal_of, told}
use Rattle.layout_writers.specs.Answered.{refused_both}
use Rattle.converters.specs.Outcomes.{certificate_refused, certificate_formed}
use Rattle.converters.proofs.convert_formed.Goals as goal
use Rattle.converters.proofs.convert_formed.Goals.{In_ok-certificate_tested}

pub returns-in_err-certificate_tested : goal.returns-in_err-certificate_tested
returns-in_err-certificate_tested c =
    let a = c.args in
    let q = c.in_err-certificate_tested.field-0.0 in
    let (r, result, refusal) = err_from_is_err_and c.from_residual.result c.from_residual.ensures.1 in
    let (value, after) = refused_both a.buffer.now (refusal_of q)
    (certificate_refused a.program.now a.certificate.now a.form (length a.buffer.now) c.requires.program_form (refusal_of q) (sym c.certificate_tested.ensures ∙ ap told c.in_err-certificate_tested.was)) in
    record { value = rw (result, refusal) value; buffer_after = after }

formed : (c : In_ok-certificate_tested) → FormIn c.args.program.now c.args.certificate.now c.args.form
formed c =
    let a = c.args in
    certificate_formed a.program.now a.certificate.now a.form (length a.buffer.now) c.requires.program_form (sym c.certificate_tested.ensures ∙ ap told c.in_ok-certificate_tested.was)

pub slice_bounds-convert_tested-end : goal.slice_bounds-convert_tested-end
slice_bounds-convert_tested-end c =
    let a = c.args in
    omega (arith, (formed (goal.at.slice_bounds-convert_tested-end c).In_ok-certificate_tested).header.total, entries_is a.program.now a.certificate.now a.sizes c.requires.header, c.rows_start-start.ensures, c.number_at.ensures.value)

pub convert_tested-requires-clause-given : goal.convert_tested-requires-clause-given
convert_tested-requires-clause-given c =
    let a = c.args in
    record {
      header = c.requires.header;
      formed = formed (goal.at.convert_tested-requires-clause-given c).In_ok-certificate_tested;
      row_words = slice_is a.program.now a.certificate.now (entries_is a.program.now a.certificate.now a.sizes c.requires.header) c.rows_start-start.ensures c.number_at.ensures.value;
    }
