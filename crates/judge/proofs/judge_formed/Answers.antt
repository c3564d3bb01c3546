-- `judge_formed` meets its contract: where a test of the certificate fails the answer is its refusal; else the certificate has its form, so the
-- slices are its row words and its witness's words.
use Rattle.std.proofs.Common.{◌≡◌, ◌+◌, ◌≤◌, length, sym, ap, ◌∙◌, arith}
use Rattle.words.specs.declared.StoredForm.{StoredForm}
use Rattle.words.specs.Tests.{first_failure}
use Rattle.certificates.specs.CertificateTests.{tests_in, certificate_tests}
use Rattle.certificates.specs.CertificateForm.{CertificateForm}
use Rattle.certificate_form.specs.PlainLaws.{slice_is}
use Rattle.certificate_form.specs.EdgeColumns.{entries_is}
use Rattle.answers.specs.Answers.{refusal_of, told}
use Rattle.answers.specs.Tested.{tested}
use Rattle.judge.specs.SliceLaws.{end_inside, rest_is, rest_length}
use Rattle.judge.specs.WholeLaws.{certificate_refused, certificate_formed, certificate_judged}
use Rattle.judge.proofs.judge_formed.Goals.{After-certificate_tested-tested, After-number_at}
use Rattle.judge.proofs.judge_formed.Goals as goal

-- the tests of the form that the certificate is stored in are the certificate's
answered : (c : After-certificate_tested-tested) → told c.certificate_tested-tested.result ≡ tested (first_failure (certificate_tests c.args.program.now c.args.witness.now))
answered c = c.certificate_tested-tested.ensures ∙ ap (λ (form : StoredForm). tested (first_failure (tests_in c.args.program.now c.args.witness.now form))) c.stored_form-form.ensures

-- where none fails
module _ (c : After-number_at) (answered_here : told c.certificate_tested-tested.result ≡ tested (first_failure (certificate_tests c.args.program.now c.args.witness.now))) where
  formed : CertificateForm c.args.program.now c.args.witness.now
  formed = certificate_formed c.args.program.now c.args.witness.now (sym answered_here ∙ ap told c.in_default.is)

  inside : c.rows_start-start.result + c.number_at.result ≤ length c.args.witness.now
  inside =
      let a = c.args in
      end_inside a.program.now a.witness.now formed (entries_is a.program.now a.witness.now a.sizes c.requires.header) c.rows_start-start.ensures c.number_at.ensures.value

pub returns-in-Err : goal.returns-in-Err
returns-in-Err c =
    certificate_refused c.args.program.now c.args.witness.now (refusal_of c.in-Err.refusal) (sym (answered (goal.at.returns-in-Err c).After-certificate_tested-tested) ∙ ap told c.in-Err.is)

pub slice_bounds-judge_words-end : goal.slice_bounds-judge_words-end
slice_bounds-judge_words-end c =
    let at = goal.at.slice_bounds-judge_words-end c in
    let h = inside at.After-number_at (answered at.After-certificate_tested-tested) in
    omega arith

pub slice_bounds-judge_words-count-2 : goal.slice_bounds-judge_words-count-2
slice_bounds-judge_words-count-2 c =
    let at = goal.at.slice_bounds-judge_words-count-2 c in
    inside at.After-number_at (answered at.After-certificate_tested-tested)

pub slice_bounds-judge_words-start-2 : goal.slice_bounds-judge_words-start-2
slice_bounds-judge_words-start-2 c =
    let at = goal.at.slice_bounds-judge_words-start-2 c in
    let h = inside at.After-number_at (answered at.After-certificate_tested-tested) in
    omega arith

pub judge_words-requires-clause-given : goal.judge_words-requires-clause-given
judge_words-requires-clause-given c =
    let at = goal.at.judge_words-requires-clause-given c in
    let a = c.args in
    record {
      header = c.requires.header;
      program_form = c.requires.program_form;
      certificate_form = formed at.After-number_at (answered at.After-certificate_tested-tested);
      row_words = slice_is a.program.now a.witness.now (entries_is a.program.now a.witness.now a.sizes c.requires.header) c.rows_start-start.ensures c.number_at.ensures.value;
    }

pub judge_words-requires-clause-w_value : goal.judge_words-requires-clause-w_value
judge_words-requires-clause-w_value c =
    let at = goal.at.judge_words-requires-clause-w_value c in
    let a = c.args in
    let f = formed at.After-number_at (answered at.After-certificate_tested-tested) in
    let same = entries_is a.program.now a.witness.now a.sizes c.requires.header in
    (rest_is a.program.now a.witness.now f same c.rows_start-start.ensures c.number_at.ensures.value, rest_length a.program.now a.witness.now f same c.rows_start-start.ensures c.number_at.ensures.value)

pub returns : goal.returns
returns c =
    c.judge_words.ensures ∙ certificate_judged c.args.program.now c.args.witness.now (sym (answered (goal.at.returns c).After-certificate_tested-tested) ∙ ap told c.in_default.is)
