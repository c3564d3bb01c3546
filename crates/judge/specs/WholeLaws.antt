-- The whole answer by the code's tests: a refusal of the program or of the certificate is the answer, because it is the first failure; else the
-- answer is what follows the tests.
use Rattle.std.specs.Prelude.{◌≡◌, List, ℤ, length, Ok, Err}
use Rattle.words.specs.Answer.{refused, answer_after}
use Rattle.words.specs.Tests.{Refusal, first_failure}
use Rattle.programs.specs.ProgramForm.{ProgramForm}
use Rattle.programs.proofs.ProgramForm.{program_form_lem}
use Rattle.programs.specs.Decode as decode
use Rattle.certificates.specs.CertificateWords.{stored_form, witness_words, certificate}
use Rattle.certificates.specs.CertificateTests.{answer_in, certificate_tests, certificate_answer}
use Rattle.certificates.specs.CertificateForm.{CertificateForm}
use Rattle.certificates.proofs.CertificateForm.{certificate_form_lem}
use Rattle.certificates.specs.Entailments.{entailments}
use Rattle.certificates.specs.Judgement.{running, judge, judgement_answer}
use Rattle.checker.specs.Check.{judged}
use Rattle.answers.specs.Tested.{tested}
use Rattle.program_form.specs.Form.{program_form}
use Rattle.answers.specs.TestedLaws.{passed_none, failed_some}
use Rattle.program_form.specs.FormLaws.{refused_first}

module _ (program witness : List ℤ) where
  -- ---- the program's tests

  pub judged_refused : (r : Refusal) → program_form program ≡ Err r → refused r ≡ judged program witness
  unfolding judged answer_after
  judged_refused r e = rw (refused_first program r e)

  pub judged_formed : ProgramForm program → certificate_answer program witness ≡ judged program witness
  unfolding judged answer_after
  judged_formed f = rw ((program_form_lem program).1 f)

  -- ---- the certificate's tests

  pub certificate_refused : (r : Refusal) → tested (first_failure (certificate_tests program witness)) ≡ Err r → refused r ≡ certificate_answer program witness
  unfolding answer_in answer_after
  certificate_refused r e = rw (failed_some (first_failure (certificate_tests program witness)) r e)

  module _ (e : tested (first_failure (certificate_tests program witness)) ≡ Ok tt) where
    pub certificate_formed : CertificateForm program witness
    certificate_formed = (certificate_form_lem program witness (stored_form witness)).0 (passed_none (first_failure (certificate_tests program witness)) e)

    pub certificate_judged : judgement_answer (length witness) (judge (entailments (decode.program program) (certificate program witness)) (running (witness_words program witness) 0))
        ≡ certificate_answer program witness
    unfolding answer_in answer_after
    certificate_judged = rw (passed_none (first_failure (certificate_tests program witness)) e)
