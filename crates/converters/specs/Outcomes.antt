-- The outcome of a conversion, on each way that the code can end: the program's refusal, then the certificate's, then 26, each the first failure of the
-- tests; else the words.
use Rattle.std.specs.Prelude.{◌≡◌, refl, ℕ, ℤ, Ok, Err}
use Rattle.std.proofs.Math.Path.{ap}
use Rattle.std.proofs.Common.{◌∙◌}
use mathlib.Core.List.{List, [], ◌∷◌, ◌++◌}
use Rattle.words.specs.declared.StoredForm.{StoredForm}
use Rattle.words.specs.Tests.{first_failure}
use Rattle.words.specs.Tests as tests
use Rattle.words.proofs.FirstFailure.{failed_before}
use Rattle.words.proofs.TestLoops.{passed}
use Rattle.words.specs.Writing.{Writing, written, unwritten, writing_after, buffer_test}
use Rattle.programs.specs.ProgramTests.{program_tests}
use Rattle.programs.specs.ProgramForm.{ProgramForm}
use Rattle.programs.proofs.ProgramForm.{program_form_lem}
use Rattle.certificates.specs.CertificateTests.{tests_in}
use Rattle.certificates.specs.CertificateForm.{FormIn}
use Rattle.certificates.proofs.CertificateForm.{certificate_form_lem}
use Rattle.conversions.specs.Conversions.{other_words, conversion_tests, converted}
use Rattle.conversions.specs.RoundTrips.{Fits}
use Rattle.conversions.proofs.RoundTrips.{written_iff}
use Rattle.conversions.proofs.ConversionRefusals.{unwritten_twenty_six}
use Rattle.answers.specs.Tested.{tested}
use Rattle.answers.specs.TestedLaws.{passed_none, failed_some}
use Rattle.program_form.specs.Form.{program_form}
use Rattle.program_form.specs.FormLaws.{refused_first}

module _ (program certificate : List ℤ) (form : StoredForm) (buffer : ℕ) where
  abbrev pub Converts : Writing → Type 0
  Converts w = converted program certificate form buffer ≡ w

  -- ---- the program's refusal

  pub program_refused : (r : tests.Refusal) → program_form program ≡ Err r → Converts (unwritten r)
  unfolding converted conversion_tests writing_after
  program_refused r e =
      ap (λ o. writing_after o (other_words program certificate form))
      (failed_before (program_tests program) (tests_in program certificate form ++ (buffer_test (other_words program certificate form) buffer ∷ [])) (refused_first program r e))

  module _ (p : ProgramForm program) where
    -- ---- the certificate's

    pub certificate_refused : (r : tests.Refusal) → tested (first_failure (tests_in program certificate form)) ≡ Err r → Converts (unwritten r)
    unfolding converted conversion_tests writing_after
    certificate_refused r e =
        let later : List tests.Test = buffer_test (other_words program certificate form) buffer ∷ [] in
        ap (λ o. writing_after o (other_words program certificate form))
        (passed (program_tests program) (tests_in program certificate form ++ later) ((program_form_lem program).1 p)
        ∙ failed_before (tests_in program certificate form) later (failed_some (first_failure (tests_in program certificate form)) r e))

    pub certificate_formed : tested (first_failure (tests_in program certificate form)) ≡ Ok tt → FormIn program certificate form
    certificate_formed e = (certificate_form_lem program certificate form).0 (passed_none (first_failure (tests_in program certificate form)) e)

    module _ (f : FormIn program certificate form) where
      -- ---- 26

      pub unfit : ¬ Fits program certificate form buffer → Converts (unwritten (tests.refusal_at 26 0))
      unfit n = (unwritten_twenty_six program certificate form buffer 0).1 (p, (f, (refl, n)))

      -- ---- the words

      pub all_written : Fits program certificate form buffer → Converts (written (other_words program certificate form))
      all_written x = (written_iff program certificate form buffer (other_words program certificate form)).1 (record { program_form = p; certificate_form = f; enough = x }, refl)
