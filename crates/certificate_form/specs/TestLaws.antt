-- The first failure of a certificate's tests, on each way out of a loop over its entries that leaves at the first failure: the laws of such
-- loops, for these tests.
use Rattle.std.specs.Prelude.{◌≡◌, true, false, ℕ, ◌+◌, ◌<◌, ℤ}
use Rattle.std.proofs.Common.{◌∙◌}
use mathlib.Core.List.{List, [], ◌∷◌}
use Rattle.std.proofs.Math.Option.{none, some}
use Rattle.basics.specs.Lists.{gathered}
use Rattle.words.specs.declared.StoredForm.{StoredForm}
use Rattle.words.specs.Tests.{Refusal, Test, test, first_failure, refusal_at}
use Rattle.words.proofs.FirstFailure.{failed_before}
use Rattle.words.proofs.TestLoops.{passed, first_fails, first_passes, list_fails_after, lists_pass_after}
use Rattle.certificates.specs.CertificateWords.{entries}
use Rattle.certificates.specs.CertificateTests.{header_passes, entry_tests, rows_used, tests_in}

module _ (program witness : List ℤ) (form : StoredForm) where
  abbrev four : Test
  four = test 4 0 (header_passes program witness form)

  abbrev last : Test
  last = test 25 1 (rows_used program witness form)

  -- ---- the ways out

  pub header_fails : header_passes program witness form ≡ false → first_failure (tests_in program witness form) ≡ some (refusal_at 4 0)
  unfolding tests_in
  header_fails h = first_fails four _ h

  module _ (h : header_passes program witness form ≡ true) where
    pub entry_fails : (i : ℕ) {r : Refusal} → i < entries program witness → first_failure (gathered (entry_tests program witness form) i) ≡ none → first_failure (entry_tests program witness form (i + 1)) ≡ some r
        → first_failure (tests_in program witness form) ≡ some r
    unfolding tests_in
    entry_fails i l e q = failed_before (four ∷ gathered (entry_tests program witness form) (entries program witness)) (last ∷ []) (list_fails_after (entry_tests program witness form) four h i (entries program witness) l e q)

    module _ (e : first_failure (gathered (entry_tests program witness form) (entries program witness)) ≡ none) where
      before_last : first_failure (tests_in program witness form) ≡ first_failure (last ∷ [])
      unfolding tests_in
      before_last =
          passed (four ∷ gathered (entry_tests program witness form) (entries program witness)) (last ∷ []) (lists_pass_after (entry_tests program witness form) four h (entries program witness) e)

      pub rows_left : rows_used program witness form ≡ false → first_failure (tests_in program witness form) ≡ some (refusal_at 25 1)
      rows_left q = before_last ∙ first_fails last [] q

      pub all_pass : rows_used program witness form ≡ true → first_failure (tests_in program witness form) ≡ none
      unfolding first_failure
      all_pass q = before_last ∙ first_passes last [] q
