-- The conversions, "dense to sparse" and back, document 02, CR 9: "the converters test 1 to 5 (any kind but the one they read is 4), 25 and 15 alone,
-- then refuse too little room or a result past 1,000,000 words with 26 at 0". "A refusal writes nothing .. else the sheet stands at the room's
-- front, its word count is answered and the rest stays": words/Writing.
use Rattle.std.specs.Prelude.{ℕ, List, [], ◌∷◌, ◌++◌, ℤ}
use Rattle.words.specs.declared.StoredForm.{StoredForm}
use Rattle.words.specs.declared.StoredForm.TheVariants.{Dense, Sparse}
use Rattle.words.specs.Tests.{Test, first_failure}
use Rattle.words.specs.Writing.{Writing, writing_after, buffer_test}
use Rattle.programs.specs.ProgramTests.{program_tests}
use Rattle.certificates.specs.CertificateWords.{witness_words, certificate_in}
use Rattle.certificates.specs.CertificateTests.{tests_in}
use Rattle.layouts.specs.Layout.{entries_of, layout}

abbrev pub other_form : StoredForm → StoredForm
other_form Dense = Sparse
other_form Sparse = Dense

module _ (program witness : List ℤ) (form : StoredForm) where
  -- what is read in a form, in the words of the other one
  unfoldable pub other_words : List ℤ
  other_words = layout (other_form form) (entries_of (certificate_in program witness form)) (witness_words program witness)

  unfoldable pub conversion_tests : ℕ → List Test
  conversion_tests buffer = program_tests program ++ (tests_in program witness form ++ (buffer_test other_words buffer ∷ []))

  unfoldable pub converted : ℕ → Writing
  converted buffer = writing_after (first_failure (conversion_tests buffer)) other_words

unfoldable pub to_sparse : List ℤ → List ℤ → ℕ → Writing
to_sparse program witness buffer = converted program witness Dense buffer

unfoldable pub to_dense : List ℤ → List ℤ → ℕ → Writing
to_dense program witness buffer = converted program witness Sparse buffer
