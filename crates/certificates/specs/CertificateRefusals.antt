-- What refusals 4, 5, 25 and 15 of a certificate say, if and only if, places included: 4 at 0 that its mark, sizes or total are wrong; 5, 25 and
-- 15 that all that is tested before is right and that this is the first entry that isn't, 5 for its words, 25 for its place, its columns or a
-- coefficient 0, and 15 for a row "whose coefficients are all 0"; 25 at 1 that all entries are right and a row word is left. An entry's tests are
-- one list of a family of lists, and a number tells its own test from the others.
use Rattle.std.specs.Prelude.{◌≡◌, ℕ, ◌+◌, ◌≤◌, ℤ}
use mathlib.Core.List.{List}
use Rattle.basics.specs.Lists.{gathered}
use Rattle.words.specs.declared.StoredForm.{StoredForm}
use Rattle.words.specs.Tests.{Refusal, Test, test}
use Rattle.words.specs.FirstFailure.{First}
use Rattle.certificates.specs.CertificateWords.{entries, entry}
use Rattle.certificates.specs.CertificateTests.{entry_passes, entry_strict, entry_varies, entry_tests, rows_used, header_passes}
use Rattle.certificates.specs.ConstantRows.{HasConstant}
use Rattle.certificates.specs.CertificateForm.{EntryForm, EntryStrict, RowsUsed}

module _ (program witness : List ℤ) (form : StoredForm) where
  -- an entry that tests 5, 25 and 15 let pass
  pub record EntryRight (i : ℕ) : Type 0 where
    pub words : EntryForm program witness form i
    pub strict : EntryStrict program witness form i
    pub varies : ¬ HasConstant (entry program witness form i)

  -- "path or summary entry: count, words past the rows, row count, coefficient or constant": "its count word" stands at 2 + i
  abbrev pub EntryFails : ℕ → Type 0
  EntryFails place = First (entries program witness) EntryRight (λ i. (place ≡ 2 + i) × ¬ EntryForm program witness form i)

  -- "a falling or repeated column, a zero coefficient or a place, even an empty entry's, that isn't the next free one with 25 at the entry's count
  -- word, between its 5 and 15"
  abbrev pub EntryLoose : ℕ → Type 0
  EntryLoose place = First (entries program witness) EntryRight (λ i. (place ≡ 2 + i) × (EntryForm program witness form i × ¬ EntryStrict program witness form i))

  -- "such a row with 15 at the entry's count word, after that entry's own tests for 5 and before the next entry"
  abbrev pub EntryConstant : ℕ → Type 0
  EntryConstant place =
      First (entries program witness) EntryRight (λ i. (place ≡ 2 + i) × (EntryForm program witness form i × EntryStrict program witness form i × HasConstant (entry program witness form i)))

  -- "a row word left with 25 at 1"
  pub record RowsLeft (place : ℕ) : Type 0 where
    pub stands : place ≡ 1
    pub right : (i : ℕ) → 1 ≤ i → i ≤ entries program witness → EntryRight i
    pub unused : ¬ RowsUsed program witness form

  module _ (i : ℕ) (r : Refusal) where
    abbrev pub five : Test
    five = test 5 (2 + i) (entry_passes program witness form i)

    abbrev pub twenty_five : Test
    twenty_five = test 25 (2 + i) (entry_strict program witness form i)

    abbrev pub fifteen : Test
    fifteen = test 15 (2 + i) (entry_varies program witness form i)

  -- ---- all tests

  module _ (r : Refusal) where
    abbrev pub four : Test
    four = test 4 0 (header_passes program witness form)

    abbrev pub last : Test
    last = test 25 1 (rows_used program witness form)

    abbrev pub of_entries : List Test
    of_entries = gathered (entry_tests program witness form) (entries program witness)
