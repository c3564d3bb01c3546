-- Tests 4, 5, 25 and 15 of a certificate, in their order, and the answer to it.
use Rattle.std.specs.Prelude.{ℕ, zero, suc, ◌+◌, ◌-◌, Bool, true, ◌&&◌, ◌||◌, List, [], ◌∷◌, ◌++◌, leb, ltb, eqb, ℤ, pos, length}
use Rattle.basics.specs.Lists.{gathered}
use Rattle.basics.specs.Integers.{eq_z}
use Rattle.words.specs.declared.StoredForm.{StoredForm}
use Rattle.words.specs.declared.StoredForm.TheVariants.{Dense, Sparse}
use Rattle.words.specs.Limits.{most_words, most_disjuncts, most_rows}
use Rattle.words.specs.Words.{word, number, within}
use Rattle.words.specs.Tests.{Test, test, first_failure}
use Rattle.words.specs.Answer.{Answer, answer_after}
use Rattle.words.specs.StoredRows.{rows_pass_in, rows_strict_in}
use Rattle.programs.specs.Decode as decode
use Rattle.certificates.specs.Certificate.{edges_vary}
use Rattle.certificates.specs.CertificateWords.{mark_of, stored_form, row_count, disjunct_words, count_place, count_of, place_word, place_of, start_of, R, entries, row_words, witness_words, edge_columns, entry, certificate_in, next_free}
use Rattle.certificates.specs.Entailments.{entailments}
use Rattle.certificates.specs.Judgement.{running, judge, judgement_answer}

-- The tests are over plain numbers: how many entries there are, and how many columns an entry's edges have.

module _ (form : StoredForm) where
  -- ---- 4: "kind, sizes or total wrong": "R and W are at least 0; the sheet has at most 1,000,000 words"

  unfoldable pub header_passes_of : List ℤ → ℕ → Bool
  header_passes_of witness entries = leb 3 (length witness)
      && (within (mark_of form) (mark_of form) (word witness 0) && (within 0 most_words (word witness 1) && (within 0 most_words (word witness 2)
      && (eqb (length witness) (start_of entries + number most_words (word witness 1) + number most_words (word witness 2)) && leb (length witness) most_words))))

  -- ---- 5: "path or summary entry: count, words past the rows, row count, coefficient or constant", and "a count or column out of range"

  unfoldable pub disjunct_passes : List ℤ → ℕ → ℕ → Bool
  disjunct_passes words columns at = ltb at (length words)
      && (within 0 most_rows (word words at) && (leb (at + disjunct_words form columns words at) (length words) && rows_pass_in form words (at + 1) columns (row_count words at)))

  -- so many disjuncts from a place on
  unfoldable pub disjuncts_pass : List ℤ → ℕ → ℕ → ℕ → Bool
  disjuncts_pass words columns zero at = true
  disjuncts_pass words columns (suc i) at = disjunct_passes words columns at && disjuncts_pass words columns i (at + disjunct_words form columns words at)

  -- an entry, with the row words apart: "an entry with count 0 having its place untested"
  unfoldable pub entry_passes_of : List ℤ → List ℤ → ℕ → ℕ → ℕ → Bool
  entry_passes_of rows witness entries columns i = within 0 most_disjuncts (word witness (count_place i))
      && (eqb (count_of witness i) 0 || (within 0 most_words (place_word witness entries i) && disjuncts_pass rows columns (count_of witness i) (place_of witness entries i)))

  -- ---- 25: "a falling or repeated column, a zero coefficient"

  unfoldable pub disjuncts_strict : List ℤ → ℕ → ℕ → ℕ → Bool
  disjuncts_strict words columns zero at = true
  disjuncts_strict words columns (suc i) at = rows_strict_in form words (at + 1) columns (row_count words at) && disjuncts_strict words columns i (at + disjunct_words form columns words at)

-- "or a place, even an empty entry's, that isn't the next free one"; a dense certificate's entries stand anywhere
unfoldable pub entry_strict_of : StoredForm → List ℤ → List ℤ → ℕ → ℕ → ℕ → ℕ → Bool
entry_strict_of Dense rows witness entries columns free i = true
entry_strict_of Sparse rows witness entries columns free i = eq_z (place_word witness entries i) (pos free) && disjuncts_strict Sparse rows columns (count_of witness i) free

-- "a row word left": they are used up to `free`
unfoldable pub rows_used_of : StoredForm → ℕ → ℕ → Bool
rows_used_of Dense free rows = true
rows_used_of Sparse free rows = eqb free rows

-- ---- at what the program says

module _ (program witness : List ℤ) where
  module _ (form : StoredForm) where
    unfoldable pub header_passes : Bool
    header_passes = header_passes_of form witness (entries program witness)

    unfoldable pub entry_passes : ℕ → Bool
    entry_passes i = entry_passes_of form (row_words program witness) witness (entries program witness) (edge_columns program witness i) i

    unfoldable pub entry_strict : ℕ → Bool
    entry_strict i = entry_strict_of form (row_words program witness) witness (entries program witness) (edge_columns program witness i) (next_free program witness form (i - 1)) i

    -- ---- 15: "rows whose coefficients are all 0"

    unfoldable pub entry_varies : ℕ → Bool
    entry_varies i = edges_vary (entry program witness form i)

    -- 15 "after that entry's own tests for 5 and before the next entry", and 25 "between its 5 and 15"
    unfoldable pub entry_tests : ℕ → List Test
    entry_tests i = test 5 (count_place i) (entry_passes i) ∷ test 25 (count_place i) (entry_strict i) ∷ test 15 (count_place i) (entry_varies i) ∷ []

    -- "a row word left with 25 at 1, before 6"
    unfoldable pub rows_used : Bool
    rows_used = rows_used_of form (next_free program witness form (entries program witness)) (R program witness)

    -- ---- 4, then 5, 25 and 15 of each entry, then 25 of the row words

    unfoldable pub tests_in : List Test
    tests_in = test 4 0 header_passes ∷ (gathered entry_tests (entries program witness) ++ (test 25 1 rows_used ∷ []))

    -- ---- the answer to a certificate of a program that has the form

    unfoldable pub answer_in : Answer
    answer_in = answer_after (first_failure tests_in)
        (judgement_answer (length witness) (judge (entailments (decode.program program) (certificate_in program witness form)) (running (witness_words program witness) 0)))

  abbrev pub certificate_tests : List Test
  certificate_tests = tests_in (stored_form witness)

  abbrev pub certificate_answer : Answer
  certificate_answer = answer_in (stored_form witness)
