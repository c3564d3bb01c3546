-- The form of a certificate's words, said in inequalities over ℤ: it holds if and only if tests 4, 5, 25 and 15 pass, because each of these
-- tests is the conjunction of its inequalities. A place needs no bound of its own: the disjuncts that it is for begin in the row words.
use Rattle.std.specs.Prelude.{◌≡◌, List, T, ℤ, pos, length}
use Rattle.std.proofs.Math.Option as option
use Prim.Native.Nat.{ℕ, zero, suc, ◌+◌, ◌-◌, ◌≤◌, ◌<◌}
use Rattle.words.specs.declared.StoredForm.{StoredForm}
use Rattle.words.specs.declared.StoredForm.TheVariants.{Dense, Sparse}
use Rattle.words.specs.Limits.{most_words, most_disjuncts, most_rows}
use Rattle.words.specs.Words.{word}
use Rattle.words.specs.Ranges.{Between}
use Rattle.words.specs.StoredRows.{RowsFormIn, StrictRowsIn}
use Rattle.certificates.specs.CertificateWords.{mark_of, stored_form, row_count, disjunct_words, R, W, entries, count_word, entry_place_word, rows_start, row_words, edge_columns, entry_count, next_free}
use Rattle.certificates.specs.CertificateTests.{entry_varies}

-- so many disjuncts from a place on: "each disjunct is a row count (0..32) and rows", all of it in the row words
pub data DisjunctsForm (form : StoredForm) (words : List ℤ) (columns : ℕ) : ℕ → ℕ → Type 0 where
  none : {at : ℕ} → DisjunctsForm form words columns zero at
  more : {i at : ℕ} → at < length words → Between (pos 0) (pos most_rows) (word words at) → at + disjunct_words form columns words at ≤ length words
      → RowsFormIn form words (at + 1) columns (row_count words at) → DisjunctsForm form words columns i (at + disjunct_words form columns words at) → DisjunctsForm form words columns (suc i) at

-- so many disjuncts from a place on whose rows have no "falling or repeated column" and no "zero coefficient"
pub data DisjunctsStrict (form : StoredForm) (words : List ℤ) (columns : ℕ) : ℕ → ℕ → Type 0 where
  none_strict : {at : ℕ} → DisjunctsStrict form words columns zero at
  more_strict : {i at : ℕ} → StrictRowsIn form words (at + 1) columns (row_count words at) → DisjunctsStrict form words columns i (at + disjunct_words form columns words at) → DisjunctsStrict form words columns (suc i) at

module _ (program witness : List ℤ) where
  -- a sparse entry stands at the next free place, "even an empty" one
  pub record InOrder (i : ℕ) : Type 0 where
    pub place : entry_place_word program witness i ≡ pos (next_free program witness Sparse (i - 1))
    pub disjuncts : DisjunctsStrict Sparse (row_words program witness) (edge_columns program witness i) (entry_count program witness i) (next_free program witness Sparse (i - 1))

  -- what 25 asks of an entry, of a sparse one alone
  abbrev pub EntryStrict : StoredForm → ℕ → Type 0
  EntryStrict Dense i = Unit
  EntryStrict Sparse i = InOrder i

  -- and of the row words: none is left
  abbrev pub RowsUsed : StoredForm → Type 0
  RowsUsed Dense = Unit
  RowsUsed Sparse = next_free program witness Sparse (entries program witness) ≡ R program witness

  module _ (form : StoredForm) where
    -- an entry: its count, and its disjuncts in the row words; "one below 0 is past them", and "an entry with count 0" has "its place untested"
    pub record EntryForm (i : ℕ) : Type 0 where
      pub count : Between (pos 0) (pos most_disjuncts) (count_word program witness i)
      pub placed : 1 ≤ entry_count program witness i
          → (place : ℕ) × (entry_place_word program witness i ≡ pos place)
          × DisjunctsForm form (row_words program witness) (edge_columns program witness i) (entry_count program witness i) place

    -- mark, sizes and total
    pub record HeaderIn : Type 0 where
      pub header : 3 ≤ length witness
      pub mark : word witness 0 ≡ pos (mark_of form)
      pub rows_range : Between (pos 0) (pos most_words) (word witness 1)
      pub witness_range : Between (pos 0) (pos most_words) (word witness 2)
      pub total : length witness ≡ rows_start program witness + R program witness + W program witness
      pub most : length witness ≤ most_words

    pub record FormIn : Type 0 where
      pub header : HeaderIn
      pub entry : (i : ℕ) → 1 ≤ i → i ≤ entries program witness → EntryForm i
      pub strict : (i : ℕ) → 1 ≤ i → i ≤ entries program witness → EntryStrict form i
      pub varies : (i : ℕ) → 1 ≤ i → i ≤ entries program witness → T (entry_varies program witness form i)
      pub used : RowsUsed form

  abbrev pub CertificateHeader : Type 0
  CertificateHeader = HeaderIn (stored_form witness)

  abbrev pub CertificateForm : Type 0
  CertificateForm = FormIn (stored_form witness)
