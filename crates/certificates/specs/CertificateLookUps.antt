-- What a certificate's form says of its words: each word that the decoder reads is there, because the total is the sum of the parts and an
-- entry's disjuncts end in the row words.
use Rattle.std.specs.Prelude.{◌≡◌, List, ℕ, ◌+◌, ◌≤◌, ◌<◌, ℤ, length}
use Rattle.certificates.specs.CertificateWords.{disjuncts_end, count_place, R, W, entries, rows_start, row_words, witness_words, edge_columns, entry_count, entry_place}
use Rattle.words.specs.declared.StoredForm.{StoredForm}

module _ (program witness : List ℤ) (form : StoredForm) where
  pub record CertificateLookUps : Type 0 where
    pub counts : (i : ℕ) → 1 ≤ i → i ≤ entries program witness → count_place i < length witness
    pub places : (i : ℕ) → 1 ≤ i → i ≤ entries program witness → 2 + entries program witness + i < length witness
    pub rows_inside : rows_start program witness + R program witness ≤ length witness
    pub rows_length : length (row_words program witness) ≡ R program witness
    pub disjuncts_inside : (i : ℕ) → 1 ≤ i → i ≤ entries program witness → 1 ≤ entry_count program witness i
        → disjuncts_end form (row_words program witness) (edge_columns program witness i) (entry_count program witness i) (entry_place program witness i) ≤ R program witness
    pub witness_length : length (witness_words program witness) ≡ W program witness
