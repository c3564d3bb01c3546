-- What a certificate's form says of its words: each word that the decoder reads is there, because the total is the sum of the parts and an
-- entry's disjuncts end in the row words.
use Rattle.std.specs.Prelude.{◌≡◌, List, ℕ, ◌≤◌, ℤ, length}
use Rattle.std.proofs.Common.{le_of_lt, arith, length-take}
use Rattle.std.proofs.Math.ListN.{length-drop}
use Rattle.certificates.specs.CertificateWords.{disjuncts_end, R, W, row_words, witness_words}
use Rattle.certificates.specs.CertificateForm.{DisjunctsForm, none, more, FormIn}
use Rattle.certificates.proofs.CertificateForm.{starts_inside, entry_placed}
use Rattle.words.specs.declared.StoredForm.{StoredForm}
use Rattle.certificates.specs.CertificateLookUps.{CertificateLookUps}

pub end_inside : {form : StoredForm} {words : List ℤ} {columns i at : ℕ} → at ≤ length words → DisjunctsForm form words columns i at → disjuncts_end form words columns i at ≤ length words
unfolding disjuncts_end
end_inside h none = h
end_inside h (more _ _ ends _ f) = end_inside ends f

module _ (program witness : List ℤ) (form : StoredForm) where
  length_rows : FormIn program witness form → length (row_words program witness) ≡ R program witness
  unfolding row_words
  length_rows f = rw (length-take, length-drop) (omega (arith, f.header.total))

  length_witness_words : FormIn program witness form → length (witness_words program witness) ≡ W program witness
  unfolding witness_words
  length_witness_words f = rw length-drop (omega (arith, f.header.total))

  pub certificate_look_ups : FormIn program witness form → (CertificateLookUps program witness form)
  certificate_look_ups f =
      record {
        counts = λ i low high. omega (arith, f.header.total);
        places = λ i low high. omega (arith, f.header.total);
        rows_inside = omega (arith, f.header.total);
        rows_length = length_rows f;
        disjuncts_inside =
            λ i low high h. let d = entry_placed program witness form i (f.entry i low high) h in rw (length_rows f) at (end_inside (le_of_lt (starts_inside h d)) d);
        witness_length = length_witness_words f;
      }
