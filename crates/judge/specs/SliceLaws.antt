-- The witness's words, as the code slices them: in a certificate that has the form the row words end, because its total is the sum of its
-- parts, and all that follows them is the witness.
use Rattle.std.specs.Prelude.{◌≡◌, List, ℕ, ◌+◌, ◌-◌, ◌≤◌, ℤ, length, take}
use Rattle.std.proofs.Math.Path.{ap}
use Rattle.std.proofs.Common.{◌∙◌, arith, length-drop, take_all}
use Rattle.std.proofs.Math.ListN.{drop}
use Rattle.certificates.specs.CertificateWords.{stored_form, start_of, R, entries, rows_start, witness_words}
use Rattle.certificates.specs.CertificateForm.{CertificateForm}
use Rattle.certificates.proofs.CertificateLookUps.{certificate_look_ups}

module _ (program witness : List ℤ) (f : CertificateForm program witness) {m start size : ℕ} (same : m ≡ entries program witness) (e : start ≡ start_of m) (h : size ≡ R program witness) where
  end_is : start + size ≡ rows_start program witness + R program witness
  end_is = omega (arith, same, e, h)

  pub end_inside : start + size ≤ length witness
  end_inside = omega (arith, end_is, (certificate_look_ups program witness (stored_form witness) f).rows_inside)

  rest_whole : take (length witness - (start + size)) (drop (start + size) witness) ≡ drop (start + size) witness
  rest_whole = take_all (length witness - (start + size)) (drop (start + size) witness) (omega (arith, length-drop (start + size) witness))

  pub rest_is : take (length witness - (start + size)) (drop (start + size) witness) ≡ witness_words program witness
  unfolding witness_words
  rest_is = rest_whole ∙ ap (λ (i : ℕ). drop i witness) end_is

  pub rest_length : start + size + length (take (length witness - (start + size)) (drop (start + size) witness)) ≡ length witness
  rest_length = omega (arith, ap length rest_whole, length-drop (start + size) witness, end_inside)
