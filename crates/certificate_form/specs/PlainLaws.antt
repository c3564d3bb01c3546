-- The row words as the code slices them, and test 4 at the number of entries that it has worked out, are the certificate's; and where test 4 passes
-- the row words lie in the certificate, since its total is the sum of its parts.
use Rattle.std.specs.Prelude.{◌≡◌, true, List, ℕ, ◌+◌, ◌-◌, ◌≤◌, ℤ, length, take, drop}
use native.Mathlib.Omega.{arith}
use Rattle.std.proofs.Math.Dec.{T, eqb→eq}
use Rattle.basics.proofs.Booleans.{parts, holds}
use Rattle.words.specs.declared.StoredForm.{StoredForm}
use Rattle.words.specs.Limits.{most_words}
use Rattle.words.specs.Words.{word, number}
use Rattle.certificates.specs.CertificateWords.{start_of, R, entries, row_words}
use Rattle.certificates.specs.CertificateTests.{header_passes_of, header_passes}

module _ (program witness : List ℤ) where
  module _ {m : ℕ} (same : m ≡ entries program witness) where
    -- the row words, as a slice from `start` up to `start + size`
    pub slice_is : {start size : ℕ} → start ≡ start_of m → size ≡ R program witness → take (start + size - start) (drop start witness) ≡ row_words program witness
    unfolding row_words
    slice_is {start} {size} e h = let l : start + size - start ≡ size = omega arith in rw (l, e, h, same)

module _ (program witness : List ℤ) (form : StoredForm) where
  module _ {m : ℕ} (same : m ≡ entries program witness) where
    pub header_is : header_passes_of form witness m ≡ header_passes program witness form
    unfolding header_passes
    header_is = rw same

module _ (form : StoredForm) (witness : List ℤ) (m : ℕ) where
  pub rows_inside : header_passes_of form witness m ≡ true → start_of m + number most_words (word witness 1) ≤ length witness
  unfolding header_passes_of
  rows_inside h =
      let t : T (header_passes_of form witness m) = holds h in
      omega (arith, eqb→eq (length witness) (start_of m + number most_words (word witness 1) + number most_words (word witness 2)) (search parts))
