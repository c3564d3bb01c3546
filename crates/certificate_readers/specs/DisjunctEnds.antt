-- Disjuncts one after the other, counted up as a loop does. The definition counts down from the first; both pass the same disjuncts, so one more
-- comes at the end.
use Rattle.std.specs.Prelude.{◌≡◌, List, ℤ}
use Rattle.std.proofs.Math.Path.{refl}
use Prim.Native.Nat.{ℕ, zero, suc, ◌+◌}
use Rattle.std.proofs.Common.{add-one}
use Rattle.certificates.specs.CertificateWords.{disjunct_words, disjuncts_end}
use Rattle.words.specs.declared.StoredForm.{StoredForm}

module _ (form : StoredForm) (rows : List ℤ) (columns : ℕ) where
  end_suc : (i at : ℕ) → disjuncts_end form rows columns (suc i) at ≡ disjuncts_end form rows columns i at + disjunct_words form columns rows (disjuncts_end form rows columns i at)
  unfolding disjuncts_end
  end_suc zero at = refl
  end_suc (suc i) at = end_suc i (at + disjunct_words form columns rows at)

  -- the end of one more disjunct
  pub end_next : (i at : ℕ) → disjuncts_end form rows columns (i + 1) at ≡ disjuncts_end form rows columns i at + disjunct_words form columns rows (disjuncts_end form rows columns i at)
  end_next i at = rw add-one (end_suc i at)
