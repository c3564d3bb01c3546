-- The tests of disjuncts one after the other, counted up as a loop does. The definitions count down from the first; both pass the same disjuncts, so
-- one more comes at the end.
use Rattle.std.specs.Prelude.{◌≡◌, refl, Bool, true, ◌&&◌, List, ℤ}
use Rattle.std.proofs.Math.Path.{sym, ap}
use Rattle.std.proofs.Common.{◌∙◌, add-one}
use Rattle.std.proofs.Math.Bool.{and-true, and_assoc}
use Prim.Native.Nat.{ℕ, zero, suc, ◌+◌}
use Rattle.words.specs.declared.StoredForm.{StoredForm}
use Rattle.words.specs.StoredRows.{rows_strict_in}
use Rattle.certificates.specs.CertificateWords.{row_count, disjunct_words, disjuncts_end}
use Rattle.certificates.specs.CertificateTests.{disjunct_passes, disjuncts_pass, disjuncts_strict}

module _ (form : StoredForm) (rows : List ℤ) (columns : ℕ) where
  -- a test of each
  module _ (test : ℕ → Bool) (all : ℕ → ℕ → Bool) (start : (at : ℕ) → all 0 at ≡ true) (grows : (i at : ℕ) → all (suc i) at ≡ test at && all i (at + disjunct_words form columns rows at)) where
    each_suc : (i at : ℕ) → all (suc i) at ≡ all i at && test (disjuncts_end form rows columns i at)
    unfolding disjuncts_end
    each_suc zero at =
        grows 0 at ∙ (ap (λ (b : Bool). test at && b) (start (at + disjunct_words form columns rows at)) ∙ (and-true (test at) ∙ sym (ap (λ (b : Bool). b && test at) (start at))))
    each_suc (suc i) at =
        let next = at + disjunct_words form columns rows at in
        grows (suc i) at
        ∙ (ap (λ (b : Bool). test at && b) (each_suc i next)
        ∙ (sym (and_assoc (test at) (all i next) (test (disjuncts_end form rows columns i next))) ∙ ap (λ (b : Bool). b && test (disjuncts_end form rows columns i next)) (sym (grows i at))))

    pub each_more : (i at : ℕ) → all (i + 1) at ≡ all i at && test (disjuncts_end form rows columns i at)
    each_more i at = rw add-one (each_suc i at)

  -- one more disjunct passes
  pub pass_next : (i at : ℕ) → disjuncts_pass form rows columns (i + 1) at ≡ disjuncts_pass form rows columns i at && disjunct_passes form rows columns (disjuncts_end form rows columns i at)
  unfolding disjuncts_pass
  pass_next = each_more (disjunct_passes form rows columns) (disjuncts_pass form rows columns) (λ at. refl) (λ i at. refl)

  -- one more disjunct has rising columns and no coefficient that is 0
  pub strict_next : (i at : ℕ) → disjuncts_strict form rows columns (i + 1) at
      ≡ disjuncts_strict form rows columns i at && rows_strict_in form rows (disjuncts_end form rows columns i at + 1) columns (row_count rows (disjuncts_end form rows columns i at))
  unfolding disjuncts_strict
  strict_next = each_more (λ at. rows_strict_in form rows (at + 1) columns (row_count rows at)) (disjuncts_strict form rows columns) (λ at. refl) (λ i at. refl)
