-- What a walk over the sparse disjuncts of an entry comes to: whether they pass test 5, and, if so, whether they pass test 25, whether each row has a
-- coefficient, and where they end.
use Rattle.std.specs.Bool.{then_some}
use Rattle.std.specs.Prelude.{◌≡◌, Option, Some, None, refl, Bool, ◌&&◌, List, ltb, ℤ, length, drop}
use Rattle.std.proofs.Common.{sym}
use Rattle.std.proofs.Math.Bool.{true, false, and_assoc}
use Prim.Native.Nat.{ℕ, zero, suc, ◌+◌, ◌<◌}
use native.Mathlib.Omega.{arith}
use Rattle.basics.proofs.Booleans.{holds, and_r}
use Rattle.words.specs.declared.StoredForm.TheVariants.{Sparse}
use Rattle.words.specs.Limits.{most_rows}
use Rattle.words.specs.Words.{word, within}
use Rattle.words.specs.SparseRows.{sparse_words}
use Rattle.certificates.specs.CertificateWords.{row_count, disjunct_words, disjuncts_end}
use Rattle.certificates.specs.CertificateTests.{disjunct_passes, disjuncts_pass, disjuncts_strict}
use Rattle.certificates.proofs.CertificateForm.{disjuncts_form}
use Rattle.sparse_rows.specs.Walks.{sparse_rows_filled, rows_hold}
use Rattle.sparse_rows.specs.declared.Walked.{Walked}
use Rattle.certificate_readers.specs.Disjuncts.{first_formed}
use Rattle.certificate_form.specs.DisjunctLaws.{each_more, pass_next}

module _ (rows : List ℤ) (columns : ℕ) where
  -- each row of so many disjuncts from a place on has a coefficient
  unfoldable pub disjuncts_filled : ℕ → ℕ → Bool
  disjuncts_filled zero at = true
  disjuncts_filled (suc i) at = sparse_rows_filled columns (row_count rows at) (drop (at + 1) rows) && disjuncts_filled i (at + disjunct_words Sparse columns rows at)

  abbrev pub disjuncts_walked : ℕ → ℕ → Walked
  disjuncts_walked n at = record { strict = disjuncts_strict Sparse rows columns n at; filled = disjuncts_filled n at; end = disjuncts_end Sparse rows columns n at }

  abbrev pub disjuncts_walk : ℕ → ℕ → Option Walked
  disjuncts_walk n at = then_some (disjuncts_pass Sparse rows columns n at) (disjuncts_walked n at)

  pub filled_next : (i at : ℕ) → disjuncts_filled (i + 1) at
      ≡ disjuncts_filled i at && sparse_rows_filled columns (row_count rows (disjuncts_end Sparse rows columns i at)) (drop (disjuncts_end Sparse rows columns i at + 1) rows)
  unfolding disjuncts_filled
  filled_next = each_more Sparse rows columns (λ at. sparse_rows_filled columns (row_count rows at) (drop (at + 1) rows)) disjuncts_filled (λ at. refl) (λ i at. refl)

  -- ---- one disjunct: its count is tested first, and then its rows are walked over

  pub one_passes : (p : ℕ) → disjunct_passes Sparse rows columns p ≡ (ltb p (length rows) && within 0 most_rows (word rows p)) && rows_hold rows (p + 1) columns (row_count rows p)
  unfolding disjunct_passes
  one_passes p =
      let size : ℕ = sparse_words columns (row_count rows p) (drop (p + 1) rows) in
      let e : p + (1 + size) ≡ p + 1 + size = omega arith in
      rw e (sym (and_assoc (ltb p (length rows)) (within 0 most_rows (word rows p)) (rows_hold rows (p + 1) columns (row_count rows p))))

  -- ---- the ways out of a loop over them

  pub one_fails : (n at i : ℕ) → i < n → disjunct_passes Sparse rows columns (disjuncts_end Sparse rows columns i at) ≡ false → None ≡ disjuncts_walk n at
  one_fails n at i h e = rw (failed (disjuncts_pass Sparse rows columns n at) refl)
    where
      failed : (b : Bool) → disjuncts_pass Sparse rows columns n at ≡ b → disjuncts_pass Sparse rows columns n at ≡ false
      failed false q = q
      failed true q =
          let t = (disjuncts_form Sparse rows columns (i + 1) at).1 (first_formed Sparse rows columns (i + 1) (omega arith) ((disjuncts_form Sparse rows columns n at).0 (holds q))) in
          absurd (rw e at (and_r (disjuncts_pass Sparse rows columns i at) _ (rw (pass_next Sparse rows columns i at) at t)))

  pub all_pass : (n at : ℕ) → disjuncts_pass Sparse rows columns n at ≡ true → Some (disjuncts_walked n at) ≡ disjuncts_walk n at
  all_pass n at e = rw e
