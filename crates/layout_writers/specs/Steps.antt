-- Rows and disjuncts that stand one after the other in the row words, as a loop goes through them: the one at hand has its form, and those behind it
-- stand where it ends.
use Rattle.std.specs.Prelude.{◌≡◌, List, ℕ, suc, ◌+◌, ◌-◌, ◌≤◌, ◌<◌, ℤ, length, drop}
use Rattle.std.proofs.Common.{◌∙◌, arith, drop-drop}
use Rattle.words.specs.declared.StoredForm.{StoredForm}
use Rattle.words.specs.StoredRows.{row_takes, RowFormIn, rows_take}
use Rattle.words.proofs.StoredRows.{take_none, take_first, each_first, each_later, form_each}
use Rattle.certificates.specs.CertificateWords.{row_count, disjunct_words}
use Rattle.certificates.specs.CertificateForm.{DisjunctsForm}
use Rattle.certificate_readers.specs.Disjuncts.{Stands, stands, RowsInside, rows_inside}

module _ (form : StoredForm) (columns : ℕ) where
  pub take_one : (words : List ℤ) → rows_take form columns 1 words ≡ row_takes form columns words
  take_one words = take_first form columns 0 words ∙ omega (arith, take_none form columns (drop (row_takes form columns words) words))

  module _ (rows : List ℤ) where
    -- ---- rows

    pub record RowsHere (n at : ℕ) : Type 0 where
      pub inside : at + row_takes form columns (drop at rows) ≤ length rows
      pub formed : RowFormIn form rows at columns
      pub behind : RowsInside form columns rows (at + row_takes form columns (drop at rows)) n

    first : (n at : ℕ) → RowsInside form columns rows at (suc n) → RowsHere n at
    first n at h =
        let each = (form_each form rows at columns (suc n)).0 h.formed in
        let next : ℕ = at + row_takes form columns (drop at rows) in
        record {
          inside = omega (arith, h.inside, take_first form columns n (drop at rows));
          formed = each_first form columns rows (λ at. RowFormIn form rows at columns) at n each;
          behind =
              record {
                few = omega (arith, h.few);
                inside = rw (← drop-drop (row_takes form columns (drop at rows)) at rows) (omega (arith, h.inside, take_first form columns n (drop at rows)));
                formed = (form_each form rows next columns n).1 (each_later form columns rows (λ at. RowFormIn form rows at columns) at n each);
              };
        }

    -- row i, of so many
    pub rows_here_lem : (i n at : ℕ) → i < n → RowsInside form columns rows at (n - i) → RowsHere (n - (i + 1)) at
    rows_here_lem i n at l h = let e : n - i ≡ suc (n - (i + 1)) = omega arith in first (n - (i + 1)) at (rw e at h)

    -- ---- disjuncts

    pub record DisjunctsHere (n at : ℕ) : Type 0 where
      pub rows_here : RowsInside form columns rows (at + 1) (row_count rows at)
      pub starts : at < length rows
      pub behind : DisjunctsForm form rows columns n (at + disjunct_words form columns rows at)

    one : (n at : ℕ) → Stands form rows columns n at → DisjunctsHere n at
    one n at s = record { rows_here = rows_inside form rows columns s; starts = s.there; behind = s.rest }

    -- disjunct i, of so many
    pub disjuncts_here : (i n at : ℕ) → i < n → DisjunctsForm form rows columns (n - i) at → DisjunctsHere (n - (i + 1)) at
    disjuncts_here i n at l f = let e : n - i ≡ suc (n - (i + 1)) = omega arith in one (n - (i + 1)) at (stands form rows columns (rw e at f))
