-- The kept disjuncts of an entry as dense words, from a place on: those of the one at hand, which are none where it isn't kept, and those of the
-- others, as a loop that goes through them finds it.
use Rattle.std.specs.Prelude.{◌≡◌, Bool, ℕ, suc, ◌+◌, ◌*◌, ◌-◌, ◌≤◌, ◌<◌, eqb, ℤ, length, get_or, take, drop}
use Rattle.std.proofs.Math.Path.{refl, sym, ap}
use Rattle.std.proofs.Common.{◌∙◌, add-one, arith, ne_eqb}
use Rattle.std.proofs.Math.Bool.{true, false, cond}
use mathlib.Core.List.{List, [], ◌∷◌, ◌++◌}
use Rattle.words.specs.declared.StoredForm.{StoredForm}
use Rattle.words.specs.declared.StoredForm.TheVariants.{Dense, Sparse}
use Rattle.words.specs.RowWords.{row_size}
use Rattle.words.specs.StoredRows.{rows_in}
use Rattle.words.proofs.StoredRows.{length_in}
use Rattle.words.proofs.CodedRows.{rows_take_lem, rows_within, rows_words}
use Rattle.certificates.specs.CertificateWords.{row_count, disjunct_words, disjuncts_of}
use Rattle.certificate_readers.specs.Disjuncts.{RowsInside}
use Rattle.layouts.specs.DisjunctCode.{disjuncts_code}
use Rattle.layouts.proofs.DisjunctCode.{first_of_lem}
use Rattle.trimming.specs.KeptMembers.{kept_from}
use Rattle.entailment_sources.specs.NewNumbers.{flagged}
use Rattle.layout_writers.specs.Runs.{Cut}
use Rattle.layout_writers.specs.FormCode.{rows_as, disjunct_as, disjunct_is}
use Rattle.layout_writers.specs.OtherCode.{rows_other}

module _ (form : StoredForm) (columns : ℕ) (rows : List ℤ) where
  -- so many rows, and a disjunct: its row count, and its rows
  abbrev pub dense_rows : ℕ → ℕ → List ℤ
  dense_rows = rows_as Dense form columns rows

  abbrev pub dense_disjunct : ℕ → List ℤ
  dense_disjunct = disjunct_as Dense form columns rows

  pub rows_length_lem : (at n : ℕ) → RowsInside form columns rows at n → length (dense_rows at n) ≡ n * row_size columns
  unfolding rows_as
  rows_length_lem at n h =
      sym (rows_take_lem Dense columns (rows_in form columns n (drop at rows)) [] (rows_within form columns rows at n h.inside h.formed))
      ∙ ap (λ (m : ℕ). m * row_size columns) (length_in form columns n (drop at rows))

-- dense rows are their own words, and sparse ones are written in the other form
module _ {form : StoredForm} (columns : ℕ) (rows : List ℤ) (at n : ℕ) where
  pub own_inside : form ≡ Dense → RowsInside form columns rows at n → at + n * row_size columns ≤ length rows
  own_inside e h = (rw e at h).inside

  pub own_rows : form ≡ Dense → RowsInside form columns rows at n → take (n * row_size columns) (drop at rows) ≡ dense_rows form columns rows at n
  unfolding rows_as
  own_rows e h = let x : RowsInside Dense columns rows at n = rw e at h in rw e (rows_words Dense columns rows at n x.inside x.formed tt)

  pub other_rows : form ≡ Sparse → rows_other form columns rows at n ≡ dense_rows form columns rows at n
  other_rows e = rw e refl

-- ---- those that are kept

-- one by its byte
unfoldable pub kept_disjunct : ℕ → StoredForm → ℕ → List ℤ → ℕ → List ℤ
kept_disjunct byte form columns rows at = cond (eqb byte 1) (dense_disjunct form columns rows at) []

pub one_kept : {byte : ℕ} (form : StoredForm) (columns : ℕ) (rows : List ℤ) (at : ℕ) → byte ≡ 1 → kept_disjunct byte form columns rows at ≡ dense_disjunct form columns rows at
unfolding kept_disjunct
one_kept form columns rows at e = rw e refl

pub one_dropped : {byte : ℕ} (form : StoredForm) (columns : ℕ) (rows : List ℤ) (at : ℕ) → (byte ≡ 1 → ⊥) → kept_disjunct byte form columns rows at ≡ []
unfolding kept_disjunct
one_dropped {byte} form columns rows at e = rw (ne_eqb byte 1 e) refl

module _ (flags : List ℕ) (form : StoredForm) (columns : ℕ) (rows : List ℤ) where
  -- so many, of which the first has the number j
  unfoldable pub kept_disjuncts : ℕ → ℕ → ℕ → List ℤ
  kept_disjuncts at j n = disjuncts_code Dense (kept_from (flagged flags) j (disjuncts_of form columns n (drop at rows)))

  pub kept_none : (at j : ℕ) → kept_disjuncts at j 0 ≡ []
  unfolding kept_disjuncts disjuncts_of kept_from disjuncts_code
  kept_none at j = refl

  kept_first : (at j n : ℕ) → kept_disjuncts at j (suc n) ≡ kept_disjunct (get_or flags j 0) form columns rows at ++ kept_disjuncts (at + disjunct_words form columns rows at) (suc j) n
  unfolding kept_disjuncts kept_disjunct kept_from disjuncts_code flagged
  kept_first at j n = rw (first_of_lem form columns rows n at) (go (eqb (get_or flags j 0) 1))
    where
      go : (b : Bool)
          → disjuncts_code Dense (cond b (rows_in form columns (row_count rows at) (drop (at + 1) rows) ∷ kept_from (flagged flags) (suc j) (disjuncts_of form columns n (drop (at + disjunct_words form columns rows at) rows)))
          (kept_from (flagged flags) (suc j) (disjuncts_of form columns n (drop (at + disjunct_words form columns rows at) rows))))
          ≡ cond b (dense_disjunct form columns rows at) [] ++ disjuncts_code Dense (kept_from (flagged flags) (suc j) (disjuncts_of form columns n (drop (at + disjunct_words form columns rows at) rows)))
      go true = rw (disjunct_is Dense form columns rows at) refl
      go false = refl

  -- disjunct j, of so many, and those behind it
  pub kept_next : (at j n : ℕ) → j < n → Cut (kept_disjuncts at j (n - j)) (kept_disjunct (get_or flags j 0) form columns rows at) (kept_disjuncts (at + disjunct_words form columns rows at) (j + 1) (n - (j + 1)))
  kept_next at j n h =
      let e : n - j ≡ suc (n - (j + 1)) = omega arith in
      let next : ℕ = at + disjunct_words form columns rows at in
      record { is = rw e (kept_first at j (n - (j + 1)) ∙ ap (λ (i : ℕ). kept_disjunct (get_or flags j 0) form columns rows at ++ kept_disjuncts next i (n - (j + 1))) (sym (add-one j))) }
