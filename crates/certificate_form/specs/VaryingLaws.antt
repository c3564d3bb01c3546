-- Rows that vary, and disjuncts of such rows, counted up as a loop does: one more comes at the end.
use Rattle.std.specs.Prelude.{◌≡◌, Bool, true, false, ◌&&◌, ℤ, drop, take}
use Rattle.std.proofs.Math.Path.{refl, sym, ap, ap₂}
use Rattle.std.proofs.Common.{◌∙◌, add-one}
use Rattle.std.proofs.Math.Bool.{not, and-true, and_assoc}
use mathlib.Core.List.{List, [], ◌∷◌, ◌++◌}
use Prim.Native.Nat.{ℕ, zero, suc, ◌+◌, ◌<◌}
use Rattle.std.proofs.Math.Seq.{drop-drop}
use Rattle.rows.specs.Rows.{Row, all_zero}
use Rattle.basics.proofs.Booleans.{holds}
use Rattle.words.specs.declared.StoredForm.{StoredForm}
use Rattle.words.specs.Words.{word, small, all_small}
use Rattle.words.proofs.Ranges.{small_between, all_small_lem}
use Rattle.words.specs.RowWords.{constant_words, row_of}
use Rattle.words.proofs.ZeroWords.{zero_words}
use Rattle.words.specs.StoredRows.{row_in, rows_in, rows_take}
use Rattle.words.proofs.StoredRows.{no_rows_in, more_in}
use Rattle.certificates.specs.Certificate.{Disjunct, varies, rows_vary, edges_vary}
use Rattle.certificates.specs.CertificateWords.{row_count, disjunct_words, disjuncts_of, disjuncts_end}
use Rattle.certificates.proofs.Entries.{count_at, rest_at}

rows_vary_more : (d : Disjunct) (r : Row) → rows_vary (d ++ r ∷ []) ≡ rows_vary d && varies r
unfolding rows_vary
rows_vary_more [] r = and-true (varies r)
rows_vary_more (x ∷ d) r = ap (λ (b : Bool). varies x && b) (rows_vary_more d r) ∙ sym (and_assoc (varies x) (rows_vary d) (varies r))

module _ (rows : List ℤ) (columns : ℕ) where
  row_tested : (at : ℕ) → not (all_small rows 0 (at + constant_words) columns) ≡ varies (row_of columns (drop at rows))
  unfolding varies row_of
  row_tested at = ap not (zero_words rows (at + constant_words) columns ∙ ap (λ (l : List ℤ). all_zero (take columns l)) (sym (drop-drop constant_words at rows)))

  pub zeros_next : (at i : ℕ) → all_small rows 0 (at + constant_words) i ≡ true → small 0 (word rows (at + constant_words + i)) ≡ true → all_small rows 0 (at + constant_words) (i + 1) ≡ true
  unfolding all_small
  zeros_next at i e q = ap (all_small rows 0 (at + constant_words)) (add-one i) ∙ ap₂ (λ (a b : Bool). a && b) e q

  -- a coefficient that isn't 0, and none
  pub row_varies : (at i : ℕ) → i < columns → small 0 (word rows (at + constant_words + i)) ≡ false → true ≡ varies (row_of columns (drop at rows))
  row_varies at i h e = go (all_small rows 0 (at + constant_words) columns) refl
    where
      go : (b : Bool) → all_small rows 0 (at + constant_words) columns ≡ b → true ≡ varies (row_of columns (drop at rows))
      go true q = absurd (rw e at ((small_between 0 (word rows (at + constant_words + i))).1 ((all_small_lem rows 0 (at + constant_words) columns).0 (holds q) i h)))
      go false q = ap not (sym q) ∙ row_tested at

  pub row_constant : (at : ℕ) → all_small rows 0 (at + constant_words) columns ≡ true → false ≡ varies (row_of columns (drop at rows))
  row_constant at q = ap not (sym q) ∙ row_tested at

-- ---- rows of either form

module _ (form : StoredForm) (rows : List ℤ) (columns : ℕ) where
  pub rows_vary_none : (at : ℕ) → rows_vary (rows_in form columns 0 (drop at rows)) ≡ true
  unfolding rows_vary
  rows_vary_none at = ap rows_vary (no_rows_in form columns (drop at rows))

  pub rows_vary_next : (at i : ℕ) → rows_vary (rows_in form columns (i + 1) (drop at rows))
      ≡ rows_vary (rows_in form columns i (drop at rows)) && varies (row_in form columns (drop (at + rows_take form columns i (drop at rows)) rows))
  rows_vary_next at i =
      let size : ℕ = rows_take form columns i (drop at rows) in
      ap rows_vary (more_in form columns i (drop at rows)) ∙ rows_vary_more (rows_in form columns i (drop at rows)) (row_in form columns (drop size (drop at rows)))
      ∙ ap (λ (l : List ℤ). rows_vary (rows_in form columns i (drop at rows)) && varies (row_in form columns l)) (drop-drop size at rows)

-- ---- disjuncts

module _ (form : StoredForm) (rows : List ℤ) (columns : ℕ) where
  abbrev pub rows_at : ℕ → Disjunct
  rows_at at = rows_in form columns (row_count rows at) (drop (at + 1) rows)

  pub edges_vary_none : (at : ℕ) → edges_vary (disjuncts_of form columns 0 (drop at rows)) ≡ true
  unfolding edges_vary disjuncts_of
  edges_vary_none at = refl

  edges_vary_suc : (i at : ℕ) → edges_vary (disjuncts_of form columns (suc i) (drop at rows)) ≡ edges_vary (disjuncts_of form columns i (drop at rows)) && rows_vary (rows_at (disjuncts_end form rows columns i at))
  unfolding edges_vary disjuncts_of disjuncts_end
  edges_vary_suc zero at = rw (count_at form rows columns at, drop-drop 1 at rows) (and-true (rows_vary (rows_at at)))
  edges_vary_suc (suc i) at =
      let next = at + disjunct_words form columns rows at in
      let here = rows_vary (rows_in form columns (row_count (drop at rows) 0) (drop 1 (drop at rows))) in
      ap (λ (b : Bool). here && b) (rw (rest_at form rows columns at) (edges_vary_suc i next))
      ∙ sym (and_assoc here (edges_vary (disjuncts_of form columns i (drop (disjunct_words form columns (drop at rows) 0) (drop at rows)))) (rows_vary (rows_at (disjuncts_end form rows columns i next))))

  pub edges_vary_next : (i at : ℕ) → edges_vary (disjuncts_of form columns (i + 1) (drop at rows)) ≡ edges_vary (disjuncts_of form columns i (drop at rows)) && rows_vary (rows_at (disjuncts_end form rows columns i at))
  edges_vary_next i at = rw add-one (edges_vary_suc i at)
