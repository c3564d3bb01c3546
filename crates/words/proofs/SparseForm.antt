-- The tests of sparse rows, said in inequalities: each holds if and only if its test passes, for a row and for so many rows, one after the other.
use Rattle.std.specs.Prelude.{◌≡◌, refl, ◌↔◌, Bool, true, false, not, ◌&&◌, leb, ltb, length, get_or, take, drop}
use Rattle.std.proofs.Common.{sym, ◌∙◌, arith, ltb-true, ltb-false, leb→le, le→leb}
use Rattle.std.proofs.Math.Path.{ap}
use mathlib.Core.List.{List, [], ◌∷◌, map}
use Prim.Native.Nat.{ℕ, zero, suc, ◌+◌, ◌≤◌, ◌<◌}
use Rattle.std.proofs.Math.Dec.{T}
use Rattle.std.proofs.Math.IntN.{ℤ, pos}
use Rattle.std.proofs.Math.ListN.{length-take, length-drop, length-map, get_or-map, get_or-eq_default}
use Rattle.std.proofs.Math.Seq.{get_or-take, get_or-drop, drop-drop, length-take-le}
use Rattle.basics.proofs.Booleans.{both, and, and_l, and_r, holds}
use Rattle.basics.specs.Integers.{eq_z}
use Rattle.basics.proofs.Integers.{ints, eq_z→eq, eq→eqZ}
use Rattle.words.specs.Words.{word, number, below}
use Rattle.words.specs.RowWords.{constant_words, is_constant, constant_at, constant_passes}
use Rattle.words.proofs.Ranges.{within_between, below_between, small_between, all_small_lem, number_most, number_of, number_is}
use Rattle.words.specs.SparseRows.{used_of, arrays_from, sparse_size, column_words, columns_of, coefficients_of, sparse_words, all_below, sparse_passes, rises_from, none_zero, sparse_strict, each_sparse, sparse_rows_pass, sparse_rows_strict}
use Rattle.words.specs.SparseForm.{IsColumn, SparseRowForm, SparseRowsForm, StrictRow, StrictRows, used}

-- ---- a test of each number of a list

module _ (test : ℤ → Bool) (P : ℤ → Type 0) (means : (z : ℤ) → T (test z) ↔ P z) (all : List ℤ → Bool) (start : all [] ≡ true) (grows : (z : ℤ) (zs : List ℤ) → all (z ∷ zs) ≡ test z && all zs) where
  each_of : (zs : List ℤ) → T (all zs) → (i : ℕ) → i < length zs → P (word zs i)
  each_of [] t i h = absurd (omega arith)
  each_of (z ∷ zs) t zero h = (means z).0 (and_l (test z) (all zs) (rw (grows z zs) at t))
  each_of (z ∷ zs) t (suc i) h = each_of zs (and_r (test z) (all zs) (rw (grows z zs) at t)) i (omega arith)

  of_each : (zs : List ℤ) → ((i : ℕ) → i < length zs → P (word zs i)) → T (all zs)
  of_each [] f = holds start
  of_each (z ∷ zs) f = rw (grows z zs) (and (test z) (all zs) ((means z).1 (f 0 (omega arith))) (of_each zs (λ i h. f (suc i) (omega arith))))

  each_in : (zs : List ℤ) → T (all zs) ↔ ((i : ℕ) → i < length zs → P (word zs i))
  each_in zs = (each_of zs, of_each zs)

all_below_lem : (high : ℕ) (zs : List ℤ) → T (all_below high zs) ↔ ((i : ℕ) → i < length zs → IsColumn high (word zs i))
unfolding all_below
all_below_lem high = each_in (below high) (IsColumn high) (below_between high) (all_below high) refl (λ z zs. refl)

module _ (columns : ℕ) (words : List ℤ) where
  used_most : (used columns words) ≤ columns
  unfolding used_of
  used_most = number_most columns _

  -- the words of both arrays, where they stand
  column_here : (i : ℕ) → i < (used columns words) → word (column_words columns words) i ≡ word words (arrays_from + i)
  unfolding column_words
  column_here i h = get_or-take (used columns words) (drop arrays_from words) i (pos 0) h ∙ get_or-drop arrays_from words i (pos 0)

  pub coefficient_here : (i : ℕ) → i < (used columns words) → word (coefficients_of columns words) i ≡ word words (arrays_from + (used columns words) + i)
  unfolding coefficients_of
  coefficient_here i h = get_or-take (used columns words) (drop (arrays_from + (used columns words)) words) i (pos 0) h ∙ get_or-drop (arrays_from + (used columns words)) words i (pos 0)

  few : (i : ℕ) → i < length (column_words columns words) → i < (used columns words)
  unfolding column_words
  few i h = omega (arith, length-take (used columns words) (drop arrays_from words))

  -- the columns' test; a word past the end is 0, which is a column
  columns_in_range : T (all_below columns (column_words columns words)) ↔ ((i : ℕ) → i < (used columns words) → IsColumn columns (word words (arrays_from + i)))
  columns_in_range = (λ t i h. there t i h (ltb i (length (column_words columns words))) refl, λ f. (all_below_lem columns (column_words columns words)).1 (λ i h. rw (column_here i (few i h)) (f i (few i h))))
    where
      there : T (all_below columns (column_words columns words)) → (i : ℕ) → i < (used columns words) → (b : Bool) → ltb i (length (column_words columns words)) ≡ b → IsColumn columns (word words (arrays_from + i))
      there t i h true e = rw (column_here i h) at ((all_below_lem columns (column_words columns words)).0 t i (ltb-true i (length (column_words columns words)) e))
      there t i h false e =
          let none : word words (arrays_from + i) ≡ pos 0 = sym (column_here i h) ∙ get_or-eq_default (column_words columns words) (pos 0) (ltb-false i (length (column_words columns words)) e) in
          rw none (omega (arith, ints), omega (arith, ints, used_most))

  pub sparse_form : T (sparse_passes columns words) ↔ SparseRowForm columns words
  unfolding is_constant constant_at constant_passes sparse_passes
  sparse_form = (there, back)
    where
      there : T (sparse_passes columns words) → SparseRowForm columns words
      there t = let x = simp (both, within_between, small_between, all_small_lem, columns_in_range) at t in search

      back : SparseRowForm columns words → T (sparse_passes columns words)
      back x = simp (both, within_between, small_between, all_small_lem, columns_in_range) search

rises_each : (least : ℕ) (cs : List ℕ) → T (rises_from least cs) → (i : ℕ) → suc i < length cs → get_or cs i 0 < get_or cs (suc i) 0
unfolding rises_from
rises_each least [] t i h = absurd (omega arith)
rises_each least (c ∷ []) t i h = absurd (omega arith)
rises_each least (c ∷ d ∷ cs) t zero h = leb→le (suc c) d (and_l (leb (suc c) d) (rises_from (suc d) cs) (and_r (leb least c) (rises_from (suc c) (d ∷ cs)) t))
rises_each least (c ∷ d ∷ cs) t (suc i) h = rises_each (suc c) (d ∷ cs) (and_r (leb least c) (rises_from (suc c) (d ∷ cs)) t) i (omega arith)

each_rises : (least : ℕ) (cs : List ℕ) → (0 < length cs → least ≤ get_or cs 0 0) → ((i : ℕ) → suc i < length cs → get_or cs i 0 < get_or cs (suc i) 0) → T (rises_from least cs)
unfolding rises_from
each_rises least [] first f = tt
each_rises least (c ∷ cs) first f = and (leb least c) (rises_from (suc c) cs) (le→leb least c (first (omega arith))) (each_rises (suc c) cs (λ h. f 0 (omega arith)) (λ i h. f (suc i) (omega arith)))

not_zero : (z : ℤ) → T (not (eq_z z (pos 0))) ↔ (¬ (z ≡ pos 0))
not_zero z = (λ t e. there (eq_z z (pos 0)) t (eq→eqZ e), λ n. back (eq_z z (pos 0)) (λ t. n (eq_z→eq z (pos 0) t)))
  where
    there : (b : Bool) → T (not b) → T b → ⊥
    there true t u = t
    there false t u = u

    back : (b : Bool) → ¬ T b → T (not b)
    back true n = n tt
    back false n = tt

none_zero_lem : (zs : List ℤ) → T (none_zero zs) ↔ ((i : ℕ) → i < length zs → ¬ (word zs i ≡ pos 0))
unfolding none_zero
none_zero_lem = each_in (λ z. not (eq_z z (pos 0))) (λ z. ¬ (z ≡ pos 0)) not_zero none_zero refl (λ z zs. refl)

module _ (columns : ℕ) (words : List ℤ) where
  pub strict_row : T (sparse_strict columns words) ↔ StrictRow columns words
  unfolding sparse_strict
  strict_row = (there, back)
    where
      cs : List ℕ
      cs = columns_of columns words

      xs : List ℤ
      xs = coefficients_of columns words

      there : T (sparse_strict columns words) → StrictRow columns words
      there t = record { rising = rises_each 0 cs (and_l (rises_from 0 cs) (none_zero xs) t); nonzero = (none_zero_lem xs).0 (and_r (rises_from 0 cs) (none_zero xs) t) }

      back : StrictRow columns words → T (sparse_strict columns words)
      back s = and (rises_from 0 cs) (none_zero xs) (each_rises 0 cs (λ h. omega arith) s.rising) ((none_zero_lem xs).1 s.nonzero)

-- ---- what is read, and the words: with the form, count and columns are their words, and a row that is all there has as many columns and coefficients
-- as its count says

module _ (columns : ℕ) (words : List ℤ) where
  pub count_word_lem : SparseRowForm columns words → word words constant_words ≡ pos (used_of columns words)
  unfolding used_of
  count_word_lem f = number_is columns columns (word words constant_words) (omega arith) f.count.least f.count.most

  pub column_word : SparseRowForm columns words → (i : ℕ) → i < used_of columns words → word words (arrays_from + i) ≡ pos (get_or (columns_of columns words) i 0)
  unfolding columns_of
  column_word f i h =
      let w : ℤ = word words (arrays_from + i) in
      let b : IsColumn columns w = f.in_range i h in
      number_is columns columns w (omega arith) b.0 (omega (arith, ints, b.1))
      ∙ ap pos (ap (number columns) (sym (column_here columns words i h)) ∙ (sym (get_or-map (number columns) (column_words columns words) i (pos 0)) ∙ ap (get_or (map (number columns) (column_words columns words)) i) (number_of columns 0 (omega arith))))

  module _ (long : sparse_size (used_of columns words) ≤ length words) where
    pub count_columns : length (columns_of columns words) ≡ used_of columns words
    unfolding columns_of column_words
    count_columns =
        length-map (take (used_of columns words) (drop arrays_from words)) (number columns)
        ∙ length-take-le (used_of columns words) (drop arrays_from words) (omega (arith, length-drop arrays_from words))

    pub count_coefficients : length (coefficients_of columns words) ≡ used_of columns words
    unfolding coefficients_of
    count_coefficients = length-take-le (used_of columns words) (drop (arrays_from + used_of columns words) words) (omega (arith, length-drop (arrays_from + used_of columns words) words))

-- ---- so many rows, one after the other

module _ (columns : ℕ) (test : List ℤ → Bool) (P : List ℤ → Type 0) (means : (words : List ℤ) → T (test words) ↔ P words) where
  rows_of : (n : ℕ) (words : List ℤ) → T (each_sparse test columns n words) → (i : ℕ) → i < n → P (drop (sparse_words columns i words) words)
  unfolding each_sparse sparse_words
  rows_of zero words t i h = absurd (omega arith)
  rows_of (suc n) words t zero h = (means words).0 (and_l (test words) (each_sparse test columns n (drop (sparse_size (used_of columns words)) words)) t)
  rows_of (suc n) words t (suc i) h =
      let size : ℕ = sparse_size (used_of columns words) in
      rw (← drop-drop (sparse_words columns i (drop size words)) size words) (rows_of n (drop size words) (and_r (test words) (each_sparse test columns n (drop size words)) t) i (omega arith))

  of_rows : (n : ℕ) (words : List ℤ) → ((i : ℕ) → i < n → P (drop (sparse_words columns i words) words)) → T (each_sparse test columns n words)
  unfolding each_sparse sparse_words
  of_rows zero words f = tt
  of_rows (suc n) words f =
      let size : ℕ = sparse_size (used_of columns words) in
      and (test words) (each_sparse test columns n (drop size words)) ((means words).1 (f 0 (omega arith)))
      (of_rows n (drop size words) (λ i h. rw (drop-drop (sparse_words columns i (drop size words)) size words) (f (suc i) (omega arith))))

  each_sparse_lem : (n : ℕ) (words : List ℤ) → T (each_sparse test columns n words) ↔ ((i : ℕ) → i < n → P (drop (sparse_words columns i words) words))
  each_sparse_lem n words = (rows_of n words, of_rows n words)

module _ (columns n : ℕ) (words : List ℤ) where
  pub sparse_rows_form : T (sparse_rows_pass columns n words) ↔ (SparseRowsForm columns n words)
  unfolding sparse_rows_pass SparseRowsForm
  sparse_rows_form = each_sparse_lem columns (sparse_passes columns) (SparseRowForm columns) (sparse_form columns) n words

  pub strict_rows : T (sparse_rows_strict columns n words) ↔ (StrictRows columns n words)
  unfolding sparse_rows_strict StrictRows
  strict_rows = each_sparse_lem columns (sparse_strict columns) (StrictRow columns) (strict_row columns) n words
