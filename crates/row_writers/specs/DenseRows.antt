-- The coefficients of a sparse row, as they are written out: zeros first, and then each in its column.
use Rattle.std.specs.Prelude.{◌≡◌, List, [], ◌∷◌, ◌++◌, ℕ, zero, suc, ◌+◌, ◌≤◌, ◌<◌, ℤ, pos, get_or, take, drop, set, replicate}
use Rattle.std.proofs.Math.Path.{refl, sym}
use Rattle.std.proofs.Common.{ap, ◌∙◌, append_assoc, add-one, arith, length-take, length-take-le, get_or-drop}
use Rattle.std.proofs.Math.ListN.{length, length-drop}
use Rattle.std.proofs.lemmas.List.Edits.{sets, sets-eq, paste_all}
use Rattle.std.proofs.lemmas.Slice.{put_mid-paste}
use borrow.Rule.Slice.PartMut.{put_mid}
use Rattle.std.proofs.Math.Seq.{take-suc, take_all}
use Rattle.basics.proofs.Integers.{ints}
use Rattle.basics.proofs.Stores.{set_within}
use Rattle.rows.specs.Columns.{zeros}
use Rattle.rows.proofs.Blocks.{length_zeros}
use Rattle.words.specs.Words.{word}
use Rattle.words.specs.RowWords.{constant_words}
use Rattle.words.specs.SparseRows.{used_of, arrays_from, sparse_size, columns_of, coefficients_of, scatter, sparse_row_of}
use Rattle.words.specs.SparseForm.{SparseRowForm}
use Rattle.words.proofs.SparseForm.{coefficient_here, count_word_lem, column_word, count_columns, count_coefficients}
use Rattle.words.proofs.UsedColumns.{scatter_snoc, scatter_length}

-- ---- zeros

zeros_alike : (n : ℕ) → replicate n (pos 0) ≡ zeros n
unfolding zeros
zeros_alike zero = refl
zeros_alike (suc n) = ap (λ (l : List ℤ). pos 0 ∷ l) (zeros_alike n)

zeros_snoc : (i : ℕ) → zeros i ++ pos 0 ∷ [] ≡ zeros (suc i)
unfolding zeros
zeros_snoc zero = refl
zeros_snoc (suc i) = ap (λ (l : List ℤ). pos 0 ∷ l) (zeros_snoc i)

-- a part of a buffer, written over
pub part_stored_lem : (buffer ys zs : List ℤ) (from n k : ℕ) → ys ≡ zs → n ≡ k → length zs ≡ n → from + n ≤ length buffer → put_mid from k buffer ys ≡ sets buffer from zs
part_stored_lem buffer ys zs from n k e p q h =
    put_mid-paste from k buffer ys zs n e p (sym q) ∙ paste_all buffer from zs n (sym q)
    ∙ ap (λ (m : ℕ). take from buffer ++ (zs ++ drop (from + m) buffer)) (sym q) ∙ sym (append_assoc (take from buffer) zs (drop (from + length zs) buffer)) ∙ sym (sets-eq zs buffer from (omega arith))

pub zeros_stored : (buffer ys : List ℤ) (from n k : ℕ) → n ≡ k → from + n ≤ length buffer → ys ≡ replicate (length (take k (drop from buffer))) (pos 0) → put_mid from k buffer ys ≡ sets buffer from (zeros n)
zeros_stored buffer ys from n k p h e =
    let m : length (take k (drop from buffer)) ≡ n = omega (arith, length-take k (drop from buffer), length-drop from buffer) in
    part_stored_lem buffer ys (zeros n) from n k (e ∙ ap (λ (j : ℕ). replicate j (pos 0)) m ∙ zeros_alike n) p (length_zeros n) h

-- ---- each coefficient in its column

module _ (columns : ℕ) (rows : List ℤ) (at : ℕ) where
  abbrev here : List ℤ
  here = drop at rows

  abbrev used : ℕ
  used = used_of columns here

  -- the first j are there
  unfoldable pub part_of : ℕ → List ℤ
  part_of j = scatter (zeros columns) (take j (columns_of columns here)) (take j (coefficients_of columns here))

  pub part_none : part_of 0 ≡ zeros columns
  unfolding part_of scatter
  part_none = refl

  part_length : (j : ℕ) → length (part_of j) ≡ columns
  unfolding part_of
  part_length j = scatter_length (zeros columns) (take j (columns_of columns here)) (take j (coefficients_of columns here)) ∙ length_zeros columns

  module _ (form : SparseRowForm columns here) where
    -- the count
    pub count_here : word rows (at + constant_words) ≡ pos used
    count_here = sym (get_or-drop at rows constant_words (pos 0)) ∙ count_word_lem columns here form

    module _ (long : at + sparse_size used ≤ length rows) (j : ℕ) (h : j < used) where
      pub column_there : word rows (at + arrays_from + j) ≡ pos (get_or (columns_of columns here) j 0)
      column_there = let e : at + arrays_from + j ≡ at + (arrays_from + j) = omega arith in rw e (sym (get_or-drop at rows (arrays_from + j) (pos 0)) ∙ column_word columns here form j h)

      column_low : get_or (columns_of columns here) j 0 < columns
      column_low = let b = form.in_range j h in omega (arith, ints, b.1, column_word columns here form j h)

      value_here : word rows (at + arrays_from + used + j) ≡ word (coefficients_of columns here) j
      value_here = let e : at + arrays_from + used + j ≡ at + (arrays_from + used + j) = omega arith in rw e (sym (get_or-drop at rows (arrays_from + used + j) (pos 0)) ∙ sym (coefficient_here columns here j h))

      part_next : part_of (j + 1) ≡ set (part_of j) (get_or (columns_of columns here) j 0) (word rows (at + arrays_from + used + j))
      unfolding part_of
      part_next =
          let long' : sparse_size used ≤ length here = omega (arith, length-drop at rows) in
          let m = count_columns columns here long' in
          let n = count_coefficients columns here long' in
          rw (add-one j, take-suc (columns_of columns here) j 0 (omega (arith, m)), take-suc (coefficients_of columns here) j (pos 0) (omega (arith, n)), value_here)
          (scatter_snoc (zeros columns) (take j (columns_of columns here)) (take j (coefficients_of columns here)) (get_or (columns_of columns here) j 0) (word (coefficients_of columns here) j) (length-take-le j (columns_of columns here) (omega (arith, m)) ∙ sym (length-take-le j (coefficients_of columns here) (omega (arith, n)))))

      -- a column is one of the row's
      pub column_few : {column : ℕ} → pos column ≡ word rows (at + arrays_from + j) → column < columns
      column_few e = omega (arith, ints, e, column_there, column_low)

      -- and so in a buffer
      pub part_stored : (buffer : List ℤ) (from : ℕ) {u : List ℤ} {column : ℕ} {value : ℤ} → u ≡ sets buffer from (part_of j) → pos column ≡ word rows (at + arrays_from + j)
          → value ≡ word rows (at + arrays_from + used + j) → set u (from + column) value ≡ sets buffer from (part_of (j + 1))
      part_stored buffer from {column = column} eu ec ev =
          let c : column ≡ get_or (columns_of columns here) j 0 = omega (arith, ints, ec, column_there) in
          rw (eu, ev, c, part_next) (set_within (part_of j) buffer from (get_or (columns_of columns here) j 0) (word rows (at + arrays_from + used + j)) (omega (arith, column_low, part_length j)))

    pub part_all : at + sparse_size used ≤ length rows → part_of used ≡ (sparse_row_of columns here).coefficients
    unfolding part_of sparse_row_of
    part_all long =
        let long' : sparse_size used ≤ length here = omega (arith, length-drop at rows) in
        rw (take_all used (columns_of columns here) (omega (arith, count_columns columns here long')), take_all used (coefficients_of columns here) (omega (arith, count_coefficients columns here long')))
