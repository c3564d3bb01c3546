-- A row's words, part by part: the constant's two, then the count and the arrays, or the coefficients. And how many they are.
use Rattle.std.specs.Prelude.{◌≡◌, List, [], ◌∷◌, ◌++◌, ℤ, pos, length, take, set}
use Rattle.std.proofs.Common.{sym, ◌∙◌, length-drop, length-take-le, get_or-drop, drop-drop}
use Rattle.std.proofs.Math.Path.{ap}
use Prim.Native.Nat.{ℕ, suc, ◌+◌, ◌≤◌}
use native.Mathlib.Omega.{arith}
use Rattle.std.proofs.Math.ListN.{drop}
use Rattle.std.proofs.lemmas.List.Edits.{sets}
use Rattle.basics.proofs.Stores.{sets_append}
use Rattle.words.specs.Limits.{most_low}
use Rattle.words.specs.Words.{word}
use Rattle.words.specs.Ranges.{Between}
use Rattle.words.specs.RowWords.{constant_words, constant_at, row_size, row_of}
use Rattle.words.proofs.RowLaws.{constant_dropped}
use Rattle.words.specs.RowCode.{constant_code, row_code}
use Rattle.words.proofs.RowCode.{length_coded}
use Rattle.words.specs.SparseRows.{used_of, arrays_from, sparse_size, sparse_row_of}
use Rattle.words.specs.SparseForm.{SparseRowForm}
use Rattle.words.specs.UsedColumns.{used_coefficients}
use Rattle.words.specs.SparseCode.{sparse_code}
use Rattle.words.proofs.SparseCode.{used_coded, sparse_length, sparse_within}
use Rattle.row_writers.specs.Arrays.{both_arrays}

-- behind the constant's words
behind : (buffer : List ℤ) (to : ℕ) (c : ℤ) (rest : List ℤ) → sets (sets buffer to (constant_code c)) (to + constant_words) rest ≡ sets buffer to (constant_code c ++ rest)
unfolding constant_code
behind buffer to c rest = sets_append (constant_code c) rest buffer to

module _ (columns : ℕ) (rows : List ℤ) (at : ℕ) where
  abbrev here : List ℤ
  here = drop at rows

  -- ---- a dense row, as a sparse one, from where its coefficients stand

  module _ {from used : ℕ} (begins : from ≡ at + constant_words) (counts : used ≡ length (used_coefficients (take columns (drop from rows)))) where
    coefficients : (row_of columns here).coefficients ≡ take columns (drop from rows)
    unfolding row_of
    coefficients = ap (take columns) (drop-drop constant_words at rows ∙ ap (λ (k : ℕ). drop k rows) (sym begins))

    constant : (row_of columns here).constant ≡ constant_at rows at
    unfolding row_of
    constant = constant_dropped at rows

    counted_here : length (used_coefficients (row_of columns here).coefficients) ≡ used
    counted_here = ap (λ (l : List ℤ). length (used_coefficients l)) coefficients ∙ sym counts

    pub sparse_size_lem : at + row_size columns ≤ length rows → length (sparse_code (row_of columns here)) ≡ sparse_size used
    sparse_size_lem long =
        let wide : length (row_of columns here).coefficients ≡ columns = ap length coefficients ∙ length-take-le columns (drop from rows) (omega (arith, length-drop from rows)) in
        sparse_length columns (row_of columns here) wide [] ∙ ap sparse_size (used_coded columns (row_of columns here) wide [] ∙ counted_here)

    pub sparse_written : (buffer : List ℤ) (to : ℕ) {counted : ℕ} {u v : List ℤ} {count : ℤ} → counted ≡ to + constant_words → u ≡ sets buffer to (constant_code (constant_at rows at)) → count ≡ pos used
        → v ≡ sets (set u counted count) (to + arrays_from) (both_arrays (take columns (drop from rows))) → v ≡ sets buffer to (sparse_code (row_of columns here))
    unfolding sparse_code
    sparse_written buffer to ek eu ec ev =
        let next : to + arrays_from ≡ suc (to + constant_words) = omega arith in
        rw (ev, ec, eu, ek, next, counted_here, coefficients, constant) (behind buffer to (constant_at rows at) (pos used ∷ both_arrays (take columns (drop from rows))))

  -- ---- a sparse row, as a dense one

  module _ (form : SparseRowForm columns here) where
    pub low_here : Between (pos 0) (pos most_low) (word rows (at + 1))
    low_here = rw (get_or-drop at rows 1 (pos 0)) at form.low

    pub dense_size : at + sparse_size (used_of columns here) ≤ length rows → length (row_code (sparse_row_of columns here)) ≡ row_size columns
    dense_size long = length_coded columns (sparse_row_of columns here) (sparse_within columns here form (omega (arith, length-drop at rows))).wide

  pub dense_written : (buffer : List ℤ) (to : ℕ) {from : ℕ} {u v : List ℤ} → from ≡ to + constant_words → u ≡ sets buffer to (constant_code (constant_at rows at))
      → v ≡ sets u from (sparse_row_of columns here).coefficients → v ≡ sets buffer to (row_code (sparse_row_of columns here))
  unfolding row_code
  dense_written buffer to ef eu ev =
      let e : (sparse_row_of columns here).constant ≡ constant_at rows at = unfold sparse_row_of in constant_dropped at rows in
      rw (ev, eu, ef, e) (behind buffer to (constant_at rows at) (sparse_row_of columns here).coefficients)
