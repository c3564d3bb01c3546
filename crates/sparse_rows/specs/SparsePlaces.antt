-- Where the parts of a sparse row stand, by places of the words: what is read there is the row's count, its columns and its coefficients.
use Rattle.std.specs.Prelude.{◌≡◌, List, ℕ, ◌+◌, ◌≤◌, ◌<◌, ℤ, pos, length, get_or, drop, ◌≤ℤ◌, ◌<ℤ◌}
use Rattle.std.proofs.Math.Path.{sym, ap}
use Rattle.std.proofs.Common.{◌∙◌, arith, length-drop, get_or-take, get_or-drop}
use Rattle.std.proofs.Math.ListN.{get_or-map}
use Rattle.basics.proofs.Integers.{ints}
use Rattle.words.specs.Limits.{coefficient_limit}
use Rattle.words.specs.Words.{word, number}
use Rattle.words.specs.Ranges.{Small}
use Rattle.words.proofs.Ranges.{number_of, number_is}
use Rattle.words.specs.RowWords.{constant_words}
use Rattle.words.specs.SparseRows.{used_of, arrays_from, sparse_size, column_words, columns_of, coefficients_of}
use Rattle.words.specs.SparseForm.{SparseRowForm}
use Rattle.words.proofs.SparseForm.{coefficient_here, count_columns, count_coefficients}

module _ (m : ℕ) (words : List ℤ) (place : ℕ) where
  abbrev here : List ℤ
  here = drop place words

  abbrev used : ℕ
  used = used_of m here

  -- a word of the row, by its place in the row
  there : (from j : ℕ) → word here (from + j) ≡ word words (place + from + j)
  there from j = let e : place + (from + j) ≡ place + from + j = omega arith in get_or-drop place words (from + j) (pos 0) ∙ ap (word words) e

  pub used_at : used ≡ number m (word words (place + constant_words))
  unfolding used_of
  used_at = ap (number m) (get_or-drop place words constant_words (pos 0))

  module _ (j : ℕ) (h : j < used) where
    pub column_is : number m (word words (place + arrays_from + j)) ≡ get_or (columns_of m here) j (number m (pos 0))
    unfolding columns_of column_words
    column_is = ap (number m) (sym (get_or-take used (drop arrays_from here) j (pos 0) h ∙ (get_or-drop arrays_from here j (pos 0) ∙ there arrays_from j))) ∙ sym (get_or-map (number m) (column_words m here) j (pos 0))

    pub coefficient_is : word words (place + arrays_from + used + j) ≡ get_or (coefficients_of m here) j (pos 0)
    coefficient_is =
        let e : place + (arrays_from + used) + j ≡ place + arrays_from + used + j = omega arith in
        sym (coefficient_here m here j h ∙ (there (arrays_from + used) j ∙ ap (word words) e))

    pub column_low : SparseRowForm m here → number m (word words (place + arrays_from + j)) < m
    column_low f =
        let (least, most) = f.in_range j h in
        let same = number_is m m (word here (arrays_from + j)) (omega arith) least (omega (arith, ints)) in
        rw (← there arrays_from j) (omega (arith, ints, same, most))

    -- its word is the column
    pub column_natural : SparseRowForm m here → pos 0 ≤ℤ word words (place + arrays_from + j)
    column_natural f = rw (← there arrays_from j) (f.in_range j h).0

    pub column_read : SparseRowForm m here → (c : ℕ) → pos c ≡ word words (place + arrays_from + j) → c ≡ number m (word words (place + arrays_from + j))
    column_read f c e =
        let most : pos c <ℤ pos m = rw (e, ← there arrays_from j) (f.in_range j h).1 in
        rw (← e) (sym (number_of m c (omega (arith, ints))))

    pub coefficient_low : SparseRowForm m here → Small coefficient_limit (word words (place + arrays_from + used + j))
    coefficient_low f = let e : place + (arrays_from + used) + j ≡ place + arrays_from + used + j = omega arith in rw (← e, ← there (arrays_from + used) j) (f.coefficients j h)

  module _ (long : place + sparse_size used ≤ length words) where
    enough : sparse_size used ≤ length here
    enough = omega (arith, length-drop place words)

    pub many_columns : length (columns_of m here) ≡ used
    many_columns = count_columns m here enough

    pub many_coefficients : length (coefficients_of m here) ≡ used
    many_coefficients = count_coefficients m here enough
