-- The tests of sparse rows, said in inequalities: each holds if and only if its test passes, for a row and for so many rows, one after the other.
use Rattle.std.specs.Prelude.{◌≡◌, length, get_or, drop, ◌≤ℤ◌, ◌<ℤ◌}
use mathlib.Core.List.{List}
use Prim.Native.Nat.{ℕ, suc, ◌+◌, ◌≤◌, ◌<◌}
use Rattle.std.proofs.Math.IntN.{ℤ, pos}
use Rattle.words.specs.Limits.{constant_limit, most_low, coefficient_limit}
use Rattle.words.specs.Words.{word}
use Rattle.words.specs.RowWords.{constant_words, constant_at}
use Rattle.words.specs.Ranges.{Between, Small}
use Rattle.words.specs.SparseRows.{used_of, arrays_from, columns_of, coefficients_of, sparse_words}

-- ---- test 5

-- one of 0..columns-1
abbrev pub IsColumn : ℕ → ℤ → Type 0
IsColumn columns z = (pos 0 ≤ℤ z) × (z <ℤ pos columns)

-- the row at the head of the words: constant, high and low, and coefficients within their limits, and no "count or column out of range"
pub record SparseRowForm (columns : ℕ) (words : List ℤ) : Type 0 where
  pub low : Between (pos 0) (pos most_low) (word words 1)
  pub constant : Small constant_limit (constant_at words 0)
  pub count : Between (pos 0) (pos columns) (word words constant_words)
  pub in_range : (i : ℕ) → i < used_of columns words → IsColumn columns (word words (arrays_from + i))
  pub coefficients : (i : ℕ) → i < used_of columns words → Small coefficient_limit (word words (arrays_from + used_of columns words + i))

module _ (columns : ℕ) (words : List ℤ) where
  abbrev pub used : ℕ
  used = used_of columns words

-- ---- test 25

-- the row at the head of the words has no "falling or repeated column" and no "zero coefficient"
pub record StrictRow (columns : ℕ) (words : List ℤ) : Type 0 where
  pub rising : (i : ℕ) → suc i < length (columns_of columns words) → get_or (columns_of columns words) i 0 < get_or (columns_of columns words) (suc i) 0
  pub nonzero : (i : ℕ) → i < length (coefficients_of columns words) → ¬ (word (coefficients_of columns words) i ≡ pos 0)

module _ (columns n : ℕ) (words : List ℤ) where
  -- what 5 asks of each
  unfoldable pub SparseRowsForm : Type 0
  SparseRowsForm = (i : ℕ) → i < n → SparseRowForm columns (drop (sparse_words columns i words) words)

  -- and what 25 does
  unfoldable pub StrictRows : Type 0
  StrictRows = (i : ℕ) → i < n → StrictRow columns (drop (sparse_words columns i words) words)
