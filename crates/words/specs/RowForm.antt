-- The form of rows in words, said in inequalities over ℤ: it holds if and only if their tests pass, each of which is an inequality. A row of
-- that form that lies in the words whole is an expression.
use Rattle.std.specs.Prelude.{List, ℕ, ◌+◌, ◌*◌, ◌≤◌, ◌<◌, ℤ, pos, length}
use Rattle.basics.proofs.Booleans.{each}
use Rattle.words.specs.Limits.{constant_limit, most_low, coefficient_limit}
use Rattle.words.specs.Words.{word}
use Rattle.words.specs.RowWords.{constant_words, constant_at, row_size}
use Rattle.words.specs.Ranges.{Between, Small}

-- the row at a place: constant, high and low, then coefficients, within their limits
pub record RowForm (words : List ℤ) (at columns : ℕ) : Type 0 where
  pub low : Between (pos 0) (pos most_low) (word words (at + 1))
  pub constant : Small constant_limit (constant_at words at)
  pub coefficients : (i : ℕ) → i < columns → Small coefficient_limit (word words (at + constant_words + i))

module _ (words : List ℤ) where
  -- so many rows, one after the other
  unfoldable pub RowsForm : ℕ → ℕ → ℕ → Type 0
  RowsForm at columns m = (i : ℕ) → i < m → RowForm words (at + i * row_size columns) columns

-- ---- expressions

-- an expression over so many columns stands at a place
pub record Expression (words : List ℤ) (at columns : ℕ) : Type 0 where
  pub inside : at + row_size columns ≤ length words
  pub form : RowForm words at columns

-- so many expressions stand from a place on, one after the other
pub record Expressions (words : List ℤ) (at columns count : ℕ) : Type 0 where
  pub each : (i : ℕ) → i < count → Expression words (at + i * row_size columns) columns
