-- Rows within their limits, whatever words they stand in.
use Rattle.std.specs.Prelude.{◌≡◌, ℕ, List, [], ◌∷◌, ℤ, length}
use Rattle.rows.specs.Rows.{Row}
use Rattle.words.specs.Limits.{constant_limit, coefficient_limit}
use Rattle.words.specs.Words.{word}
use Rattle.words.specs.Ranges.{Small}

-- all are within a limit; past the end they are 0
abbrev pub AllWithin : ℕ → List ℤ → Type 0
AllWithin limit l = (i : ℕ) → Small limit (word l i)

-- "Coefficients −1,000..1,000", constants "within ±4,000,000,000", a coefficient for each column
pub record RowWithin (columns : ℕ) (r : Row) : Type 0 where
  pub wide : length r.coefficients ≡ columns
  pub constant : Small constant_limit r.constant
  pub coefficients : AllWithin coefficient_limit r.coefficients

pub data RowsWithin (columns : ℕ) : List Row → Type 0 where
  none : RowsWithin columns []
  one : {r : Row} {rs : List Row} → RowWithin columns r → RowsWithin columns rs → RowsWithin columns (r ∷ rs)
