-- Rows that are columns, blocks of columns, and zeros.
use Rattle.std.specs.Prelude.{ℕ, zero, suc, List, [], ◌∷◌, ℤ, pos}
use Rattle.rows.specs.Rows.{Row}

unfoldable pub unit : ℕ → List ℤ
unit zero = pos 1 ∷ []
unit (suc i) = pos 0 ∷ unit i

-- the row that is one column's value
unfoldable pub column : ℕ → Row
column i = record { constant = pos 0; coefficients = unit i }

-- so many columns from column i on
unfoldable pub columns : ℕ → ℕ → List Row
columns i zero = []
columns i (suc n) = column i ∷ columns (suc i) n

unfoldable pub zeros : ℕ → List ℤ
zeros zero = []
zeros (suc n) = pos 0 ∷ zeros n
