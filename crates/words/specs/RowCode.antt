-- The words of a row, for whoever writes one: its constant's and then its coefficients. Reading them gives the row back, and words with the low
-- one in its range are those of the row that is read.
use Rattle.std.specs.Prelude.{◌+◌, ℤ}
use mathlib.Core.List.{List, [], ◌∷◌, ◌++◌}
use Rattle.rows.specs.Rows.{Row}
use Rattle.words.specs.ConstantCode.{high_of, low_of}

unfoldable pub constant_code : ℤ → List ℤ
constant_code c = high_of c ∷ low_of c ∷ []

unfoldable pub row_code : Row → List ℤ
row_code r = constant_code r.constant ++ r.coefficients
