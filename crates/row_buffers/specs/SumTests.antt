-- The tests of a weighted sum, as the code makes them of two rows, entry by entry. Rows that are alike pass the same tests.
use Rattle.std.specs.Prelude.{Bool, ◌&&◌, ℕ, pos}
use Rattle.std.specs.Int.Signed.{le_z}
use Rattle.rows.specs.Rows.{Row, scaled, all_zero, agree, fits_constant}

-- the sum has the coefficients of divisor times the row, and its constant is not below divisor times the row's
unfoldable pub is_yielded : ℕ → Row → Row → Bool
is_yielded divisor sum r = agree sum.coefficients (scaled (pos divisor) r.coefficients) && fits_constant divisor r.constant sum.constant

-- the sum has all coefficients 0 and constant at least 1
unfoldable pub is_refuted : Row → Bool
is_refuted sum = all_zero sum.coefficients && le_z (pos 1) sum.constant
