-- Rows: a constant and coefficients, for the sum `constant + Σ coefficient × column`.
-- A coefficient or a column that isn't there counts as 0, so no law asks for lengths and each holds for any number of columns.
use Rattle.std.specs.Prelude.{ℕ, Bool, true, ◌&&◌, List, [], ◌∷◌, map, ℤ, pos, ◌+ℤ◌, ◌-ℤ◌, ◌*ℤ◌, ◌≤ℤ◌}
use Rattle.std.specs.Int.Signed.{le_z}
use Rattle.basics.specs.Integers.{eq_z}

pub record Row : Type 0 where
  pub constant : ℤ
  pub coefficients : List ℤ

unfoldable pub dot : List ℤ → List ℤ → ℤ
dot [] s = pos 0
dot (c ∷ cs) [] = pos 0
dot (c ∷ cs) (x ∷ s) = c *ℤ x +ℤ dot cs s

-- a row's sum at the values of the columns
unfoldable pub value : Row → List ℤ → ℤ
value r s = r.constant +ℤ dot r.coefficients s

unfoldable pub values : List Row → List ℤ → List ℤ
values [] s = []
values (r ∷ rs) s = value r s ∷ values rs s

-- rows that hold at the values of the columns: each sum is at most 0
pub data Holds (s : List ℤ) : List Row → Type 0 where
  nil : Holds s []
  cons : {r : Row} {rs : List Row} → value r s ≤ℤ pos 0 → Holds s rs → Holds s (r ∷ rs)

-- ---- sums of rows

unfoldable pub plus : List ℤ → List ℤ → List ℤ
plus [] ys = ys
plus (x ∷ xs) [] = x ∷ xs
plus (x ∷ xs) (y ∷ ys) = (x +ℤ y) ∷ plus xs ys

unfoldable pub scaled : ℤ → List ℤ → List ℤ
scaled m [] = []
scaled m (x ∷ xs) = (m *ℤ x) ∷ scaled m xs

unfoldable pub constant_row : ℤ → Row
constant_row c = record { constant = c; coefficients = [] }

unfoldable pub add : Row → Row → Row
add a b = record { constant = a.constant +ℤ b.constant; coefficients = plus a.coefficients b.coefficients }

unfoldable pub scale : ℤ → Row → Row
scale m r = record { constant = m *ℤ r.constant; coefficients = scaled m r.coefficients }

-- the weighted sum of rows
unfoldable pub combine : List ℤ → List Row → Row
combine [] rows = constant_row (pos 0)
combine (w ∷ ws) [] = constant_row (pos 0)
combine (w ∷ ws) (r ∷ rows) = add (scale w r) (combine ws rows)

-- a row over some columns, each of which is given by a row over other columns: again a weighted sum
unfoldable pub substitute : List Row → Row → Row
substitute image r = add (constant_row r.constant) (combine r.coefficients image)

unfoldable pub substitute_all : List Row → List Row → List Row
substitute_all image [] = []
substitute_all image (r ∷ rs) = substitute image r ∷ substitute_all image rs

-- ---- a weighted sum of premises that fits

unfoldable pub all_zero : List ℤ → Bool
all_zero [] = true
all_zero (x ∷ xs) = eq_z x (pos 0) && all_zero xs

-- two lists of coefficients agree, column by column
unfoldable pub agree : List ℤ → List ℤ → Bool
agree [] ys = all_zero ys
agree (x ∷ xs) [] = all_zero (x ∷ xs)
agree (x ∷ xs) (y ∷ ys) = eq_z x y && agree xs ys

-- "Let the weighted sum's constant be at least divisor times (row's constant − 1), plus 1."
unfoldable pub fits_constant : ℕ → ℤ → ℤ → Bool
fits_constant divisor target sum = le_z (pos divisor *ℤ (target -ℤ pos 1) +ℤ pos 1) sum

-- "the weighted sum has all coefficients 0 and constant at least 1"
unfoldable pub refutes : List ℕ → List Row → Bool
refutes multipliers premises =
    all_zero (combine (map pos multipliers) premises).coefficients && le_z (pos 1) (combine (map pos multipliers) premises).constant

-- "the weighted sum has the coefficients of divisor times the row", and a constant that fits by a rule, which is given the divisor, the row's
-- constant and the sum's
unfoldable pub yields_by : (ℕ → ℤ → ℤ → Bool) → ℕ → List ℕ → List Row → Row → Bool
yields_by rule divisor multipliers premises r =
    agree (combine (map pos multipliers) premises).coefficients (scaled (pos divisor) r.coefficients)
    && rule divisor r.constant (combine (map pos multipliers) premises).constant

-- by the rule that holds
abbrev pub yields : ℕ → List ℕ → List Row → Row → Bool
yields divisor multipliers premises r = yields_by fits_constant divisor multipliers premises r
