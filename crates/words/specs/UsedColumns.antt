-- The coefficients of a row that aren't 0, and their columns. Put into zeros they are the row again; and what was put into zeros in rising columns,
-- none of it 0, are they. Both go column by column, with the columns before kept as they are.
use Rattle.std.specs.Prelude.{◌≡◌, Bool, true, cond, ◌&&◌, ltb, ℤ}
use mathlib.Core.List.{List, [], ◌∷◌, ◌++◌}
use Prim.Native.Nat.{ℕ, suc, ◌+◌}
use Rattle.std.proofs.Math.IntN.{pos}
use Rattle.basics.specs.Integers.{eq_z}

-- "rising columns": which of the columns i, i + 1, .. have a coefficient that isn't 0
unfoldable pub used_columns : ℕ → List ℤ → List ℕ
used_columns i [] = []
used_columns i (x ∷ xs) = cond (eq_z x (pos 0)) (used_columns (suc i) xs) (i ∷ used_columns (suc i) xs)

-- "and their non-zero coefficients"
unfoldable pub used_coefficients : List ℤ → List ℤ
used_coefficients [] = []
used_coefficients (x ∷ xs) = cond (eq_z x (pos 0)) (used_coefficients xs) (x ∷ used_coefficients xs)

-- ---- and of zeros with coefficients put in, in rising columns, these are the coefficients that aren't 0

-- each is one of 0..m-1
unfoldable pub all_under : ℕ → List ℕ → Bool
all_under m [] = true
all_under m (c ∷ cs) = ltb c m && all_under m cs

-- the coefficients that aren't 0, of what is put behind `pre`
pub record Used (pre l : List ℤ) (cs : List ℕ) (xs : List ℤ) : Type 0 where
  pub in_columns : used_columns 0 l ≡ used_columns 0 pre ++ cs
  pub are : used_coefficients l ≡ used_coefficients pre ++ xs
