-- Entries of rows: entry 0 is the constant, entry 1 + i the coefficient of column i, so that both share each law.
-- Rows are alike if their entries are the same: then they differ in trailing zeros at most, and no value tells them apart.
use Rattle.std.specs.Prelude.{◌≡◌, ℤ, pos}
use Prim.Native.Nat.{ℕ, zero, suc}
use mathlib.Core.List.{List, [], ◌∷◌}
use Rattle.std.proofs.Math.ListN.{get_or}
use Rattle.rows.specs.Rows.{Row}

unfoldable pub entry : ℕ → Row → ℤ
entry zero r = r.constant
entry (suc i) r = get_or r.coefficients i (pos 0)

pub record Alike (r s : Row) : Type 0 where
  pub same : (i : ℕ) → entry i r ≡ entry i s

pub data AllAlike : List Row → List Row → Type 0 where
  nil : AllAlike [] []
  cons : {r s : Row} {rs ss : List Row} → Alike r s → AllAlike rs ss → AllAlike (r ∷ rs) (s ∷ ss)
