-- A premise that is put in with multiplier 0 changes no weighted sum, wherever it is put in among the others: what was refuted is refuted, and
-- what was yielded is yielded, by whatever rule for the constant.
use mathlib.Core.List.{List, map}
use Prim.Native.Nat.{ℕ}
use Rattle.std.proofs.Math.IntN.{pos}
use Rattle.rows.specs.Rows.{Row, combine}

-- the premise g, put in at i
module _ (g : Row) where
  abbrev pub sum : List ℕ → List Row → Row
  sum ms rows = combine (map pos ms) rows
