-- A sparse row put into a buffer, coefficient by coefficient: each is stored in its column, over zeros.
use Rattle.std.specs.Prelude.{ℤ, take, drop}
use mathlib.Core.List.{List}
use Prim.Native.Nat.{ℕ}
use Rattle.rows.specs.Rows.{Row}
use Rattle.rows.specs.Columns.{zeros}
use Rattle.words.specs.RowWords.{constant_at}
use Rattle.words.specs.SparseRows.{used_of, columns_of, coefficients_of, scatter}

module _ (m : ℕ) (words : List ℤ) (place : ℕ) where
  abbrev pub here : List ℤ
  here = drop place words

  abbrev pub used : ℕ
  used = used_of m here

  abbrev pub cs : List ℕ
  cs = columns_of m here

  abbrev pub xs : List ℤ
  xs = coefficients_of m here

  -- the row with its first j coefficients
  unfoldable pub part_row : ℕ → Row
  part_row j = record { constant = constant_at words place; coefficients = scatter (zeros m) (take j cs) (take j xs) }
