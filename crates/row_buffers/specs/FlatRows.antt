-- Rows in a buffer, one after the other, each spread over as many places as a row takes. Read again they are alike, if none is wider.
use Rattle.std.specs.Prelude.{◌≡◌, List, [], ◌∷◌, ◌++◌, ℕ, ◌*◌, ℤ, length, take, drop}
use Rattle.rows.specs.Rows.{Row}
use Rattle.row_buffers.specs.AllRows.{AllRows}
use Rattle.row_buffers.specs.HeldRows.{stride}
use Rattle.row_buffers.specs.Spread.{spread, NarrowRow}

unfoldable pub flat_rows : ℕ → List Row → List ℤ
flat_rows columns [] = []
flat_rows columns (r ∷ rs) = spread (stride columns) r ++ flat_rows columns rs

-- a row put behind the first n
unfoldable pub pushed : ℕ → ℕ → Row → List ℤ → List ℤ
pushed columns n r l = take (n * stride columns) l ++ (spread (stride columns) r ++ drop (stride columns) (drop (n * stride columns) l))

-- no row has more coefficients than there are columns
abbrev pub Narrow : ℕ → List Row → Type 0
Narrow columns rs = AllRows (NarrowRow columns) rs

-- ---- the first n rows of a buffer are these rows

pub record Buffered (columns : ℕ) (rs : List Row) (n : ℕ) (buffer : List ℤ) : Type 0 where
  pub narrow : Narrow columns rs
  pub count : n ≡ length rs
  pub rest : List ℤ
  pub is : buffer ≡ flat_rows columns rs ++ rest
