-- A row as it stands in a buffer: its first entries, one after the other. Read again it is alike, if no coefficient is left out.
use Rattle.std.specs.Prelude.{List, [], ◌∷◌, ◌++◌, ℕ, zero, suc, ◌≤◌, ℤ, length, drop}
use Rattle.rows.specs.Rows.{Row}
use Rattle.row_buffers.specs.HeldRows.{stride}
use Rattle.row_buffers.specs.Entries.{entry}

unfoldable pub spread : ℕ → Row → List ℤ
spread zero r = []
spread (suc n) r = spread n r ++ (entry n r ∷ [])

-- a buffer with a row written over its front
abbrev pub written : ℕ → Row → List ℤ → List ℤ
written columns r t = spread (stride columns) r ++ drop (stride columns) t

-- no coefficient stands beyond the columns
abbrev pub NarrowRow : ℕ → Row → Type 0
NarrowRow columns r = length r.coefficients ≤ columns
