-- Rows in a buffer of 64-bit numbers: the constant, then the coefficients, one number each, and rows one after the other. Words have a layout
-- of their own (`words/RowWords`): what stands here is the buffers'.
use Rattle.std.specs.Prelude.{List, ℕ, ◌+◌, ℤ, pos, get_or, take, drop}
use Rattle.rows.specs.Rows.{Row}
use Rattle.words.specs.RowWords.{rows_by}

-- how many numbers a row takes
abbrev pub stride : ℕ → ℕ
stride columns = 1 + columns

-- the row at the head of a buffer
unfoldable pub held_row : ℕ → List ℤ → Row
held_row columns l = record { constant = get_or l 0 (pos 0); coefficients = take columns (drop 1 l) }

-- so many rows, one after the other
unfoldable pub held_rows : ℕ → ℕ → List ℤ → List Row
held_rows columns n l = rows_by (stride columns) (held_row columns) n l
