-- Rows in a buffer of 64-bit numbers: the constant, then the coefficients, one number each, and rows one after the other. Words have a layout
-- of their own (`words/RowWords`): what stands here is the buffers'.
use Rattle.std.specs.Prelude.{◌≡◌, List, ℕ, ◌*◌, ◌<◌, ℤ, length, get_or, drop}
use Rattle.rows.specs.Rows.{Row}
use Rattle.words.proofs.RowLaws.{length_by, at_by}
use Rattle.row_buffers.specs.AllRows.{AllRows}
use Rattle.row_buffers.proofs.AllRows.{all_by}
use Rattle.row_buffers.specs.HeldRows.{held_row, held_rows, stride}

module _ (columns : ℕ) where
  pub length_held : (n : ℕ) (l : List ℤ) → length (held_rows columns n l) ≡ n
  unfolding held_rows
  length_held = length_by (stride columns) (held_row columns)

  pub held_at : (n j : ℕ) (l : List ℤ) (d : Row) → j < n → get_or (held_rows columns n l) j d ≡ held_row columns (drop (j * stride columns) l)
  unfolding held_rows
  held_at = at_by (stride columns) (held_row columns)

pub all_held : {P : Row → Type 0} (columns n : ℕ) (l : List ℤ) → ((j : ℕ) → j < n → P (held_row columns (drop (j * stride columns) l))) → AllRows P (held_rows columns n l)
unfolding held_rows
all_held columns = all_by (stride columns) (held_row columns)
