-- What a column of the target becomes where an image is put in: a column of the entailment's, or an expression over the columns now.
use Rattle.std.specs.Prelude.{◌≡◌, List, ℕ, ◌<◌, ℤ, pos, get_or, drop}
use Rattle.rows.specs.Rows.{Row, constant_row, substitute}
use Rattle.rows.specs.Columns.{column, columns as block}
use Rattle.words.specs.RowWords.{row_of}
use Rattle.words.specs.RowForm.{Expression}
use Rattle.images.specs.declared.used_columns.Becomes.{Becomes}
use Rattle.images.specs.declared.used_columns.Becomes.TheVariants as becomes

module _ (words : List ℤ) (k : ℕ) where
  unfoldable pub becomes_row : Becomes → Row
  becomes_row (becomes.Column c) = column c
  becomes_row (becomes.Expression at) = substitute (block k k) (row_of k (drop at words))

  -- it is there, among so many columns
  unfoldable pub BecomesForm : ℕ → Becomes → Type 0
  BecomesForm columns (becomes.Column c) = c < columns
  BecomesForm columns (becomes.Expression at) = Expression words at k

-- column c of an image, over so many columns
pub record Becoming (words : List ℤ) (k columns : ℕ) (image : List Row) (c : ℕ) (b : Becomes) : Type 0 where
  pub is : get_or image c (constant_row (pos 0)) ≡ becomes_row words k b
  pub form : BecomesForm words k columns b
