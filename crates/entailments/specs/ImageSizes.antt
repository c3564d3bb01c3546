-- The sizes of an image: it has a row for each of the target's columns, and each row is one of the entailment's columns, or an expression that
-- stands in the words. So no row is wider than the entailment, and no entry is larger than an expression's may be.
use Rattle.std.specs.Prelude.{List, ℕ, ◌+◌, ◌*◌, ◌≤◌, ℤ, length, drop}
use Rattle.rows.specs.Rows.{Row, substitute}
use Rattle.rows.specs.Columns.{columns as block}
use Rattle.words.specs.Limits.{most_globals, most_locals, constant_limit}
use Rattle.words.specs.RowWords.{row_of}
use Rattle.row_buffers.specs.EntryLimits.{weight_limit, SmallRows}
use Rattle.entailments.specs.declared.Shape.{Shape}

-- an entry of an image's row: an expression's, as it stands in the words
abbrev pub expression_limit : ℕ
expression_limit = constant_limit

-- the columns of a path, which no target has more of
abbrev pub most_image : ℕ
most_image = most_globals + most_locals + (most_globals + most_locals)

-- an image whose rows are few and small
pub record SmallImage (image : List Row) : Type 0 where
  pub few : length image ≤ most_image
  pub small : SmallRows expression_limit image

module _ (words : List ℤ) (s : Shape) where
  -- the expression at a place, over the columns now
  abbrev pub expression_at : ℕ → Row
  expression_at at = substitute (block s.k s.k) (row_of s.k (drop at words))

-- ---- a summary's, finely: of its columns the parameters alone become expressions

-- the globals, the parameters, and the globals again
abbrev pub called_limit : ℕ
called_limit = most_globals * (weight_limit * 1) + (most_locals * (weight_limit * expression_limit) + most_globals * (weight_limit * 1))
