-- What a buffer's row is when rows were added to it, each times a word, and when it began as a constant.
use Rattle.std.specs.Prelude.{◌≡◌, List, ℕ, ◌+◌, ◌*◌, ◌≤◌, ◌<◌, ℤ, pos, nat_abs, ◌+ℤ◌, length, get_or, drop}
use Rattle.rows.specs.Rows.{Row, constant_row, add, combine}
use Rattle.words.specs.Limits.{constant_limit}
use Rattle.words.specs.Words.{word}
use Rattle.words.specs.RowWords.{constant_words, constant_at}
use Rattle.row_buffers.specs.HeldRows.{stride, held_row}
use Rattle.row_buffers.specs.Entries.{entry}
use Rattle.row_buffers.specs.EntryLimits.{most_buffer_columns, weight_limit, SmallRow, SmallSums}
use Rattle.row_buffers.specs.Spread.{written}
use Rattle.entailments.specs.ImageSizes.{expression_limit, most_image}

-- what a row of an image adds to an entry at most
abbrev pub grain : ℕ
grain = weight_limit * expression_limit

-- an entry of a sum that further blocks are added to: the constant, and a row for each column
abbrev pub middle_limit : ℕ
middle_limit = constant_limit + most_image * grain

-- the n words from a place on can be weights
pub record Weights (words : List ℤ) (at n : ℕ) : Type 0 where
  pub inside : at + n ≤ length words
  pub light : (i : ℕ) → i < n → nat_abs (word words (at + i)) ≤ weight_limit

-- a buffer whose row can be added to; no entry is larger than b
pub record Ready (columns b : ℕ) (t : List ℤ) : Type 0 where
  pub narrow : columns ≤ most_buffer_columns
  pub long : columns < length t
  pub small : SmallRow b (held_row columns t)

-- t became u: the n rows were added to its row, times the words from a place on
pub record Summed (words : List ℤ) (columns at n : ℕ) (rs : List Row) (t u : List ℤ) : Type 0 where
  pub count : length rs ≡ n
  pub same : length u ≡ length t
  pub entries : (i : ℕ) → i ≤ columns → get_or u i (pos 0) ≡ get_or t i (pos 0) +ℤ entry i (combine (drop at words) rs)
  pub rest : drop (stride columns) u ≡ drop (stride columns) t
  pub small : SmallSums (n * grain) rs

-- the row of m columns at a place, and a buffer for it with an image put in
pub record RowHere (words : List ℤ) (place m columns : ℕ) (t : List ℤ) : Type 0 where
  pub constant : nat_abs (constant_at words place) ≤ constant_limit
  pub weights : Weights words (place + constant_words) m
  pub narrow : columns ≤ most_buffer_columns
  pub long : columns < length t

-- t became u: the constant at a place was written, and zeros; the coefficients stand behind it
pub record Begun (words : List ℤ) (place columns at : ℕ) (t u : List ℤ) : Type 0 where
  pub is : u ≡ written columns (constant_row (constant_at words place)) t
  pub behind : at ≡ place + constant_words
  pub ready : Ready columns constant_limit u

-- t with the row at a place written, an image put in for its columns: as many as the image has rows
abbrev pub replaced : List ℤ → ℕ → ℕ → List Row → List ℤ → List ℤ
replaced words place columns image t = written columns (add (constant_row (constant_at words place)) (combine (drop (place + constant_words) words) image)) t
