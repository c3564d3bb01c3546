-- Sizes of the entries of rows, and how many rows and columns a buffer holds. Within these limits no sum leaves 64 bits: a weighted row adds at
-- most its weight times its largest entry, and all rows of a buffer together stay below 2^63.
use Rattle.std.specs.Prelude.{List, ℤ, nat_abs}
use Prim.Native.Nat.{ℕ, ◌+◌, ◌*◌, ◌-◌, ◌≤◌}
use Rattle.rows.specs.Rows.{Row, combine}
use Rattle.words.specs.Limits.{constant_limit, most_rows, most_splits}
use Rattle.numbers.specs.Small.{Small}
use Rattle.row_buffers.specs.AllRows.{AllRows}
use Rattle.row_buffers.specs.HeldRows.{stride}
use Rattle.row_buffers.specs.Entries.{entry}

-- ---- limits

abbrev pub most_buffer_columns : ℕ
most_buffer_columns = 64

-- the rows of two disjuncts, and those of the splits on a way to a leaf
abbrev pub most_buffer_rows : ℕ
most_buffer_rows = most_rows + most_rows + most_splits

-- a multiplier, or a coefficient of a row of words
abbrev pub weight_limit : ℕ
weight_limit = 1000

-- an entry of a row that is weighted; the largest is that of a summary's row with its image put in
abbrev pub entry_limit : ℕ
entry_limit = 33000000000000

-- an entry of a sum that one row more is added to: all the others of a buffer, weighted
abbrev pub sum_limit : ℕ
sum_limit = (most_buffer_rows - 1) * (weight_limit * entry_limit)

-- an entry of a sum of as many rows as a disjunct has
abbrev pub disjunct_limit : ℕ
disjunct_limit = most_rows * (weight_limit * entry_limit)

-- an entry of a row of words that an image is put into
abbrev pub target_limit : ℕ
target_limit = 1000000000000000

-- n rows stand within so many places, no more and no longer than the limits of sums allow
pub record Capacity (columns n places : ℕ) : Type 0 where
  pub narrow : columns ≤ most_buffer_columns
  pub few : n ≤ most_buffer_rows
  pub inside : n * stride columns ≤ places

-- ---- no entry of the row is larger than b

pub record SmallRow (b : ℕ) (r : Row) : Type 0 where
  pub bound : (i : ℕ) → nat_abs (entry i r) ≤ b

abbrev pub SmallRows : ℕ → List Row → Type 0
SmallRows b rs = AllRows (SmallRow b) rs

-- ---- sums of rows that are weighted by words

-- no such sum has a larger entry than b
pub record SmallSums (b : ℕ) (rs : List Row) : Type 0 where
  pub sums : (ws : List ℤ) → Small weight_limit ws → SmallRow b (combine ws rs)

-- ---- rows within the limits of words

pub record LimitedRow (r : Row) : Type 0 where
  pub constant : nat_abs r.constant ≤ constant_limit
  pub coefficients : Small weight_limit r.coefficients
