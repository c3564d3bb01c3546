-- Sparse rows where they stand in the words, by a table of their places: what is asked of them, and the rows that they are. Each is narrow and small,
-- because it has its form.
use Rattle.std.specs.Prelude.{ℤ, length, get_or, take, drop}
use mathlib.Core.List.{List, map}
use Prim.Native.Nat.{ℕ, ◌+◌, ◌≤◌, ◌<◌}
use Rattle.rows.specs.Rows.{Row}
use Rattle.words.specs.Limits.{most_rows}
use Rattle.words.specs.SparseRows.{used_of, sparse_size, sparse_row_of}
use Rattle.words.specs.SparseForm.{SparseRowForm, StrictRow}

-- a sparse row of m columns stands at a place, as tests 5 and 25 ask
pub record SparseHere (m : ℕ) (words : List ℤ) (place : ℕ) : Type 0 where
  pub inside : place + sparse_size (used_of m (drop place words)) ≤ length words
  pub formed : SparseRowForm m (drop place words)
  pub strict : StrictRow m (drop place words)

-- one stands at each of the first n places of a table, no more than a disjunct has
pub record PlacedHere (m : ℕ) (words : List ℤ) (n : ℕ) (places : List ℕ) : Type 0 where
  pub few : n ≤ most_rows
  pub many : n ≤ length places
  pub each : (j : ℕ) → j < n → SparseHere m words (get_or places j 0)

-- the rows there
unfoldable pub placed_rows : ℕ → List ℤ → ℕ → List ℕ → List Row
placed_rows m words n places = map (λ place. sparse_row_of m (drop place words)) (take n places)

module _ (m : ℕ) (words : List ℤ) where
  abbrev pub row_at : ℕ → Row
  row_at place = sparse_row_of m (drop place words)
