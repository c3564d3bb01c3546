-- So many rows are read, whatever the numbers: every look-up is total. They stand one after the other, so one more is read behind them. This
-- holds whatever a row takes and whatever reads it; rows of words are a case.
use Rattle.std.specs.Prelude.{◌≡◌, ℤ, pos, length, get_or, drop}
use Rattle.std.proofs.Math.Path.{refl, ap}
use Rattle.std.proofs.Common.{ap₂, ◌∙◌, add-zero, suc-mul, suc-add, arith, get_or-drop, drop-drop}
use mathlib.Core.List.{List, [], ◌∷◌, ◌++◌}
use Prim.Native.Nat.{ℕ, zero, suc, ◌+◌, ◌*◌, ◌<◌}
use Rattle.rows.specs.Rows.{Row}
use Rattle.words.specs.Words.{word}
use Rattle.words.specs.RowWords.{constant_of, constant_at, row_size, row_of, rows_by, rows_of}

-- ---- rows of so many numbers

module _ (size : ℕ) where
  -- where row j of them stands
  pub drop_rows : (j : ℕ) (l : List ℤ) → drop (j * size) (drop size l) ≡ drop (suc j * size) l
  drop_rows j l = let e : size + j * size ≡ suc j * size = omega (arith, suc-mul j size) in rw e at (drop-drop (j * size) size l)

  pub no_rows : (l : List ℤ) → drop (0 * size) l ≡ l
  no_rows l = let e : 0 * size ≡ 0 = omega arith in rw e

  module _ (read : List ℤ → Row) where
    pub length_by : (n : ℕ) (l : List ℤ) → length (rows_by size read n l) ≡ n
    unfolding rows_by
    length_by zero l = refl
    length_by (suc n) l = ap suc (length_by n (drop size l))

    pub more_by : (n : ℕ) (l : List ℤ) → rows_by size read (n + 1) l ≡ rows_by size read n l ++ read (drop (n * size) l) ∷ []
    unfolding rows_by
    more_by zero l = rw no_rows
    more_by (suc n) l = rw (suc-add n 1) (ap (λ (rows : List Row). read l ∷ rows) (rw drop_rows at (more_by n (drop size l))))

    -- row j of those that stand one after the other
    pub at_by : (n j : ℕ) (l : List ℤ) (d : Row) → j < n → get_or (rows_by size read n l) j d ≡ read (drop (j * size) l)
    unfolding rows_by
    at_by zero j l d h = absurd (omega arith)
    at_by (suc n) zero l d h = rw no_rows
    at_by (suc n) (suc j) l d h = rw (at_by n j (drop size l) d (omega arith), drop_rows)

-- ---- rows of words

-- the constant of the row at a place is the one that stands there
pub constant_dropped : (at : ℕ) (words : List ℤ) → constant_at (drop at words) 0 ≡ constant_at words at
unfolding constant_at
constant_dropped at words = ap₂ constant_of (get_or-drop at words 0 (pos 0) ∙ ap (word words) (add-zero at)) (get_or-drop at words 1 (pos 0))

module _ (columns : ℕ) where
  pub length_rows : (n : ℕ) (words : List ℤ) → length (rows_of columns n words) ≡ n
  unfolding rows_of
  length_rows = length_by (row_size columns) (row_of columns)

  pub rows_more : (n : ℕ) (words : List ℤ) → rows_of columns (n + 1) words ≡ rows_of columns n words ++ row_of columns (drop (n * row_size columns) words) ∷ []
  unfolding rows_of
  rows_more = more_by (row_size columns) (row_of columns)

  pub row_at : (n j : ℕ) (words : List ℤ) (d : Row) → j < n → get_or (rows_of columns n words) j d ≡ row_of columns (drop (j * row_size columns) words)
  unfolding rows_of
  row_at = at_by (row_size columns) (row_of columns)
