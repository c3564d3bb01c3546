-- Sparse rows as words, document 02, CR 9: a row is "its constant, a count, 0 to all its columns, and two parallel arrays: rising columns and their
-- non-zero coefficients". Each definition is about the row, or the rows, at the head of the words.
use Rattle.std.specs.Prelude.{ℕ, zero, suc, ◌+◌, Bool, true, not, ◌&&◌, List, [], ◌∷◌, map, leb, ℤ, pos, take, drop, set}
use Rattle.basics.specs.Integers.{eq_z}
use Rattle.rows.specs.Rows.{Row}
use Rattle.rows.specs.Columns.{zeros}
use Rattle.words.specs.Limits.{coefficient_limit}
use Rattle.words.specs.Words.{word, within, below, number, all_small}
use Rattle.words.specs.RowWords.{constant_words, constant_at, constant_passes}

-- ---- what the words say

-- "a count, 0 to all its columns": how many columns have a coefficient
unfoldable pub used_of : ℕ → List ℤ → ℕ
used_of columns words = number columns (word words constant_words)

-- where the "two parallel arrays" begin, behind constant and count
abbrev pub arrays_from : ℕ
arrays_from = constant_words + 1

-- how many words a row takes, with so many coefficients
abbrev pub sparse_size : ℕ → ℕ
sparse_size used = arrays_from + (used + used)

-- the first array, as it stands
unfoldable pub column_words : ℕ → List ℤ → List ℤ
column_words columns words = take (used_of columns words) (drop arrays_from words)

-- and as columns, counted from 0
unfoldable pub columns_of : ℕ → List ℤ → List ℕ
columns_of columns words = map (number columns) (column_words columns words)

-- the second array: "their non-zero coefficients"
unfoldable pub coefficients_of : ℕ → List ℤ → List ℤ
coefficients_of columns words = take (used_of columns words) (drop (arrays_from + used_of columns words) words)

-- coefficients put into a row, each in its column
unfoldable pub scatter : List ℤ → List ℕ → List ℤ → List ℤ
scatter row [] xs = row
scatter row (c ∷ cs) [] = row
scatter row (c ∷ cs) (x ∷ xs) = scatter (set row c x) cs xs

-- the row: "Most coefficients are 0", and the others are as the arrays say
unfoldable pub sparse_row_of : ℕ → List ℤ → Row
sparse_row_of columns words =
    record { constant = constant_at words 0; coefficients = scatter (zeros columns) (columns_of columns words) (coefficients_of columns words) }

-- so many rows, one after the other
unfoldable pub sparse_rows_of : ℕ → ℕ → List ℤ → List Row
sparse_rows_of columns zero words = []
sparse_rows_of columns (suc n) words = sparse_row_of columns words ∷ sparse_rows_of columns n (drop (sparse_size (used_of columns words)) words)

-- how many words they take
unfoldable pub sparse_words : ℕ → ℕ → List ℤ → ℕ
sparse_words columns zero words = 0
sparse_words columns (suc n) words = sparse_size (used_of columns words) + sparse_words columns n (drop (sparse_size (used_of columns words)) words)

-- ---- tests

-- each is one of 0..high-1
unfoldable pub all_below : ℕ → List ℤ → Bool
all_below high [] = true
all_below high (x ∷ xs) = below high x && all_below high xs

-- no "count or column out of range"; constant and coefficients as in a dense row
unfoldable pub sparse_passes : ℕ → List ℤ → Bool
sparse_passes columns words = constant_passes words 0
    && (within 0 columns (word words constant_words)
    && (all_below columns (column_words columns words) && all_small words coefficient_limit (arrays_from + used_of columns words) (used_of columns words)))

-- each is larger than the one before it, and the first is at least `least`
unfoldable pub rises_from : ℕ → List ℕ → Bool
rises_from least [] = true
rises_from least (c ∷ cs) = leb least c && rises_from (suc c) cs

-- none is 0
unfoldable pub none_zero : List ℤ → Bool
none_zero [] = true
none_zero (x ∷ xs) = not (eq_z x (pos 0)) && none_zero xs

-- no "falling or repeated column", no "zero coefficient"
unfoldable pub sparse_strict : ℕ → List ℤ → Bool
sparse_strict columns words = rises_from 0 (columns_of columns words) && none_zero (coefficients_of columns words)

-- a test of each of so many rows, one after the other
unfoldable pub each_sparse : (List ℤ → Bool) → ℕ → ℕ → List ℤ → Bool
each_sparse test columns zero words = true
each_sparse test columns (suc n) words = test words && each_sparse test columns n (drop (sparse_size (used_of columns words)) words)

-- no row with a "count or column out of range", constant or coefficient out of theirs
unfoldable pub sparse_rows_pass : ℕ → ℕ → List ℤ → Bool
sparse_rows_pass columns n words = each_sparse (sparse_passes columns) columns n words

-- no row with "a falling or repeated column, a zero coefficient"
unfoldable pub sparse_rows_strict : ℕ → ℕ → List ℤ → Bool
sparse_rows_strict columns n words = each_sparse (sparse_strict columns) columns n words
