-- Rows as words: "An expression is constant, then k coefficients", and so is a row of a disjunct. A constant takes two words, high and low.
use Rattle.std.specs.Prelude.{ℕ, zero, suc, ◌+◌, ◌*◌, Bool, true, ◌&&◌, List, [], ◌∷◌, ℤ, pos, ◌+ℤ◌, ◌*ℤ◌, take, drop}
use Rattle.rows.specs.Rows.{Row}
use Rattle.words.specs.Limits.{constant_limit, constant_unit, most_low, coefficient_limit}
use Rattle.words.specs.Words.{word, within, small, all_small}

-- ---- constants

-- document 02, CR 8: they "take two words"
abbrev pub constant_words : ℕ
constant_words = 2

-- the constant that two words spell: "high × 1,000,000 + low"
unfoldable pub constant_of : ℤ → ℤ → ℤ
constant_of high low = pos constant_unit *ℤ high +ℤ low

-- they spell one that is within its limit: "low 0..999,999" and "within ±4,000,000,000"
unfoldable pub is_constant : ℤ → ℤ → Bool
is_constant high low = within 0 most_low low && small constant_limit (constant_of high low)

-- the constant that stands at a place
unfoldable pub constant_at : List ℤ → ℕ → ℤ
constant_at words at = constant_of (word words at) (word words (at + 1))

unfoldable pub constant_passes : List ℤ → ℕ → Bool
constant_passes words at = is_constant (word words at) (word words (at + 1))

-- ---- rows

-- how many words a row takes
abbrev pub row_size : ℕ → ℕ
row_size columns = constant_words + columns

-- the row at the head of the words
unfoldable pub row_of : ℕ → List ℤ → Row
row_of columns words = record { constant = constant_at words 0; coefficients = take columns (drop constant_words words) }

-- so many rows, one after the other, where each takes so many numbers and is read from where it begins
unfoldable pub rows_by : ℕ → (List ℤ → Row) → ℕ → List ℤ → List Row
rows_by size read zero numbers = []
rows_by size read (suc n) numbers = read numbers ∷ rows_by size read n (drop size numbers)

-- so many rows of words
unfoldable pub rows_of : ℕ → ℕ → List ℤ → List Row
rows_of columns n words = rows_by (row_size columns) (row_of columns) n words

-- the row at a place has its constant and its coefficients within their limits
unfoldable pub row_passes : List ℤ → ℕ → ℕ → Bool
row_passes words at columns = constant_passes words at && all_small words coefficient_limit (at + constant_words) columns

unfoldable pub rows_pass : List ℤ → ℕ → ℕ → ℕ → Bool
rows_pass words at columns zero = true
rows_pass words at columns (suc i) = rows_pass words at columns i && row_passes words (at + i * row_size columns) columns
