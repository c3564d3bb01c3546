-- Sparse rows, as document 02 has them, by computation: what words say, which rows 5 refuses and which 25 does; each row has two columns. And dense
-- rows are what they were.
use Rattle.std.specs.Prelude.{◌≡◌, refl, ℕ, ◌*◌, true, false, List, [], ◌∷◌, ℤ, pos}
use Rattle.words.specs.Literals.{◌·◌, −◌}
use Rattle.words.specs.RowWords.{row_size, rows_of, rows_pass}
use Rattle.words.specs.declared.StoredForm.TheVariants.{Dense, Sparse}
use Rattle.words.specs.SparseRows.{sparse_row_of, sparse_passes, sparse_strict}
use Rattle.words.specs.StoredRows.{rows_in, rows_take, rows_pass_in, rows_strict_in}
use Rattle.words.specs.CodedRows.{rows_code}
use Rattle.words.specs.Opened.{words_open}
use Rattle.words.specs.PinnedRows.{plan_a, plan_aWords, two_rows, two_rows_words}

pub plan_a_lem : (sparse_row_of 2 plan_aWords ≡ plan_a) × (sparse_passes 2 plan_aWords ≡ true) × (sparse_strict 2 plan_aWords ≡ true)
unfolding words_open
plan_a_lem = (refl, refl, refl)

pub two_read : (rows_in Sparse 2 2 two_rows_words ≡ two_rows) × (rows_take Sparse 2 2 two_rows_words ≡ 12) × (rows_pass_in Sparse two_rows_words 0 2 2 ≡ true) × (rows_strict_in Sparse two_rows_words 0 2 2 ≡ true)
unfolding words_open
two_read = (refl, refl, refl, refl)

pub two_written : (rows_code Sparse two_rows ≡ two_rows_words) × (rows_code Dense two_rows ≡ − 1 ∷ 999460 · 0 · 1 · 0 · 7 · 3 · − 1000 ∷ [])
unfolding words_open
two_written = (refl, refl)

-- "a count, 0 to all its columns": 0 and 2, and neither 3 nor −1
pub counts : (sparse_passes 2 (0 · 5 · 0 · []) ≡ true) × (sparse_passes 2 (0 · 5 · 2 · 0 · 1 · 1 · 1 · []) ≡ true)
    × (sparse_passes 2 (0 · 5 · 3 · 0 · 1 · 1 · 1 · 1 · 1 · []) ≡ false) × (sparse_passes 2 (0 · 5 · − 1 ∷ []) ≡ false)
unfolding words_open
counts = (refl, refl, refl, refl)

pub count_none : sparse_row_of 2 (0 · 5 · 0 · []) ≡ record { constant = pos 5; coefficients = 0 · 0 · [] }
unfolding words_open
count_none = refl

-- "column out of range": 1 is the last of two, 2 and −1 are none, as first and as second column
pub columns_range : (sparse_passes 2 (0 · 5 · 1 · 1 · 1 · []) ≡ true) × (sparse_passes 2 (0 · 5 · 1 · 2 · 1 · []) ≡ false)
    × (sparse_passes 2 (0 · 5 · 1 · − 1 ∷ 1 · []) ≡ false) × (sparse_passes 2 (0 · 5 · 2 · 0 · 2 · 1 · 1 · []) ≡ false)
unfolding words_open
columns_range = (refl, refl, refl, refl)

-- coefficients −1,000..1,000
pub coefficients_range : (sparse_passes 2 (0 · 5 · 1 · 1 · 1000 · []) ≡ true) × (sparse_passes 2 (0 · 5 · 1 · 1 · − 1000 ∷ []) ≡ true)
    × (sparse_passes 2 (0 · 5 · 1 · 1 · 1001 · []) ≡ false) × (sparse_passes 2 (0 · 5 · 1 · 1 · − 1001 ∷ []) ≡ false)
unfolding words_open
coefficients_range = (refl, refl, refl, refl)

-- "a falling or repeated column, a zero coefficient": 5 lets them pass, and 25 does not
pub twenty_five_lem : (sparse_passes 2 (0 · 5 · 2 · 1 · 0 · 1 · 1 · []) ≡ true) × (sparse_strict 2 (0 · 5 · 2 · 1 · 0 · 1 · 1 · []) ≡ false)
    × (sparse_passes 2 (0 · 5 · 2 · 1 · 1 · 1 · 1 · []) ≡ true) × (sparse_strict 2 (0 · 5 · 2 · 1 · 1 · 1 · 1 · []) ≡ false)
    × (sparse_passes 2 (0 · 5 · 2 · 0 · 1 · 7 · 0 · []) ≡ true) × (sparse_strict 2 (0 · 5 · 2 · 0 · 1 · 7 · 0 · []) ≡ false)
unfolding words_open
twenty_five_lem = (refl, refl, refl, refl, refl, refl)

-- by the form, dense rows are as without it
pub dense_kept : (words : List ℤ) (at columns n : ℕ)
    → (rows_in Dense columns n words ≡ rows_of columns n words) × (rows_take Dense columns n words ≡ n * row_size columns) × (rows_pass_in Dense words at columns n ≡ rows_pass words at columns n) × (rows_strict_in Dense words at columns n ≡ true)
dense_kept words at columns n = (refl, refl, refl, refl)
