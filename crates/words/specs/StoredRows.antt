-- Rows of either stored form, document 02, CR 9: "a stored form of the certificate in which each row of an entry .. is its constant, a count, .. and two
-- parallel arrays". Dense ones are what they were, by computation. How rows follow each other is the same in both: one row, and the others where it
-- ends; so its laws are for both at once.
use Rattle.std.specs.Prelude.{Bool, true, List, ℤ, drop}
use Prim.Native.Nat.{ℕ, ◌+◌, ◌*◌, ◌<◌}
use Rattle.rows.specs.Rows.{Row}
use Rattle.words.specs.declared.StoredForm.{StoredForm}
use Rattle.words.specs.declared.StoredForm.TheVariants.{Dense, Sparse}
use Rattle.words.specs.RowWords.{row_size, row_of, rows_of, rows_pass}
use Rattle.words.specs.RowForm.{RowForm, RowsForm}
use Rattle.words.specs.SparseRows.{used_of, sparse_size, sparse_row_of, sparse_rows_of, sparse_words, sparse_rows_pass, sparse_rows_strict}
use Rattle.words.specs.SparseForm.{SparseRowForm, SparseRowsForm, StrictRow, StrictRows}

-- ---- one row, at the head of the words

-- document 01's row, or "its constant, a count, .. and two parallel arrays"
abbrev pub row_in : StoredForm → ℕ → List ℤ → Row
row_in Dense columns words = row_of columns words
row_in Sparse columns words = sparse_row_of columns words

-- how many words it takes
abbrev pub row_takes : StoredForm → ℕ → List ℤ → ℕ
row_takes Dense columns words = row_size columns
row_takes Sparse columns words = sparse_size (used_of columns words)

-- what 5 asks of the row at a place
abbrev pub RowFormIn : StoredForm → List ℤ → ℕ → ℕ → Type 0
RowFormIn Dense words at columns = RowForm words at columns
RowFormIn Sparse words at columns = SparseRowForm columns (drop at words)

-- and what 25 does: nothing of a dense row
abbrev pub StrictRowIn : StoredForm → List ℤ → ℕ → ℕ → Type 0
StrictRowIn Dense words at columns = Unit
StrictRowIn Sparse words at columns = StrictRow columns (drop at words)

-- ---- so many rows, one after the other

-- the rows that they are
abbrev pub rows_in : StoredForm → ℕ → ℕ → List ℤ → List Row
rows_in Dense columns n words = rows_of columns n words
rows_in Sparse columns n words = sparse_rows_of columns n words

-- how many words they take
abbrev pub rows_take : StoredForm → ℕ → ℕ → List ℤ → ℕ
rows_take Dense columns n words = n * row_size columns
rows_take Sparse columns n words = sparse_words columns n words

-- their test for 5, from a place on: of sparse ones "a count or column out of range" too
abbrev pub rows_pass_in : StoredForm → List ℤ → ℕ → ℕ → ℕ → Bool
rows_pass_in Dense words at columns n = rows_pass words at columns n
rows_pass_in Sparse words at columns n = sparse_rows_pass columns n (drop at words)

-- what it says
abbrev pub RowsFormIn : StoredForm → List ℤ → ℕ → ℕ → ℕ → Type 0
RowsFormIn Dense words at columns n = RowsForm words at columns n
RowsFormIn Sparse words at columns n = SparseRowsForm columns n (drop at words)

-- their test for 25, of sparse ones alone: "a falling or repeated column, a zero coefficient"
abbrev pub rows_strict_in : StoredForm → List ℤ → ℕ → ℕ → ℕ → Bool
rows_strict_in Dense words at columns n = true
rows_strict_in Sparse words at columns n = sparse_rows_strict columns n (drop at words)

-- what it says
abbrev pub StrictRowsIn : StoredForm → List ℤ → ℕ → ℕ → ℕ → Type 0
StrictRowsIn Dense words at columns n = Unit
StrictRowsIn Sparse words at columns n = StrictRows columns n (drop at words)

-- ---- what holds of each of so many rows, by the place where it stands

module _ (form : StoredForm) (columns : ℕ) (words : List ℤ) (P : ℕ → Type 0) where
  unfoldable pub EachRow : ℕ → ℕ → Type 0
  EachRow at n = (i : ℕ) → i < n → P (at + rows_take form columns i (drop at words))

  -- where the second stands
  abbrev pub second : ℕ → ℕ
  second at = at + row_takes form columns (drop at words)
