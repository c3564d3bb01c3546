-- Rows of either stored form, one after the other, as they are written: read again they are the rows, they take the words that were written, and
-- pass their tests. Rows that pass theirs are within their limits and stand in the words that are written for them. Each is shown of one row by its
-- form, and of more rows for both forms at once.
use Rattle.std.specs.Prelude.{ℤ, length}
use mathlib.Core.List.{List, [], ◌∷◌, ◌++◌}
use Prim.Native.Nat.{ℕ, suc, ◌+◌, ◌≤◌}
use Rattle.std.proofs.Math.ListN.{drop}
use Rattle.rows.specs.Rows.{Row}
use Rattle.words.specs.RowCode.{row_code}
use Rattle.words.specs.SparseCode.{sparse_code}
use Rattle.words.specs.declared.StoredForm.{StoredForm}
use Rattle.words.specs.declared.StoredForm.TheVariants.{Dense, Sparse}
use Rattle.words.specs.StoredRows.{row_takes, rows_take}

-- the words of a row
abbrev pub code_in : StoredForm → Row → List ℤ
code_in Dense r = row_code r
code_in Sparse r = sparse_code r

-- so many rows as words
unfoldable pub rows_code : StoredForm → List Row → List ℤ
rows_code form [] = []
rows_code form (r ∷ rs) = code_in form r ++ rows_code form rs

-- ---- so many rows, one after the other

module _ (form : StoredForm) (columns : ℕ) where
  module _ (words : List ℤ) where
    -- ---- rows that pass

    -- a row fewer
    module _ (at n : ℕ) (long : at + rows_take form columns (suc n) (drop at words) ≤ length words) where
      abbrev pub size : ℕ
      size = row_takes form columns (drop at words)
