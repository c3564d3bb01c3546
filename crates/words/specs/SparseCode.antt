-- The words of a sparse row, for whoever writes one: reading them gives the row back, and they pass both tests. Words that pass both are the row's
-- own, so a row has one sparse spelling: the columns and coefficients that are read are those that aren't 0 in the row.
use Rattle.std.specs.Prelude.{◌≡◌, ℕ, ◌+◌, ◌≤◌, ℤ, pos}
use mathlib.Core.List.{List, ◌∷◌, ◌++◌, map}
use Rattle.std.proofs.Math.ListN.{length}
use Rattle.rows.specs.Rows.{Row}
use Rattle.words.specs.RowCode.{constant_code}
use Rattle.words.specs.SparseRows.{used_of, sparse_size}
use Rattle.words.specs.SparseForm.{SparseRowForm}
use Rattle.words.specs.UsedColumns.{used_columns, used_coefficients}

-- the row as words: "its constant, a count, .. and two parallel arrays"
unfoldable pub sparse_code : Row → List ℤ
sparse_code r = constant_code r.constant
    ++ (pos (length (used_coefficients r.coefficients)) ∷ (map pos (used_columns 0 r.coefficients) ++ used_coefficients r.coefficients))

-- ---- reading what was written

module _ (columns : ℕ) (r : Row) (wide : length r.coefficients ≡ columns) (rest : List ℤ) where
  abbrev pub used : List ℤ
  used = used_coefficients r.coefficients

  abbrev pub in_columns : List ℤ
  in_columns = map pos (used_columns 0 r.coefficients)

  abbrev pub words : List ℤ
  words = sparse_code r ++ rest

-- ---- whoever reads words that pass both tests has the row's own words

module _ (columns : ℕ) (words : List ℤ) (form : SparseRowForm columns words) (long : sparse_size (used_of columns words) ≤ length words) where
  abbrev pub count : ℕ
  count = used_of columns words
