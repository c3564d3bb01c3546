-- Sparse rows that have passed tests 5 and 25 vary if and only if none has count 0: each coefficient that is there isn't 0.
use Rattle.std.specs.Prelude.{◌≡◌, Bool, true, false, cond, ◌&&◌, List, [], ◌∷◌, ◌++◌, ℤ, pos, drop}
use Rattle.std.proofs.Math.Path.{refl, ap, ap₂}
use Rattle.std.proofs.Common.{sym, ◌∙◌, take-append-drop}
use Rattle.std.proofs.Math.Bool.{not}
use Prim.Native.Nat.{ℕ, zero, suc, ◌+◌, ◌≤◌}
use native.Mathlib.Omega.{arith}
use Rattle.std.proofs.Math.Dec.{eqb, eqb-suc-zero}
use Rattle.std.proofs.Math.ListN.{length, length-drop}
use Rattle.std.proofs.Math.Seq.{drop-drop}
use Rattle.basics.specs.Integers.{eq_z}
use Rattle.rows.specs.Rows.{Row, all_zero}
use Rattle.words.specs.declared.StoredForm.TheVariants.{Sparse}
use Rattle.words.specs.SparseRows.{used_of, sparse_size, sparse_row_of, sparse_rows_of, sparse_words, each_sparse}
use Rattle.words.specs.SparseForm.{SparseRowForm, StrictRow}
use Rattle.words.specs.SparseCode.{sparse_code}
use Rattle.words.proofs.SparseCode.{used_coded, sparse_within, sparse_own}
use Rattle.words.specs.UsedColumns.{used_coefficients}
use Rattle.words.specs.StoredRows.{EachRow}
use Rattle.words.proofs.StoredRows.{each_first, each_later, form_each, strict_each}
use Rattle.sparse_rows.specs.Walks.{sparse_rows_filled}
use Rattle.certificates.specs.Certificate.{varies, rows_vary, edges_vary}
use Rattle.certificates.specs.CertificateWords.{row_count, disjunct_words, disjuncts_of}
use Rattle.certificates.specs.CertificateForm.{DisjunctsForm, DisjunctsStrict, more_strict, more}
use Rattle.certificates.proofs.Entries.{count_at, rest_at}
use Rattle.certificate_form.specs.DisjunctWalks.{disjuncts_filled}

zero_used : (l : List ℤ) → all_zero l ≡ eqb (length (used_coefficients l)) 0
unfolding all_zero used_coefficients
zero_used [] = refl
zero_used (x ∷ l) = go (eq_z x (pos 0)) (zero_used l)
  where
    go : (b : Bool) → all_zero l ≡ eqb (length (used_coefficients l)) 0 → (b && all_zero l) ≡ eqb (length (cond b (used_coefficients l) (x ∷ used_coefficients l))) 0
    go true h = h
    go false h = sym (eqb-suc-zero (length (used_coefficients l)))

-- a row
module _ (columns : ℕ) (words : List ℤ) (long : sparse_size (used_of columns words) ≤ length words) (f : SparseRowForm columns words) (s : StrictRow columns words) where
  abbrev row : Row
  row = sparse_row_of columns words

  used_is : used_of columns words ≡ length (used_coefficients row.coefficients)
  used_is =
      let size : ℕ = sparse_size (used_of columns words) in
      let e : words ≡ sparse_code row ++ drop size words = sym (take-append-drop size words) ∙ ap (λ (l : List ℤ). l ++ drop size words) (sparse_own columns words f long s) in
      ap (used_of columns) e ∙ used_coded columns row (sparse_within columns words f long).wide (drop size words)

  varies_used : varies row ≡ not (eqb (used_of columns words) 0)
  unfolding varies
  varies_used = ap not (zero_used row.coefficients ∙ ap (λ (n : ℕ). eqb n 0) (sym used_is))

-- ---- rows one after the other

module _ (columns : ℕ) (words : List ℤ) where
  filled_each : (n at : ℕ) → at + sparse_words columns n (drop at words) ≤ length words → EachRow Sparse columns words (λ at. SparseRowForm columns (drop at words)) at n
      → EachRow Sparse columns words (λ at. StrictRow columns (drop at words)) at n → sparse_rows_filled columns n (drop at words) ≡ rows_vary (sparse_rows_of columns n (drop at words))
  unfolding sparse_rows_filled each_sparse sparse_rows_of sparse_words rows_vary
  filled_each zero at long f s = refl
  filled_each (suc n) at long f s =
      let size : ℕ = sparse_size (used_of columns (drop at words)) in
      let here = length-drop at words in
      let same = drop-drop size at words in
      let first = varies_used columns (drop at words) (omega (arith, here)) (each_first Sparse columns words (λ at. SparseRowForm columns (drop at words)) at n f) (each_first Sparse columns words (λ at. StrictRow columns (drop at words)) at n s) in
      let longer : at + size + sparse_words columns n (drop size (drop at words)) ≤ length words = omega arith in
      let rest = filled_each n (at + size) (rw same at longer) (each_later Sparse columns words (λ at. SparseRowForm columns (drop at words)) at n f) (each_later Sparse columns words (λ at. StrictRow columns (drop at words)) at n s) in
      ap₂ (λ (a b : Bool). a && b) (sym first) (rw (← same) at rest)

-- ---- the rows of disjuncts

pub filled_varies : (rows : List ℤ) (columns n at : ℕ) → DisjunctsForm Sparse rows columns n at → DisjunctsStrict Sparse rows columns n at → disjuncts_filled rows columns n at ≡ edges_vary (disjuncts_of Sparse columns n (drop at rows))
unfolding disjuncts_filled disjuncts_of edges_vary
filled_varies rows columns zero at f s = refl
filled_varies rows columns (suc n) at (more starts low ends f g) (more_strict s later) =
    let count : ℕ = row_count rows at in
    let first = filled_each columns rows count (at + 1) (omega arith) ((form_each Sparse rows (at + 1) columns count).0 f) ((strict_each Sparse rows (at + 1) columns count).0 s) in
    rw (rest_at Sparse rows columns at, count_at Sparse rows columns at, drop-drop 1 at rows)
    (ap₂ (λ (a b : Bool). a && b) first (filled_varies rows columns n (at + disjunct_words Sparse columns rows at) g later))
