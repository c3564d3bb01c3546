-- Rows of either stored form, document 02, CR 9: "a stored form of the certificate in which each row of an entry .. is its constant, a count, .. and two
-- parallel arrays". Dense ones are what they were, by computation. How rows follow each other is the same in both: one row, and the others where it
-- ends; so its laws are for both at once.
use Rattle.std.specs.Prelude.{◌≡◌, refl, List, [], ◌∷◌, ◌++◌, ◌↔◌, T, ℤ, length, drop}
use Rattle.std.proofs.Common.{sym, ap, ◌∙◌, suc-mul, zero-mul, add-one, arith, drop-drop}
use Rattle.std.proofs.Math.Path.{subst}
use Prim.Native.Nat.{ℕ, zero, suc, ◌+◌, ◌≤◌, ◌<◌}
use Rattle.rows.specs.Rows.{Row}
use Rattle.words.specs.declared.StoredForm.{StoredForm}
use Rattle.words.specs.declared.StoredForm.TheVariants.{Dense, Sparse}
use Rattle.words.specs.RowWords.{row_size, rows_by, rows_of}
use Rattle.words.specs.RowForm.{RowsForm}
use Rattle.words.proofs.RowForm.{rows_form}
use Rattle.words.specs.SparseRows.{sparse_rows_of, sparse_words}
use Rattle.words.specs.SparseForm.{SparseRowForm, SparseRowsForm, StrictRow, StrictRows}
use Rattle.words.proofs.SparseForm.{sparse_rows_form, strict_rows}
use Rattle.words.specs.StoredRows.{EachRow, RowFormIn, RowsFormIn, StrictRowIn, StrictRowsIn, row_in, row_takes, rows_in, rows_pass_in, rows_strict_in, rows_take, second}

pub rows_form_in : (form : StoredForm) (words : List ℤ) (at columns n : ℕ) → T (rows_pass_in form words at columns n) ↔ RowsFormIn form words at columns n
rows_form_in Dense words at columns n = rows_form words at columns n
rows_form_in Sparse words at columns n = sparse_rows_form columns n (drop at words)

pub strict_rows_in : (form : StoredForm) (words : List ℤ) (at columns n : ℕ) → T (rows_strict_in form words at columns n) ↔ StrictRowsIn form words at columns n
strict_rows_in Dense words at columns n = (λ t. tt, λ t. tt)
strict_rows_in Sparse words at columns n = strict_rows columns n (drop at words)

-- ---- the first, and the others where it ends

pub first_in : (form : StoredForm) (columns n : ℕ) (words : List ℤ) → rows_in form columns (suc n) words ≡ row_in form columns words ∷ rows_in form columns n (drop (row_takes form columns words) words)
unfolding rows_of rows_by sparse_rows_of
first_in Dense columns n words = refl
first_in Sparse columns n words = refl

pub take_first : (form : StoredForm) (columns n : ℕ) (words : List ℤ) → rows_take form columns (suc n) words ≡ row_takes form columns words + rows_take form columns n (drop (row_takes form columns words) words)
unfolding sparse_words
take_first Dense columns n words = omega (arith, suc-mul n (row_size columns))
take_first Sparse columns n words = refl

-- no rows are none, and take no words
pub no_rows_in : (form : StoredForm) (columns : ℕ) (words : List ℤ) → rows_in form columns 0 words ≡ []
unfolding rows_of rows_by sparse_rows_of
no_rows_in Dense columns words = refl
no_rows_in Sparse columns words = refl

pub take_none : (form : StoredForm) (columns : ℕ) (words : List ℤ) → rows_take form columns 0 words ≡ 0
unfolding sparse_words
take_none Dense columns words = zero-mul (row_size columns)
take_none Sparse columns words = refl

-- ---- so many are read, and one more stands where they end

module _ (form : StoredForm) (columns : ℕ) where
  pub length_in : (n : ℕ) (words : List ℤ) → length (rows_in form columns n words) ≡ n
  length_in zero words = ap length (no_rows_in form columns words)
  length_in (suc n) words = ap length (first_in form columns n words) ∙ ap suc (length_in n (drop (row_takes form columns words) words))

  more_suc : (n : ℕ) (words : List ℤ) → rows_in form columns (suc n) words ≡ rows_in form columns n words ++ row_in form columns (drop (rows_take form columns n words) words) ∷ []
  more_suc zero words = rw (take_none form columns words, no_rows_in form columns words) (first_in form columns 0 words ∙ ap (λ (rs : List Row). row_in form columns words ∷ rs) (no_rows_in form columns (drop (row_takes form columns words) words)))
  more_suc (suc n) words =
      let size : ℕ = row_takes form columns words in
      let rest : List ℤ = drop size words in
      rw (take_first form columns n words, first_in form columns n words)
      (first_in form columns (suc n) words ∙ ap (λ (rs : List Row). row_in form columns words ∷ rs) (more_suc n rest ∙ ap (λ (l : List ℤ). rows_in form columns n rest ++ row_in form columns l ∷ []) (drop-drop (rows_take form columns n rest) size words)))

  take-suc : (n : ℕ) (words : List ℤ) → rows_take form columns (suc n) words ≡ rows_take form columns n words + row_takes form columns (drop (rows_take form columns n words) words)
  take-suc zero words = rw (take_none form columns words) (take_first form columns 0 words ∙ omega (arith, take_none form columns (drop (row_takes form columns words) words)))
  take-suc (suc n) words =
      let size : ℕ = row_takes form columns words in
      let rest : List ℤ = drop size words in
      rw (take_first form columns n words)
      (take_first form columns (suc n) words ∙ (ap (λ (k : ℕ). size + k) (take-suc n rest) ∙ rw (drop-drop (rows_take form columns n rest) size words) (omega arith)))

  pub more_in : (n : ℕ) (words : List ℤ) → rows_in form columns (n + 1) words ≡ rows_in form columns n words ++ row_in form columns (drop (rows_take form columns n words) words) ∷ []
  more_in n words = rw (add-one n) (more_suc n words)

  pub take_more : (n : ℕ) (words : List ℤ) → rows_take form columns (n + 1) words ≡ rows_take form columns n words + row_takes form columns (drop (rows_take form columns n words) words)
  take_more n words = rw (add-one n) (take-suc n words)

  -- fewer rows take no more words
  pub take_fewer : (i n : ℕ) (words : List ℤ) → i ≤ n → rows_take form columns i words ≤ rows_take form columns n words
  take_fewer zero n words h = omega (arith, take_none form columns words)
  take_fewer (suc i) zero words h = absurd (omega arith)
  take_fewer (suc i) (suc n) words h =
      let k = take_fewer i n (drop (row_takes form columns words) words) (omega arith) in omega (arith, take_first form columns i words, take_first form columns n words)

-- ---- what holds of each of so many rows, by the place where it stands

module _ (form : StoredForm) (columns : ℕ) (words : List ℤ) (P : ℕ → Type 0) where
  place_first : (at : ℕ) → at + rows_take form columns 0 (drop at words) ≡ at
  place_first at = omega (arith, take_none form columns (drop at words))

  place_later : (at i : ℕ) → at + rows_take form columns (suc i) (drop at words) ≡ (second form columns words P) at + rows_take form columns i (drop ((second form columns words P) at) words)
  place_later at i =
      rw (← drop-drop (row_takes form columns (drop at words)) at words) (omega (arith, take_first form columns i (drop at words)))

  pub each_first : (at n : ℕ) → (EachRow form columns words P) at (suc n) → P at
  unfolding EachRow
  each_first at n f = subst P (place_first at) (f 0 (omega arith))

  pub each_later : (at n : ℕ) → (EachRow form columns words P) at (suc n) → (EachRow form columns words P) ((second form columns words P) at) n
  unfolding EachRow
  each_later at n f i h = subst P (place_later at i) (f (suc i) (omega arith))

  pub each_none : (at : ℕ) → (EachRow form columns words P) at 0
  unfolding EachRow
  each_none at i h = absurd (omega arith)

  pub each_more : (at n : ℕ) → P at → (EachRow form columns words P) ((second form columns words P) at) n → (EachRow form columns words P) at (suc n)
  unfolding EachRow
  each_more at n p f zero h = subst P (sym (place_first at)) p
  each_more at n p f (suc i) h = subst P (sym (place_later at i)) (f i (omega arith))

dropped : (columns n at : ℕ) (words : List ℤ) (P : List ℤ → Type 0)
    → ((i : ℕ) → i < n → P (drop (sparse_words columns i (drop at words)) (drop at words))) ↔ ((i : ℕ) → i < n → P (drop (at + sparse_words columns i (drop at words)) words))
dropped columns n at words P =
    (λ f i h. subst P (drop-drop (sparse_words columns i (drop at words)) at words) (f i h), λ f i h. subst P (sym (drop-drop (sparse_words columns i (drop at words)) at words)) (f i h))

-- rows have the form if and only if each has it
pub form_each : (form : StoredForm) (words : List ℤ) (at columns n : ℕ) → RowsFormIn form words at columns n ↔ EachRow form columns words (λ at. RowFormIn form words at columns) at n
unfolding EachRow RowsForm SparseRowsForm
form_each Dense words at columns n = (λ f. f, λ f. f)
form_each Sparse words at columns n = dropped columns n at words (SparseRowForm columns)

pub strict_each : (form : StoredForm) (words : List ℤ) (at columns n : ℕ) → StrictRowsIn form words at columns n ↔ EachRow form columns words (λ at. StrictRowIn form words at columns) at n
unfolding EachRow StrictRows
strict_each Dense words at columns n = (λ u i h. tt, λ f. tt)
strict_each Sparse words at columns n = dropped columns n at words (StrictRow columns)
