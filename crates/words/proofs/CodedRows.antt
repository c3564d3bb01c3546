-- Rows of either stored form, one after the other, as they are written: read again they are the rows, they take the words that were written, and
-- pass their tests. Rows that pass theirs are within their limits and stand in the words that are written for them. Each is shown of one row by its
-- form, and of more rows for both forms at once.
use Rattle.std.specs.Prelude.{◌≡◌, Bool, ℤ, pos, length, take}
use Rattle.std.proofs.Math.Path.{refl, sym, ap, ap₂}
use Rattle.std.proofs.Common.{◌∙◌, arith, length-append, drop_at, get_or-take, take-add}
use Rattle.std.proofs.Math.Bool.{true, false}
use mathlib.Core.List.{List, [], ◌∷◌, ◌++◌, append_assoc}
use Prim.Native.Nat.{ℕ, zero, suc, ◌+◌, ◌≤◌, ◌<◌}
use borrow.Author.Tests.{ltb-true, ltb-false}
use Rattle.std.proofs.Math.Dec.{ltb}
use Rattle.std.proofs.Math.ListN.{drop, length-take, length-drop, get_or-append, get_or-eq_default}
use Rattle.std.proofs.Math.Seq.{drop-drop, get_or-drop, length-take-le}
use Rattle.rows.specs.Rows.{Row}
use Rattle.words.specs.Limits.{coefficient_limit}
use Rattle.words.specs.Words.{word}
use Rattle.words.specs.Ranges.{Small}
use Rattle.words.specs.RowLimits.{RowWithin, RowsWithin, none, one}
use Rattle.words.proofs.RowLimits.{zero_small}
use Rattle.words.specs.RowWords.{constant_words, constant_at, row_size, row_of}
use Rattle.words.specs.RowForm.{RowForm}
use Rattle.words.proofs.RowLaws.{constant_dropped}
use Rattle.words.proofs.ConstantCode.{low_range}
use Rattle.words.specs.RowCode.{constant_code, row_code}
use Rattle.words.proofs.RowCode.{constant_coded, length_coded, row_coded, row_own}
use Rattle.words.proofs.SparseCode.{sparse_coded, sparse_length, code_form, code_strict, sparse_within, sparse_own}
use Rattle.words.specs.declared.StoredForm.{StoredForm}
use Rattle.words.specs.declared.StoredForm.TheVariants.{Dense, Sparse}
use Rattle.words.specs.StoredRows.{row_in, row_takes, RowFormIn, StrictRowIn, rows_in, rows_take, RowsFormIn, StrictRowsIn, EachRow}
use Rattle.words.proofs.StoredRows.{no_rows_in, first_in, take_none, take_first, each_first, each_later, each_none, each_more, form_each, strict_each}
use Rattle.words.specs.CodedRows.{code_in, rows_code, size}

-- ---- one row, as it is written

module _ (columns : ℕ) (r : Row) (h : RowWithin columns r) where
  pub row_read : (form : StoredForm) (rest : List ℤ) → row_in form columns (code_in form r ++ rest) ≡ r
  row_read Dense rest = row_coded columns r h.wide rest
  row_read Sparse rest = sparse_coded columns r h.wide rest

  pub row_takes_lem : (form : StoredForm) (rest : List ℤ) → row_takes form columns (code_in form r ++ rest) ≡ length (code_in form r)
  row_takes_lem Dense rest = sym (length_coded columns r h.wide)
  row_takes_lem Sparse rest = sym (sparse_length columns r h.wide rest)

  pub row_rest : (form : StoredForm) (rest : List ℤ) → drop (row_takes form columns (code_in form r ++ rest)) (code_in form r ++ rest) ≡ rest
  row_rest form rest = drop_at (code_in form r) rest (row_takes form columns (code_in form r ++ rest)) (sym (row_takes_lem form rest))

  -- it stands at a place
  module _ (words : List ℤ) (at : ℕ) (rest : List ℤ) where
    dense_form : drop at words ≡ row_code r ++ rest → RowForm words at columns
    unfolding row_code constant_code
    dense_form e =
        record {
          low = rw (sym (get_or-drop at words 1 (pos 0)) ∙ ap (λ (l : List ℤ). word l 1) e) (low_range r.constant);
          constant = rw (sym (constant_dropped at words) ∙ (ap (λ (l : List ℤ). constant_at l 0) e ∙ constant_coded r.constant (r.coefficients ++ rest))) h.constant;
          coefficients = λ i l. rw (here i l) (h.coefficients i);
        }
      where
        past_constant : drop (at + constant_words) words ≡ r.coefficients ++ rest
        past_constant = sym (drop-drop constant_words at words) ∙ ap (drop constant_words) e

        here : (i : ℕ) → i < columns → word words (at + constant_words + i) ≡ word r.coefficients i
        here i l = sym (get_or-drop (at + constant_words) words i (pos 0)) ∙ (ap (λ (l : List ℤ). word l i) past_constant ∙ get_or-append r.coefficients rest (pos 0) i (omega (arith, h.wide)))

    pub row_form_in : (form : StoredForm) → drop at words ≡ code_in form r ++ rest → RowFormIn form words at columns
    row_form_in Dense e = dense_form e
    row_form_in Sparse e = rw e (code_form columns r h.wide rest h.constant h.coefficients)

    pub row_strict_in : (form : StoredForm) → drop at words ≡ code_in form r ++ rest → StrictRowIn form words at columns
    row_strict_in Dense e = tt
    row_strict_in Sparse e = rw e (code_strict columns r h.wide rest)

-- ---- one row, as it is read

module _ (columns : ℕ) (words : List ℤ) (at : ℕ) where
  dense_within : at + row_size columns ≤ length words → RowForm words at columns → RowWithin columns (row_of columns (drop at words))
  unfolding row_of
  dense_within long f =
      record {
        wide = length-take-le columns (drop constant_words (drop at words)) (omega (arith, length-drop constant_words (drop at words), length-drop at words));
        constant = rw (constant_dropped at words) f.constant;
        coefficients = λ i. go i (ltb i columns) refl;
      }
    where
      go : (i : ℕ) (b : Bool) → ltb i columns ≡ b → Small coefficient_limit (word (take columns (drop constant_words (drop at words))) i)
      go i true e =
          let l = ltb-true i columns e in
          rw (get_or-take columns (drop constant_words (drop at words)) i (pos 0) l, drop-drop constant_words at words, get_or-drop (at + constant_words) words i (pos 0)) (f.coefficients i l)
      go i false e =
          rw (get_or-eq_default (take columns (drop constant_words (drop at words))) (pos 0) {n = i} (omega (arith, length-take columns (drop constant_words (drop at words)), ltb-false i columns e)))
          (zero_small coefficient_limit)

  -- it is within its limits
  pub row_within : (form : StoredForm) → at + row_takes form columns (drop at words) ≤ length words → RowFormIn form words at columns → RowWithin columns (row_in form columns (drop at words))
  row_within Dense long f = dense_within long f
  row_within Sparse long f = sparse_within columns (drop at words) f (omega (arith, length-drop at words))

  -- and its words are its own
  pub row_words : (form : StoredForm) → at + row_takes form columns (drop at words) ≤ length words → RowFormIn form words at columns → StrictRowIn form words at columns
      → take (row_takes form columns (drop at words)) (drop at words) ≡ code_in form (row_in form columns (drop at words))
  row_words Dense long f s = row_own columns (drop at words) (omega (arith, length-drop at words)) (rw (get_or-drop at words 1 (pos 0)) f.low)
  row_words Sparse long f s = sparse_own columns (drop at words) f (omega (arith, length-drop at words)) s

-- ---- so many rows, one after the other

module _ (form : StoredForm) (columns : ℕ) where
  -- read again they are the rows
  pub rows_read : (rs : List Row) (rest : List ℤ) → RowsWithin columns rs → rows_in form columns (length rs) (rows_code form rs ++ rest) ≡ rs
  unfolding rows_code
  rows_read [] rest none = no_rows_in form columns rest
  rows_read (r ∷ rs) rest (one h hs) =
      rw (append_assoc (code_in form r) (rows_code form rs) rest)
      (first_in form columns (length rs) (code_in form r ++ (rows_code form rs ++ rest))
      ∙ ap₂ (λ (r : Row) (rs : List Row). r ∷ rs) (row_read columns r h form (rows_code form rs ++ rest))
      (ap (rows_in form columns (length rs)) (row_rest columns r h form (rows_code form rs ++ rest)) ∙ rows_read rs rest hs))

  -- and take the words that were written
  pub rows_take_lem : (rs : List Row) (rest : List ℤ) → RowsWithin columns rs → rows_take form columns (length rs) (rows_code form rs ++ rest) ≡ length (rows_code form rs)
  unfolding rows_code
  rows_take_lem [] rest none = take_none form columns rest
  rows_take_lem (r ∷ rs) rest (one h hs) =
      rw (append_assoc (code_in form r) (rows_code form rs) rest)
      (take_first form columns (length rs) (code_in form r ++ (rows_code form rs ++ rest))
      ∙ (ap₂ (λ (a b : ℕ). a + b) (row_takes_lem columns r h form (rows_code form rs ++ rest)) (ap (rows_take form columns (length rs)) (row_rest columns r h form (rows_code form rs ++ rest)) ∙ rows_take_lem rs rest hs)
      ∙ sym (length-append (code_in form r) (rows_code form rs))))

  module _ (words : List ℤ) where
    -- where a row stands as it is written, the next one stands where it ends
    behind : (at : ℕ) (r : Row) (rest : List ℤ) → RowWithin columns r → drop at words ≡ code_in form r ++ rest → drop (at + row_takes form columns (drop at words)) words ≡ rest
    behind at r rest h e =
        sym (drop-drop (row_takes form columns (drop at words)) at words) ∙ (ap (λ (l : List ℤ). drop (row_takes form columns l) l) e ∙ row_rest columns r h form rest)

    -- what a row's words give, each row of many has
    coded_each : (P : ℕ → Type 0) → ((at : ℕ) (r : Row) (rest : List ℤ) → RowWithin columns r → drop at words ≡ code_in form r ++ rest → P at)
        → (rs : List Row) (at : ℕ) (rest : List ℤ) → RowsWithin columns rs → drop at words ≡ rows_code form rs ++ rest → EachRow form columns words P at (length rs)
    unfolding rows_code
    coded_each P f [] at rest none e = each_none form columns words P at
    coded_each P f (r ∷ rs) at rest (one h hs) e =
        let e' : drop at words ≡ code_in form r ++ (rows_code form rs ++ rest) = e ∙ append_assoc (code_in form r) (rows_code form rs) rest in
        each_more form columns words P at (length rs) (f at r (rows_code form rs ++ rest) h e')
        (coded_each P f rs (at + row_takes form columns (drop at words)) rest hs (behind at r (rows_code form rs ++ rest) h e'))

    -- they pass their tests
    pub rows_form_coded : (rs : List Row) (at : ℕ) (rest : List ℤ) → RowsWithin columns rs → drop at words ≡ rows_code form rs ++ rest → RowsFormIn form words at columns (length rs)
    rows_form_coded rs at rest h e = (form_each form words at columns (length rs)).1 (coded_each (λ at. RowFormIn form words at columns) (λ at r rest h. row_form_in columns r h words at rest form) rs at rest h e)

    pub rows_strict_coded : (rs : List Row) (at : ℕ) (rest : List ℤ) → RowsWithin columns rs → drop at words ≡ rows_code form rs ++ rest → StrictRowsIn form words at columns (length rs)
    rows_strict_coded rs at rest h e = (strict_each form words at columns (length rs)).1 (coded_each (λ at. StrictRowIn form words at columns) (λ at r rest h. row_strict_in columns r h words at rest form) rs at rest h e)

    -- ---- rows that pass

    -- a row fewer
    module _ (at n : ℕ) (long : at + rows_take form columns (suc n) (drop at words) ≤ length words) where
      same : drop (size form columns words at n long) (drop at words) ≡ drop (at + (size form columns words at n long)) words
      same = drop-drop (size form columns words at n long) at words

      first_long : at + (size form columns words at n long) ≤ length words
      first_long = omega (arith, take_first form columns n (drop at words))

      rest_long : at + (size form columns words at n long) + rows_take form columns n (drop (at + (size form columns words at n long)) words) ≤ length words
      rest_long = rw (← same) (omega (arith, take_first form columns n (drop at words)))

    -- are within their limits
    within : (n at : ℕ) → at + rows_take form columns n (drop at words) ≤ length words → EachRow form columns words (λ at. RowFormIn form words at columns) at n → RowsWithin columns (rows_in form columns n (drop at words))
    within zero at long f = rw (no_rows_in form columns (drop at words)) none
    within (suc n) at long f =
        rw (first_in form columns n (drop at words), same at n long)
        (one (row_within columns words at form (first_long at n long) (each_first form columns words (λ at. RowFormIn form words at columns) at n f))
        (within n (at + row_takes form columns (drop at words)) (rest_long at n long) (each_later form columns words (λ at. RowFormIn form words at columns) at n f)))

    pub rows_within : (at n : ℕ) → at + rows_take form columns n (drop at words) ≤ length words → RowsFormIn form words at columns n → RowsWithin columns (rows_in form columns n (drop at words))
    rows_within at n long f = within n at long ((form_each form words at columns n).0 f)

    -- and stand in their own words: so rows have one spelling
    own : (n at : ℕ) → at + rows_take form columns n (drop at words) ≤ length words → EachRow form columns words (λ at. RowFormIn form words at columns) at n → EachRow form columns words (λ at. StrictRowIn form words at columns) at n
        → take (rows_take form columns n (drop at words)) (drop at words) ≡ rows_code form (rows_in form columns n (drop at words))
    unfolding rows_code
    own zero at long f s = rw (take_none form columns (drop at words), no_rows_in form columns (drop at words)) refl
    own (suc n) at long f s =
        rw (take_first form columns n (drop at words), first_in form columns n (drop at words))
        (take-add ((size form columns words) at n long) (rows_take form columns n (drop ((size form columns words) at n long) (drop at words))) (drop at words)
        ∙ ap₂ (λ (k l : List ℤ). k ++ l)
        (row_words columns words at form (first_long at n long) (each_first form columns words (λ at. RowFormIn form words at columns) at n f) (each_first form columns words (λ at. StrictRowIn form words at columns) at n s))
        (rw (same at n long) (own n (at + row_takes form columns (drop at words)) (rest_long at n long) (each_later form columns words (λ at. RowFormIn form words at columns) at n f) (each_later form columns words (λ at. StrictRowIn form words at columns) at n s))))

    pub rows_words : (at n : ℕ) → at + rows_take form columns n (drop at words) ≤ length words → RowsFormIn form words at columns n → StrictRowsIn form words at columns n
        → take (rows_take form columns n (drop at words)) (drop at words) ≡ rows_code form (rows_in form columns n (drop at words))
    rows_words at n long f s = own n at long ((form_each form words at columns n).0 f) ((strict_each form words at columns n).0 s)

-- words that pass both tests and say the same rows are the same words: "so one certificate has one sparse sheet"
pub one_code : (form : StoredForm) (columns n : ℕ) (words : List ℤ) (at : ℕ) (words' : List ℤ) (at' : ℕ) → at + rows_take form columns n (drop at words) ≤ length words → at' + rows_take form columns n (drop at' words') ≤ length words'
    → RowsFormIn form words at columns n → RowsFormIn form words' at' columns n → StrictRowsIn form words at columns n → StrictRowsIn form words' at' columns n
    → rows_in form columns n (drop at words) ≡ rows_in form columns n (drop at' words')
    → take (rows_take form columns n (drop at words)) (drop at words) ≡ take (rows_take form columns n (drop at' words')) (drop at' words')
one_code form columns n words at words' at' l l' f f' s s' e = rows_words form columns words at n l f s ∙ (ap (rows_code form) e ∙ sym (rows_words form columns words' at' n l' f' s'))
