-- The words of a sparse row, for whoever writes one: reading them gives the row back, and they pass both tests. Words that pass both are the row's
-- own, so a row has one sparse spelling: the columns and coefficients that are read are those that aren't 0 in the row.
use Rattle.std.specs.Prelude.{◌≡◌, refl, Bool, true, false, ◌&&◌, ℕ, ◌+◌, ◌≤◌, ◌<◌, T, ltb, ℤ, pos, drop}
use Rattle.std.proofs.Math.Path.{sym, ap, ap₂}
use Rattle.std.proofs.Common.{◌∙◌, arith, ltb-true, ltb-false, ltb→lt, lt→ltb, take_at, drop_at, drop-drop, get_or-drop, drop-cons}
use mathlib.Core.List.{List, [], ◌∷◌, ◌++◌, map, append_assoc}
use Rattle.std.proofs.Math.ListN.{length, take, length-append, get_or-append, get_or-eq_default}
use Rattle.std.proofs.lemmas.List.{length-map}
use Rattle.std.proofs.Math.Seq.{append_snoc, take-add}
use Rattle.basics.proofs.Booleans.{parts, and, and_l, and_r}
use Rattle.basics.proofs.Integers.{ints}
use Rattle.rows.specs.Rows.{Row}
use Rattle.rows.specs.Columns.{zeros}
use Rattle.rows.proofs.Blocks.{length_zeros}
use Rattle.words.specs.Limits.{constant_limit, coefficient_limit}
use Rattle.words.specs.Words.{word, number, below, within, all_small}
use Rattle.words.specs.Ranges.{Small}
use Rattle.words.proofs.Ranges.{number_of, number_is, within_between, below_between, all_small_lem}
use Rattle.words.specs.RowWords.{constant_words, constant_at, constant_passes}
use Rattle.words.proofs.ConstantCode.{spelled_read, spelled_passes}
use Rattle.words.specs.RowCode.{constant_code}
use Rattle.words.proofs.RowCode.{constant_own}
use Rattle.words.specs.RowLimits.{AllWithin, RowWithin}
use Rattle.words.proofs.RowLimits.{zero_small}
use Rattle.words.specs.SparseRows.{used_of, arrays_from, sparse_size, column_words, columns_of, coefficients_of, sparse_row_of, rises_from, none_zero, all_below, sparse_passes, sparse_strict}
use Rattle.words.specs.SparseForm.{SparseRowForm, StrictRow}
use Rattle.words.proofs.SparseForm.{coefficient_here, count_word_lem, count_columns, count_coefficients, sparse_form, strict_row}
use Rattle.words.specs.UsedColumns.{used_columns, used_coefficients, all_under}
use Rattle.words.proofs.UsedColumns.{scatter_used, used_scatter, used_few, used_same, used_under, used_rises, used_none_zero, used_small, scatter_length, scatter_small, zeros_small}
use Rattle.words.specs.SparseCode.{count, in_columns, sparse_code, used, words}

-- columns as words, read again
numbers_of : (m : ℕ) (cs : List ℕ) → T (all_under m cs) → map (number m) (map pos cs) ≡ cs
unfolding all_under
numbers_of m [] t = refl
numbers_of m (c ∷ cs) t =
    ap₂ (λ (c : ℕ) (cs : List ℕ). c ∷ cs) (number_of m c (let l = ltb→lt c m (and_l (ltb c m) (all_under m cs) t) in omega arith)) (numbers_of m cs (and_r (ltb c m) (all_under m cs) t))

below_of : (m : ℕ) (cs : List ℕ) → T (all_under m cs) → T (all_below m (map pos cs))
unfolding all_under all_below below
below_of m [] t = tt
below_of m (c ∷ cs) t = and (ltb c m) (all_below m (map pos cs)) (and_l (ltb c m) (all_under m cs) t) (below_of m cs (and_r (ltb c m) (all_under m cs) t))

-- and words that are columns
words_of : (m : ℕ) (ws : List ℤ) → T (all_below m ws) → (map pos (map (number m) ws) ≡ ws) × T (all_under m (map (number m) ws))
unfolding all_under all_below
words_of m [] t = (refl, tt)
words_of m (w ∷ ws) t = go w (words_of m ws (and_r (below m w) (all_below m ws) t)) (and_l (below m w) (all_below m ws) t)
  where
    go : (w : ℤ) → (map pos (map (number m) ws) ≡ ws) × T (all_under m (map (number m) ws)) → T (below m w)
        → (pos (number m w) ∷ map pos (map (number m) ws) ≡ w ∷ ws) × T (ltb (number m w) m && all_under m (map (number m) ws))
    go w (e, u) t =
        let b = (below_between m w).0 t in
        let same : w ≡ pos (number m w) = number_is m m w (omega arith) b.0 (omega (arith, ints, b.1)) in
        (ap₂ (λ (w : ℤ) (ws : List ℤ). w ∷ ws) (sym same) e, and (ltb (number m w) m) (all_under m (map (number m) ws)) (lt→ltb (number m w) m (omega (arith, ints, same, b.1))) u)

-- ---- reading what was written

module _ (columns : ℕ) (r : Row) (wide : length r.coefficients ≡ columns) (rest : List ℤ) where
  few : length (used columns r wide rest) ≤ columns
  few = omega (arith, used_few r.coefficients, wide)

  many : length (in_columns columns r wide rest) ≡ length (used columns r wide rest)
  many = length-map (used_columns 0 r.coefficients) pos ∙ used_same r.coefficients 0

  behind : drop arrays_from (words columns r wide rest) ≡ (in_columns columns r wide rest) ++ ((used columns r wide rest) ++ rest)
  unfolding sparse_code constant_code
  behind = append_assoc (in_columns columns r wide rest) (used columns r wide rest) rest

  pub used_coded : used_of columns (words columns r wide rest) ≡ length (used columns r wide rest)
  unfolding used_of sparse_code constant_code
  used_coded = number_of columns (length (used columns r wide rest)) few

  columns_coded : column_words columns (words columns r wide rest) ≡ (in_columns columns r wide rest)
  unfolding column_words
  columns_coded = rw (used_coded, behind) (take_at (in_columns columns r wide rest) ((used columns r wide rest) ++ rest) (length (used columns r wide rest)) many)

  past_columns : drop (arrays_from + used_of columns (words columns r wide rest)) (words columns r wide rest) ≡ (used columns r wide rest) ++ rest
  past_columns = rw used_coded (sym (drop-drop (length (used columns r wide rest)) arrays_from (words columns r wide rest)) ∙ rw behind (drop_at (in_columns columns r wide rest) ((used columns r wide rest) ++ rest) (length (used columns r wide rest)) many))

  coefficients_coded : coefficients_of columns (words columns r wide rest) ≡ (used columns r wide rest)
  unfolding coefficients_of
  coefficients_coded = rw (past_columns, used_coded) (take_at (used columns r wide rest) rest (length (used columns r wide rest)) refl)

  constant_here : constant_at (words columns r wide rest) 0 ≡ r.constant
  unfolding sparse_code constant_code constant_at
  constant_here = spelled_read r.constant

  constant_passes_lem : Small constant_limit r.constant → T (constant_passes (words columns r wide rest) 0)
  unfolding sparse_code constant_code constant_passes
  constant_passes_lem h = spelled_passes r.constant h

  under : T (all_under columns (used_columns 0 r.coefficients))
  under = used_under r.coefficients 0 columns (omega (arith, wide))

  pub sparse_coded : sparse_row_of columns (words columns r wide rest) ≡ r
  unfolding sparse_row_of columns_of
  sparse_coded =
      ap₂ (λ (c : ℤ) (l : List ℤ). record { constant = c; coefficients = l }) constant_here
      (rw (columns_coded, coefficients_coded, numbers_of columns (used_columns 0 r.coefficients) under) (rw wide at (scatter_used r.coefficients)))

  pub sparse_length : length (sparse_code r) ≡ sparse_size (used_of columns (words columns r wide rest))
  unfolding sparse_code constant_code
  sparse_length = rw used_coded (omega (arith, length-append (in_columns columns r wide rest) (used columns r wide rest), many))

  counted : T (within 0 columns (word (words columns r wide rest) constant_words))
  unfolding sparse_code constant_code
  counted = (within_between 0 columns (pos (length (used columns r wide rest)))).1 (record { least = omega (arith, ints); most = omega (arith, ints, few) })

  -- what was written has the form that both tests ask for
  pub code_form : Small constant_limit r.constant → AllWithin coefficient_limit r.coefficients → SparseRowForm columns (words columns r wide rest)
  unfolding sparse_passes
  code_form c x = (sparse_form columns (words columns r wide rest)).0 (and (constant_passes (words columns r wide rest) 0) _ (constant_passes_lem c) (and (within 0 columns (word (words columns r wide rest) constant_words)) _ counted (and (all_below columns (column_words columns (words columns r wide rest))) _ (rw columns_coded (below_of columns (used_columns 0 r.coefficients) under)) inside)))
    where
      here : (i : ℕ) → i < length (used columns r wide rest) → Small coefficient_limit (word (words columns r wide rest) (arrays_from + used_of columns (words columns r wide rest) + i))
      here i h =
          let e : word (words columns r wide rest) (arrays_from + used_of columns (words columns r wide rest) + i) ≡ word (used columns r wide rest) i = sym (get_or-drop (arrays_from + used_of columns (words columns r wide rest)) (words columns r wide rest) i (pos 0)) ∙ (rw past_columns (get_or-append (used columns r wide rest) rest (pos 0) i h)) in
          rw e (used_small coefficient_limit r.coefficients x i)

      inside : T (all_small (words columns r wide rest) coefficient_limit (arrays_from + used_of columns (words columns r wide rest)) (used_of columns (words columns r wide rest)))
      inside = (all_small_lem (words columns r wide rest) coefficient_limit (arrays_from + used_of columns (words columns r wide rest)) (used_of columns (words columns r wide rest))).1 (λ i h. here i (rw used_coded at h))

  strict : T (sparse_strict columns (words columns r wide rest))
  unfolding sparse_strict columns_of
  strict =
      rw (columns_coded, coefficients_coded, numbers_of columns (used_columns 0 r.coefficients) under)
      (and (rises_from 0 (used_columns 0 r.coefficients)) (none_zero (used columns r wide rest)) (used_rises r.coefficients 0) (used_none_zero r.coefficients))

  pub code_strict : StrictRow columns (words columns r wide rest)
  code_strict = (strict_row columns (words columns r wide rest)).0 strict

-- ---- whoever reads words that pass both tests has the row's own words

module _ (columns : ℕ) (words : List ℤ) (form : SparseRowForm columns words) (long : sparse_size (used_of columns words) ≤ length words) where
  read_columns : (map pos (columns_of columns words) ≡ column_words columns words) × T (all_under columns (columns_of columns words))
  unfolding sparse_passes columns_of
  read_columns = let t = (sparse_form columns words).1 form in words_of columns (column_words columns words) (search parts)

  coefficients_small : AllWithin coefficient_limit (coefficients_of columns words)
  coefficients_small i = go (ltb i (count columns words form long)) refl
    where
      go : (b : Bool) → ltb i (count columns words form long) ≡ b → Small coefficient_limit (word (coefficients_of columns words) i)
      go true e = let h = ltb-true i (count columns words form long) e in rw (coefficient_here columns words i h) (form.coefficients i h)
      go false e = rw (get_or-eq_default (coefficients_of columns words) (pos 0) {n = i} (omega (arith, count_coefficients columns words long, ltb-false i (count columns words form long) e))) (zero_small coefficient_limit)

  -- so the row is within its limits
  pub sparse_within : RowWithin columns (sparse_row_of columns words)
  unfolding sparse_row_of
  sparse_within =
      record {
        wide = scatter_length (zeros columns) (columns_of columns words) (coefficients_of columns words) ∙ length_zeros columns;
        constant = form.constant;
        coefficients = scatter_small coefficient_limit (zeros columns) (columns_of columns words) (coefficients_of columns words) (zeros_small coefficient_limit columns) coefficients_small;
      }

  module _ (s : StrictRow columns words) where
    read_used : (used_columns 0 (sparse_row_of columns words).coefficients ≡ columns_of columns words) × (used_coefficients (sparse_row_of columns words).coefficients ≡ coefficients_of columns words)
    unfolding sparse_strict sparse_row_of
    read_used =
        let t = (strict_row columns words).1 s in
        used_scatter columns (columns_of columns words) (coefficients_of columns words) (count_columns columns words long ∙ sym (count_coefficients columns words long)) (search parts) read_columns.1 (search parts)

    both_arrays_lem : take ((count columns words form long) + (count columns words form long)) (drop arrays_from words) ≡ column_words columns words ++ coefficients_of columns words
    unfolding column_words coefficients_of
    both_arrays_lem = take-add (count columns words form long) (count columns words form long) (drop arrays_from words) ∙ ap (λ (l : List ℤ). take (count columns words form long) (drop arrays_from words) ++ take (count columns words form long) l) (drop-drop (count columns words form long) arrays_from words)

    one_word : take 1 (drop constant_words words) ≡ pos (count columns words form long) ∷ []
    one_word = ap (take 1) (drop-cons words constant_words (pos 0) (omega (arith, long))) ∙ ap (λ (z : ℤ). z ∷ []) (count_word_lem columns words form)

    front : take arrays_from words ≡ constant_code (constant_at words 0) ++ (pos (count columns words form long) ∷ [])
    front = take-add constant_words 1 words ∙ ap₂ (λ (k l : List ℤ). k ++ l) (constant_own words (omega (arith, long)) form.low) one_word

    pub sparse_own : take (sparse_size (count columns words form long)) words ≡ sparse_code (sparse_row_of columns words)
    unfolding sparse_code
    sparse_own =
        rw (read_used.0, read_used.1, read_columns.0, count_coefficients columns words long)
        (take-add arrays_from ((count columns words form long) + (count columns words form long)) words
        ∙ (ap₂ (λ (k l : List ℤ). k ++ l) front both_arrays_lem ∙ (append_snoc (constant_code (constant_at words 0)) (pos (count columns words form long)) (column_words columns words ++ coefficients_of columns words) ∙ unfold sparse_row_of in refl)))
