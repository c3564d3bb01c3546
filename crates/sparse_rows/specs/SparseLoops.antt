-- Sparse rows, and the arrays of one, counted up as a loop does: one more comes behind those that are there.
use Rattle.std.specs.Prelude.{◌≡◌, Bool, true, false, not, ◌&&◌, pos, negsuc, ◌+ℤ◌, length, take, T, leb, ltb, eqb, ◌≤ℤ◌, ◌<ℤ◌}
use Rattle.std.proofs.Math.Path.{refl, sym, ap, ap₂}
use Rattle.std.proofs.Common.{◌∙◌, add-zero, zero-add, suc-add, arith, length-drop, get_or-drop, take-suc, leb-true, leb-false, lt-ltb}
use Rattle.std.proofs.Math.Bool.{and-true, and_assoc}
use mathlib.Core.List.{List, [], ◌∷◌, ◌++◌, map, map-append}
use Prim.Native.Nat.{ℕ, zero, suc, ◌+◌, ◌≤◌, ◌<◌}
use Rattle.std.proofs.Math.Numerals.{add-one}
use Rattle.std.proofs.Math.IntN.{ℤ}
use Rattle.std.proofs.Math.ListN.{drop}
use Rattle.std.proofs.Math.Seq.{drop-drop}
use Rattle.std.proofs.Math.Dec.{eqb-suc-zero}
use Rattle.std.specs.Int.Signed.{lt_z, lt_z_yes, lt_z_no}
use Rattle.std.proofs.lemmas.Bool.{lt-leb}
use Rattle.basics.proofs.Booleans.{holds}
use Rattle.basics.specs.Integers.{sum, eq_z}
use Rattle.basics.proofs.Integers.{ints}
use Rattle.words.specs.declared.StoredForm.{StoredForm}
use Rattle.words.specs.Limits.{coefficient_limit}
use Rattle.words.specs.Words.{word, within, below, number, small, all_small}
use Rattle.words.proofs.Ranges.{below_between, number_is}
use Rattle.words.specs.RowWords.{constant_words, constant_passes, is_constant}
use Rattle.words.specs.SparseRows.{used_of, arrays_from, sparse_size, column_words, columns_of, coefficients_of, sparse_words, all_below, rises_from, none_zero, sparse_passes, sparse_strict, each_sparse}
use Rattle.words.specs.SparseForm.{SparseRowsForm}
use Rattle.words.specs.StoredRows.{row_takes, rows_take}
use Rattle.words.proofs.StoredRows.{take_more}

-- ---- rows one after the other

-- one row more, of either form
pub take_next : (form : StoredForm) (columns i at : ℕ) (words : List ℤ)
    → rows_take form columns (i + 1) (drop at words) ≡ rows_take form columns i (drop at words) + row_takes form columns (drop (at + rows_take form columns i (drop at words)) words)
take_next form columns i at words = rw (← drop-drop (rows_take form columns i (drop at words)) at words) (take_more form columns i (drop at words))

-- the first of them
pub take_one : (columns at : ℕ) (words : List ℤ) → sparse_words columns 1 (drop at words) ≡ sparse_size (used_of columns (drop at words))
unfolding sparse_words
take_one columns at words = add-zero (sparse_size (used_of columns (drop at words)))

-- n rows behind i others: the words of all are those of the i and those of the n
take_both : (columns i n : ℕ) (words : List ℤ) → sparse_words columns (i + n) words ≡ sparse_words columns i words + sparse_words columns n (drop (sparse_words columns i words) words)
unfolding sparse_words
take_both columns zero n words = rw (zero-add n) (omega arith)
take_both columns (suc i) n words =
    let size : ℕ = sparse_size (used_of columns words) in
    let rest : List ℤ = drop size words in
    rw (suc-add i n) (ap (λ (k : ℕ). size + k) (take_both columns i n rest) ∙ rw (drop-drop (sparse_words columns i rest) size words) (omega arith))

module _ (columns i n at : ℕ) (words : List ℤ) where
  pub take_later : sparse_words columns (i + n) (drop at words) ≡ sparse_words columns i (drop at words) + sparse_words columns n (drop (at + sparse_words columns i (drop at words)) words)
  take_later = rw (← drop-drop (sparse_words columns i (drop at words)) at words) (take_both columns i n (drop at words))

  -- and the n have their form where all have it
  pub form_later : SparseRowsForm columns (i + n) (drop at words) → SparseRowsForm columns n (drop (at + sparse_words columns i (drop at words)) words)
  unfolding SparseRowsForm
  form_later f j h =
      let front : ℕ = sparse_words columns i (drop at words) in
      rw (← drop-drop front at words, drop-drop (sparse_words columns j (drop front (drop at words))) front (drop at words), ← take_both columns i j (drop at words)) (f (i + j) (omega arith))

-- one row more is tested
module _ (columns : ℕ) (test : List ℤ → Bool) where
  each_suc : (i : ℕ) (words : List ℤ) → each_sparse test columns (suc i) words ≡ each_sparse test columns i words && test (drop (sparse_words columns i words) words)
  unfolding sparse_words each_sparse
  each_suc zero words = and-true (test words)
  each_suc (suc i) words =
      let size : ℕ = sparse_size (used_of columns words) in
      let rest : List ℤ = drop size words in
      ap (λ (b : Bool). test words && b) (each_suc i rest ∙ rw (drop-drop (sparse_words columns i rest) size words))
      ∙ sym (and_assoc (test words) (each_sparse test columns i rest) (test (drop (size + sparse_words columns i rest) words)))

  pub each_next : (i at : ℕ) (words : List ℤ) → each_sparse test columns (i + 1) (drop at words) ≡ each_sparse test columns i (drop at words) && test (drop (at + sparse_words columns i (drop at words)) words)
  each_next i at words = rw (add-one i) (each_suc i (drop at words) ∙ rw (drop-drop (sparse_words columns i (drop at words)) at words))

-- ---- the arrays of a row

below_snoc : (high : ℕ) (ws : List ℤ) (w : ℤ) → all_below high (ws ++ w ∷ []) ≡ all_below high ws && below high w
unfolding all_below
below_snoc high [] w = and-true (below high w)
below_snoc high (x ∷ ws) w = ap (λ (b : Bool). below high x && b) (below_snoc high ws w) ∙ sym (and_assoc (below high x) (all_below high ws) (below high w))

-- what the next column must be at least
unfoldable pub least_after : ℕ → List ℕ → ℕ
least_after least [] = least
least_after least (c ∷ cs) = least_after (suc c) cs

least_snoc : (cs : List ℕ) (least c : ℕ) → least_after least (cs ++ c ∷ []) ≡ suc c
unfolding least_after
least_snoc [] least c = refl
least_snoc (d ∷ cs) least c = least_snoc cs (suc d) c

rises_snoc : (cs : List ℕ) (least c : ℕ) → rises_from least (cs ++ c ∷ []) ≡ rises_from least cs && leb (least_after least cs) c
unfolding rises_from least_after
rises_snoc [] least c = and-true (leb least c)
rises_snoc (d ∷ cs) least c = ap (λ (b : Bool). leb least d && b) (rises_snoc cs (suc d) c) ∙ sym (and_assoc (leb least d) (rises_from (suc d) cs) (leb (least_after (suc d) cs) c))

none_snoc : (xs : List ℤ) (x : ℤ) → none_zero (xs ++ x ∷ []) ≡ none_zero xs && not (eq_z x (pos 0))
unfolding none_zero
none_snoc [] x = and-true (not (eq_z x (pos 0)))
none_snoc (y ∷ xs) x = ap (λ (b : Bool). not (eq_z y (pos 0)) && b) (none_snoc xs x) ∙ sym (and_assoc (not (eq_z y (pos 0))) (none_zero xs) (not (eq_z x (pos 0))))

shuffle : (a b c d : Bool) → ((a && b) && (c && d)) ≡ ((a && c) && (b && d))
shuffle true true c d = refl
shuffle true false true d = refl
shuffle true false false d = refl
shuffle false b c d = refl

-- `used` columns from `first` on, and as many coefficients behind them: the first j of each
module _ (columns first used : ℕ) (words : List ℤ) where
  abbrev columns_to : ℕ → List ℕ
  columns_to j = map (number columns) (take j (drop first words))

  -- they pass test 5
  unfoldable pub passes_to : ℕ → Bool
  passes_to j = all_below columns (take j (drop first words)) && all_small words coefficient_limit (first + used) j

  -- and test 25
  unfoldable pub strict_to : ℕ → Bool
  strict_to j = rises_from 0 (columns_to j) && none_zero (take j (drop (first + used) words))

  -- the next column must be at least this
  unfoldable pub least_to : ℕ → ℕ
  least_to j = least_after 0 (columns_to j)

  pub arrays_none : (passes_to 0 ≡ true) × (strict_to 0 ≡ true) × (least_to 0 ≡ 0)
  unfolding passes_to strict_to least_to all_below all_small rises_from none_zero least_after
  arrays_none = (refl, refl, refl)

  -- one more of each
  module _ (j : ℕ) (h : j < used) (long : first + used + used ≤ length words) where
    abbrev column : ℤ
    column = word words (first + j)

    abbrev coefficient : ℤ
    coefficient = word words (first + used + j)

    one_more : (from : ℕ) → from + j < length words → take (j + 1) (drop from words) ≡ take j (drop from words) ++ word words (from + j) ∷ []
    one_more from l = rw (add-one j, take-suc (drop from words) j (pos 0) (omega (arith, length-drop from words)), get_or-drop from words j (pos 0))

    columns_more : columns_to (j + 1) ≡ columns_to j ++ number columns column ∷ []
    columns_more = rw (one_more first (omega arith)) (map-append (number columns) (take j (drop first words)) (column ∷ []))

    pub passes_next : passes_to (j + 1) ≡ passes_to j && (below columns column && small coefficient_limit coefficient)
    unfolding passes_to all_small
    passes_next =
        rw (one_more first (omega arith), below_snoc columns (take j (drop first words)) column, add-one j)
        (shuffle (all_below columns (take j (drop first words))) (below columns column) (all_small words coefficient_limit (first + used) j) (small coefficient_limit coefficient))

    pub strict_next : strict_to (j + 1) ≡ strict_to j && (leb (least_to j) (number columns column) && not (eq_z coefficient (pos 0)))
    unfolding strict_to least_to
    strict_next =
        rw (columns_more, one_more (first + used) (omega arith), rises_snoc (columns_to j) 0 (number columns column), none_snoc (take j (drop (first + used) words)) coefficient)
        (shuffle (rises_from 0 (columns_to j)) (leb (least_after 0 (columns_to j)) (number columns column)) (none_zero (take j (drop (first + used) words))) (not (eq_z coefficient (pos 0))))

    pub least_next : least_to (j + 1) ≡ suc (number columns column)
    unfolding least_to
    least_next = rw columns_more (least_snoc (columns_to j) 0 (number columns column))

-- a column, against the last one, and a coefficient that is 0, as the code tests them
pub below_is : (columns : ℕ) (w : ℤ) → T (below columns w) → w ≡ pos (number columns w)
below_is columns w t = let b = (below_between columns w).0 t in number_is columns columns w (omega arith) b.0 (omega (arith, ints, b.1))

pub rises_is : (columns least : ℕ) (last w : ℤ) → T (below columns w) → last +ℤ pos 1 ≡ pos least → lt_z last w ≡ leb least (number columns w)
rises_is columns least last w t e = go (lt_z last w) (leb least (number columns w)) refl refl
  where
    above : lt_z last w ≡ true → last <ℤ w
    above p = lt_z_yes (holds p)

    under : lt_z last w ≡ false → w ≤ℤ last
    under p = lt_z_no (rw p tt)

    go : (a b : Bool) → lt_z last w ≡ a → leb least (number columns w) ≡ b → a ≡ b
    go true true p q = refl
    go true false p q = absurd (omega (arith, ints, sum last (pos 1), e, below_is columns w t, above p, leb-false least (number columns w) q))
    go false true p q = absurd (omega (arith, ints, sum last (pos 1), e, below_is columns w t, under p, leb-true least (number columns w) q))
    go false false p q = refl

pub zero_is : (z : ℤ) → small 0 z ≡ eq_z z (pos 0)
unfolding small
zero_is (pos zero) = refl
zero_is (pos (suc n)) = lt-leb (suc n) 0 (omega arith) ∙ sym (eqb-suc-zero n)
zero_is (negsuc n) = lt-leb (suc n) 0 (omega arith)

-- a count that isn't 0
pub filled_is : (n : ℕ) → ltb 0 n ≡ not (eqb n 0)
filled_is zero = refl
filled_is (suc n) = lt-ltb 0 (suc n) (omega arith) ∙ ap not (sym (eqb-suc-zero n))

-- ---- the row's tests, by places of the words

constant_here : (at : ℕ) (words : List ℤ) → constant_passes (drop at words) 0 ≡ constant_passes words at
unfolding constant_passes
constant_here at words = ap₂ is_constant (get_or-drop at words 0 (pos 0) ∙ ap (word words) (add-zero at)) (get_or-drop at words 1 (pos 0))

small_here : (limit from m at : ℕ) (words : List ℤ) → all_small (drop at words) limit from m ≡ all_small words limit (at + from) m
unfolding all_small
small_here limit from zero at words = refl
small_here limit from (suc i) at words =
    let e : at + (from + i) ≡ at + from + i = omega arith in
    ap₂ (λ (a b : Bool). a && b) (small_here limit from i at words) (ap (small limit) (get_or-drop at words (from + i) (pos 0) ∙ ap (word words) e))

module _ (columns at : ℕ) (words : List ℤ) {counted used : ℕ} (begins : counted ≡ at + constant_words) (counts : used ≡ used_of columns (drop at words)) where
  abbrev u : ℕ
  u = used_of columns (drop at words)

  columns_at : drop (counted + 1) words ≡ drop arrays_from (drop at words)
  columns_at = let e : counted + 1 ≡ at + arrays_from = omega (arith, begins) in rw e (sym (drop-drop arrays_from at words))

  coefficients_at : drop (counted + 1 + used) words ≡ drop (arrays_from + u) (drop at words)
  coefficients_at = let e : counted + 1 + used ≡ at + (arrays_from + u) = omega (arith, begins, counts) in rw e (sym (drop-drop (arrays_from + u) at words))

  -- what the code reads, test by test
  pub passes_at : {a b c : Bool} → a ≡ constant_passes words at → b ≡ within 0 columns (word words counted) → c ≡ passes_to columns (counted + 1) used words used
      → (a && (b && c)) ≡ sparse_passes columns (drop at words)
  unfolding sparse_passes column_words passes_to
  passes_at {a} {b} {c} ea eb ec =
      let ea' : a ≡ constant_passes (drop at words) 0 = ea ∙ sym (constant_here at words) in
      let eb' : b ≡ within 0 columns (word (drop at words) constant_words) = eb ∙ ap (within 0 columns) (ap (word words) begins ∙ sym (get_or-drop at words constant_words (pos 0))) in
      let place : counted + 1 + used ≡ at + (arrays_from + u) = omega (arith, begins, counts) in
      let ec' : c ≡ all_below columns (take u (drop arrays_from (drop at words))) && all_small (drop at words) coefficient_limit (arrays_from + u) u = ec ∙ rw (columns_at, place, counts, small_here coefficient_limit (arrays_from + u) u at words) in
      ap₂ (λ (x y : Bool). x && y) ea' (ap₂ (λ (x y : Bool). x && y) eb' ec')

  pub strict_at : strict_to columns (counted + 1) used words used ≡ sparse_strict columns (drop at words)
  unfolding sparse_strict strict_to columns_of column_words coefficients_of
  strict_at = rw (columns_at, coefficients_at, counts)
