-- Disjuncts as they are written, one after the other: read again they are the disjuncts, they end where the words do, and they pass their tests.
-- Disjuncts that pass theirs are within their limits, and sparse ones stand in the words that are written for them.
use Rattle.std.specs.Prelude.{◌≡◌, ℕ, suc, ◌+◌, ◌≤◌, ◌<◌, pos, take}
use Rattle.std.proofs.Math.Path.{refl, sym, ap}
use Rattle.std.proofs.Common.{ap₂, ◌∙◌, add-zero, arith, drop-cons, drop_at, get_or-drop, take-add}
use mathlib.Core.List.{List, [], ◌∷◌, ◌++◌, append_assoc}
use Rattle.std.proofs.Math.IntN.{ℤ}
use Rattle.std.proofs.Math.ListN.{length, drop, length-append, length-drop}
use Rattle.std.proofs.Math.Seq.{drop-drop}
use Rattle.basics.proofs.Integers.{ints}
use Rattle.words.specs.declared.StoredForm.{StoredForm}
use Rattle.words.specs.declared.StoredForm.TheVariants.{Sparse}
use Rattle.words.specs.Limits.{most_rows}
use Rattle.words.specs.Words.{word, number}
use Rattle.words.specs.Ranges.{Between}
use Rattle.words.proofs.Ranges.{number_of, number_is, number_most}
use Rattle.words.specs.SparseRows.{sparse_rows_of, sparse_words}
use Rattle.words.specs.RowLimits.{RowsWithin}
use Rattle.words.specs.StoredRows.{rows_in, RowsFormIn, StrictRowsIn}
use Rattle.words.proofs.StoredRows.{length_in}
use Rattle.words.specs.CodedRows.{rows_code}
use Rattle.words.proofs.CodedRows.{rows_read, rows_take_lem, rows_form_coded, rows_strict_coded, rows_within, rows_words}
use Rattle.certificates.specs.Certificate.{Disjunct}
use Rattle.certificates.specs.CertificateWords.{row_count, disjunct_words, disjuncts_of, disjuncts_end}
use Rattle.certificates.specs.CertificateForm.{DisjunctsForm, none, more, DisjunctsStrict, none_strict, more_strict}
use Rattle.certificates.proofs.Entries.{count_at, rest_at}
use Rattle.layouts.specs.DisjunctCode.{Coded, DisjunctsWithin, and_one, disjunct_code, disjuncts_code, empty}

module _ (form : StoredForm) (columns : ℕ) where
  -- ---- a disjunct that stands at a place as its code does

  module _ (words : List ℤ) (at : ℕ) (d : Disjunct) (rest : List ℤ) (few : length d ≤ most_rows) (h : RowsWithin columns d) (e : drop at words ≡ disjunct_code form d ++ rest) where
    here : word words at ≡ pos (length d)
    unfolding disjunct_code
    here = ap (word words) (sym (add-zero at)) ∙ (sym (get_or-drop at words 0 (pos 0)) ∙ ap (λ (l : List ℤ). word l 0) e)

    counted : row_count words at ≡ length d
    counted = ap (number most_rows) here ∙ number_of most_rows (length d) few

    behind : drop (at + 1) words ≡ rows_code form d ++ rest
    unfolding disjunct_code
    behind = sym (drop-drop 1 at words) ∙ ap (drop 1) e

    size : disjunct_words form columns words at ≡ length (disjunct_code form d)
    unfolding disjunct_code
    size = rw (counted, behind) (omega (arith, rows_take_lem form columns d rest h))

    next : drop (at + disjunct_words form columns words at) words ≡ rest
    next = rw size (sym (drop-drop (length (disjunct_code form d)) at words) ∙ (ap (drop (length (disjunct_code form d))) e ∙ drop_at (disjunct_code form d) rest (length (disjunct_code form d)) refl))

    reads : rows_in form columns (row_count words at) (drop (at + 1) words) ≡ d
    reads = rw (counted, behind) (rows_read form columns d rest h)

    long : at + length (disjunct_code form d) + length rest ≡ length words
    unfolding disjunct_code
    long = omega (arith, ap length e, length-append (disjunct_code form d) rest, length-drop at words)

    starts : at < length words
    unfolding disjunct_code
    starts = omega (arith, long)

    range : Between (pos 0) (pos most_rows) (word words at)
    range = rw here (record { least = omega (arith, ints); most = omega (arith, ints, few) })

    pass : RowsFormIn form words (at + 1) columns (row_count words at)
    pass = rw counted (rows_form_coded form columns words d (at + 1) rest h behind)

    strict : StrictRowsIn form words (at + 1) columns (row_count words at)
    strict = rw counted (rows_strict_coded form columns words d (at + 1) rest h behind)

  -- the first of so many that stand from a place on, and those behind it
  pub first_of_lem : (words : List ℤ) (i at : ℕ) → disjuncts_of form columns (suc i) (drop at words)
      ≡ rows_in form columns (row_count words at) (drop (at + 1) words) ∷ disjuncts_of form columns i (drop (at + disjunct_words form columns words at) words)
  unfolding disjuncts_of
  first_of_lem words i at = rw (rest_at form words columns at, count_at form words columns at, drop-drop 1 at words)

  -- ---- so many that stand from a place on

  pub disjuncts_read : (words : List ℤ) (ds : List Disjunct) (at : ℕ) (rest : List ℤ) → DisjunctsWithin columns ds → drop at words ≡ disjuncts_code form ds ++ rest
      → disjuncts_of form columns (length ds) (drop at words) ≡ ds
  unfolding disjuncts_of disjuncts_code
  disjuncts_read words [] at rest empty e = refl
  disjuncts_read words (d ∷ ds) at rest (and_one few h hs) e =
      let e' : drop at words ≡ disjunct_code form d ++ (disjuncts_code form ds ++ rest) = e ∙ append_assoc (disjunct_code form d) (disjuncts_code form ds) rest in
      rw (first_of_lem words (length ds) at)
      (ap₂ (λ (d : Disjunct) (ds : List Disjunct). d ∷ ds) (reads words at d (disjuncts_code form ds ++ rest) few h e')
      (disjuncts_read words ds (at + disjunct_words form columns words at) rest hs (next words at d (disjuncts_code form ds ++ rest) few h e')))

  pub disjuncts_end_lem : (words : List ℤ) (ds : List Disjunct) (at : ℕ) (rest : List ℤ) → DisjunctsWithin columns ds → drop at words ≡ disjuncts_code form ds ++ rest
      → disjuncts_end form words columns (length ds) at ≡ at + length (disjuncts_code form ds)
  unfolding disjuncts_end disjuncts_code
  disjuncts_end_lem words [] at rest empty e = sym (add-zero at)
  disjuncts_end_lem words (d ∷ ds) at rest (and_one few h hs) e =
      let e' : drop at words ≡ disjunct_code form d ++ (disjuncts_code form ds ++ rest) = e ∙ append_assoc (disjunct_code form d) (disjuncts_code form ds) rest in
      disjuncts_end_lem words ds (at + disjunct_words form columns words at) rest hs (next words at d (disjuncts_code form ds ++ rest) few h e')
      ∙ omega (arith, size words at d (disjuncts_code form ds ++ rest) few h e', length-append (disjunct_code form d) (disjuncts_code form ds))

  pub disjuncts_form : (words : List ℤ) (ds : List Disjunct) (at : ℕ) (rest : List ℤ) → DisjunctsWithin columns ds → drop at words ≡ disjuncts_code form ds ++ rest
      → DisjunctsForm form words columns (length ds) at
  unfolding disjuncts_code
  disjuncts_form words [] at rest empty e = none
  disjuncts_form words (d ∷ ds) at rest (and_one few h hs) e =
      let after : List ℤ = disjuncts_code form ds ++ rest in
      let e' : drop at words ≡ disjunct_code form d ++ after = e ∙ append_assoc (disjunct_code form d) (disjuncts_code form ds) rest in
      more (starts words at d after few h e') (range words at d after few h e') (omega (arith, size words at d after few h e', long words at d after few h e')) (pass words at d after few h e')
      (disjuncts_form words ds (at + disjunct_words form columns words at) rest hs (next words at d after few h e'))

  pub disjuncts_strict_lem : (words : List ℤ) (ds : List Disjunct) (at : ℕ) (rest : List ℤ) → DisjunctsWithin columns ds → drop at words ≡ disjuncts_code form ds ++ rest
      → DisjunctsStrict form words columns (length ds) at
  unfolding disjuncts_code
  disjuncts_strict_lem words [] at rest empty e = none_strict
  disjuncts_strict_lem words (d ∷ ds) at rest (and_one few h hs) e =
      let after : List ℤ = disjuncts_code form ds ++ rest in
      let e' : drop at words ≡ disjunct_code form d ++ after = e ∙ append_assoc (disjunct_code form d) (disjuncts_code form ds) rest in
      more_strict (strict words at d after few h e') (disjuncts_strict_lem words ds (at + disjunct_words form columns words at) rest hs (next words at d after few h e'))

  -- ---- disjuncts that have the form are within their limits

  pub disjuncts_within : {words : List ℤ} {n at : ℕ} → DisjunctsForm form words columns n at → DisjunctsWithin columns (disjuncts_of form columns n (drop at words))
  unfolding disjuncts_of
  disjuncts_within none = empty
  disjuncts_within {words} {at = at} (more {i} starts low ends f g) =
      let r : RowsWithin columns (rows_in form columns (row_count words at) (drop (at + 1) words)) = rows_within form columns words (at + 1) (row_count words at) (omega arith) f in
      let few : length (rows_in form columns (row_count words at) (drop (at + 1) words)) ≤ most_rows = omega (arith, length_in form columns (row_count words at) (drop (at + 1) words), number_most most_rows (word words at)) in
      rw (first_of_lem words i at) (and_one few r (disjuncts_within g))

one_coded : (words : List ℤ) (columns at : ℕ) → at < length words → Between (pos 0) (pos most_rows) (word words at)
    → take (sparse_words columns (row_count words at) (drop (at + 1) words)) (drop (at + 1) words) ≡ rows_code Sparse (sparse_rows_of columns (row_count words at) (drop (at + 1) words))
    → take (disjunct_words Sparse columns words at) (drop at words) ≡ disjunct_code Sparse (sparse_rows_of columns (row_count words at) (drop (at + 1) words))
unfolding disjunct_code
one_coded words columns at starts low rows =
    let taken : ℕ = sparse_words columns (row_count words at) (drop (at + 1) words) in
    let z : word words at ≡ pos (row_count words at) = number_is most_rows most_rows (word words at) (omega arith) low.least low.most in
    let many = length_in Sparse columns (row_count words at) (drop (at + 1) words) in
    take-add 1 taken (drop at words)
    ∙ (ap₂ (λ (k l : List ℤ). k ++ take taken l) (ap (take 1) (drop-cons words at (pos 0) starts)) (drop-drop 1 at words)
    ∙ ap₂ (λ (x : ℤ) (l : List ℤ). x ∷ l) (z ∙ ap pos (sym many)) rows)

pub disjuncts_words : {words : List ℤ} {columns n at : ℕ} → DisjunctsForm Sparse words columns n at → DisjunctsStrict Sparse words columns n at → Coded words columns n at
unfolding disjuncts_of disjuncts_code disjuncts_end
disjuncts_words {at = at} none s = record { size = 0; ends = sym (add-zero at); are = refl }
disjuncts_words {words} {columns} {at = at} (more {i} starts low ends f g) (more_strict rising others) =
    let later = disjuncts_words g others in
    let size : ℕ = disjunct_words Sparse columns words at in
    let rows = rows_words Sparse columns words (at + 1) (row_count words at) (omega arith) f rising in
    record {
      size = size + later.size;
      ends = later.ends ∙ omega arith;
      are =
          take-add size later.size (drop at words)
          ∙ (ap₂ (λ (k l : List ℤ). k ++ l) (one_coded words columns at starts low rows) (ap (take later.size) (drop-drop size at words) ∙ later.are)
          ∙ ap (disjuncts_code Sparse) (sym (first_of_lem Sparse columns words i at)));
    }
