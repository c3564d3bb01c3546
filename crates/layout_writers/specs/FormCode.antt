-- What is read in a form, in the words of a form, from a place on: rows and disjuncts. Each is the first and then the others, as a loop that goes
-- through them finds it.
use Rattle.std.specs.Prelude.{◌≡◌, ℕ, suc, ◌+◌, ◌-◌, ◌<◌, ℤ, pos, length, drop, set}
use Rattle.std.proofs.Math.Path.{refl, ap}
use Rattle.std.proofs.Common.{◌∙◌, add-one, drop-drop}
use mathlib.Core.List.{List, [], ◌∷◌, ◌++◌}
use native.Mathlib.Omega.{arith}
use Rattle.std.proofs.Math.Seq.{sets}
use Rattle.words.specs.declared.StoredForm.{StoredForm}
use Rattle.words.specs.StoredRows.{row_in, row_takes, rows_in}
use Rattle.words.proofs.StoredRows.{no_rows_in, first_in, length_in}
use Rattle.words.specs.CodedRows.{code_in, rows_code}
use Rattle.certificates.specs.CertificateWords.{row_count, disjunct_words, disjuncts_of}
use Rattle.layouts.specs.DisjunctCode.{disjunct_code, disjuncts_code}
use Rattle.layouts.proofs.DisjunctCode.{first_of_lem}
use Rattle.layout_writers.specs.Runs.{Cut}

module _ (target form : StoredForm) (columns : ℕ) (rows : List ℤ) where
  -- ---- rows

  abbrev pub row_as : ℕ → List ℤ
  row_as at = code_in target (row_in form columns (drop at rows))

  unfoldable pub rows_as : ℕ → ℕ → List ℤ
  rows_as at n = rows_code target (rows_in form columns n (drop at rows))

  pub rows_none : (at : ℕ) → rows_as at 0 ≡ []
  unfolding rows_as rows_code
  rows_none at = ap (rows_code target) (no_rows_in form columns (drop at rows))

  rows_first : (at n : ℕ) → rows_as at (suc n) ≡ row_as at ++ rows_as (at + row_takes form columns (drop at rows)) n
  unfolding rows_as rows_code
  rows_first at n =
      ap (rows_code target) (first_in form columns n (drop at rows))
      ∙ ap (λ (l : List ℤ). row_as at ++ rows_code target (rows_in form columns n l)) (drop-drop (row_takes form columns (drop at rows)) at rows)

  -- row i, of so many, and those behind it
  pub rows_next : (at i n : ℕ) → i < n → Cut (rows_as at (n - i)) (row_as at) (rows_as (at + row_takes form columns (drop at rows)) (n - (i + 1)))
  rows_next at i n h = let e : n - i ≡ suc (n - (i + 1)) = omega arith in record { is = rw e (rows_first at (n - (i + 1))) }

  -- ---- disjuncts

  unfoldable pub disjuncts_as : ℕ → ℕ → List ℤ
  disjuncts_as at n = disjuncts_code target (disjuncts_of form columns n (drop at rows))

  -- one: its row count, and its rows
  unfoldable pub disjunct_as : ℕ → List ℤ
  disjunct_as at = pos (row_count rows at) ∷ rows_as (at + 1) (row_count rows at)

  pub disjunct_length : (at : ℕ) → length (disjunct_as at) ≡ 1 + length (rows_as (at + 1) (row_count rows at))
  unfolding disjunct_as
  disjunct_length at = omega arith

  pub disjunct_stored : (buffer : List ℤ) (at to : ℕ) → sets (set buffer to (pos (row_count rows at))) (to + 1) (rows_as (at + 1) (row_count rows at)) ≡ sets buffer to (disjunct_as at)
  unfolding disjunct_as
  disjunct_stored buffer at to = ap (λ (i : ℕ). sets (set buffer to (pos (row_count rows at))) i (rows_as (at + 1) (row_count rows at))) (add-one to)

  pub disjuncts_none : (at : ℕ) → disjuncts_as at 0 ≡ []
  unfolding disjuncts_as disjuncts_code disjuncts_of
  disjuncts_none at = refl

  pub disjunct_is : (at : ℕ) → disjunct_code target (rows_in form columns (row_count rows at) (drop (at + 1) rows)) ≡ disjunct_as at
  unfolding disjunct_code disjunct_as rows_as
  disjunct_is at = rw (length_in form columns (row_count rows at) (drop (at + 1) rows))

  disjuncts_first : (at n : ℕ) → disjuncts_as at (suc n) ≡ disjunct_as at ++ disjuncts_as (at + disjunct_words form columns rows at) n
  unfolding disjuncts_as disjuncts_code
  disjuncts_first at n =
      ap (disjuncts_code target) (first_of_lem form columns rows n at)
      ∙ ap (λ (l : List ℤ). l ++ disjuncts_as (at + disjunct_words form columns rows at) n) (disjunct_is at)

  -- disjunct i, of so many, and those behind it
  pub disjuncts_next : (at i n : ℕ) → i < n → Cut (disjuncts_as at (n - i)) (disjunct_as at) (disjuncts_as (at + disjunct_words form columns rows at) (n - (i + 1)))
  disjuncts_next at i n h = let e : n - i ≡ suc (n - (i + 1)) = omega arith in record { is = rw e (disjuncts_first at (n - (i + 1))) }
