-- What is read in a form, in the words of the other one: rows and disjuncts from a place on.
use Rattle.std.specs.Prelude.{List, ℕ, ℤ}
use Rattle.words.specs.declared.StoredForm.{StoredForm}
use Rattle.conversions.specs.Conversions.{other_form}
use Rattle.layout_writers.specs.FormCode.{row_as, rows_as, disjunct_as, disjuncts_as}

module _ (form : StoredForm) where
  abbrev pub row_other : ℕ → List ℤ → ℕ → List ℤ
  row_other = row_as (other_form form) form

  abbrev pub rows_other : ℕ → List ℤ → ℕ → ℕ → List ℤ
  rows_other = rows_as (other_form form) form

  abbrev pub disjunct_other : ℕ → List ℤ → ℕ → List ℤ
  disjunct_other = disjunct_as (other_form form) form

  abbrev pub disjuncts_other : ℕ → List ℤ → ℕ → ℕ → List ℤ
  disjuncts_other = disjuncts_as (other_form form) form
