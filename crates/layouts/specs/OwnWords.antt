-- "so one certificate has one sparse sheet": the words of a sparse certificate that has the form are the layout of its entries and its witness
-- words. And the entries of a certificate that has the form, dense or sparse, are within their limits, and its counts are their lengths.
use Rattle.std.specs.Prelude.{◌≡◌, ℤ, length}
use mathlib.Core.List.{List}
use Prim.Native.Nat.{ℕ, ◌-◌, ◌≤◌}
use Rattle.std.proofs.Math.ListN.{take}
use Rattle.basics.specs.Lists.{listed}
use Rattle.words.specs.declared.StoredForm.{StoredForm}
use Rattle.words.specs.declared.StoredForm.TheVariants.{Sparse}
use Rattle.certificates.specs.Certificate.{Disjunct}
use Rattle.certificates.specs.CertificateWords.{entries, row_words, entry, next_free}
use Rattle.certificates.specs.CertificateForm.{FormIn}
use Rattle.layouts.specs.Layout.{entries_code}

module _ (program witness : List ℤ) (form : StoredForm) where
  abbrev pub all_entries : List (List Disjunct)
  all_entries = listed (entry program witness form) (entries program witness)

-- ---- a sparse certificate that has the form

module _ (program witness : List ℤ) (f : FormIn program witness Sparse) where
  abbrev pub rows : List ℤ
  rows = row_words program witness

  abbrev pub entry_of : ℕ → List Disjunct
  entry_of i = entry program witness Sparse i

  abbrev pub free : ℕ → ℕ
  free i = next_free program witness Sparse i

  -- the first i entries are the front of the row words
  pub record Front (i : ℕ) : Type 0 where
    pub few : free i ≤ length rows
    pub is : take (free i) rows ≡ entries_code Sparse (listed entry_of i)

  -- ---- part by part

  abbrev pub all : List (List Disjunct)
  all = all_entries program witness Sparse

  abbrev pub count : ℕ
  count = entries program witness
