-- The entries of a certificate in the words of the other form, with their places: entry i + 1 and those behind it, as a loop over the entries finds
-- them.
use Rattle.std.specs.Prelude.{◌≡◌, List, [], ◌∷◌, ℕ, ◌+◌, ◌-◌, ◌<◌, ℤ, pos, length, get_or}
use Rattle.std.proofs.Math.Path.{ap}
use Rattle.std.proofs.Common.{◌∙◌, arith}
use Rattle.words.specs.declared.StoredForm.{StoredForm}
use Rattle.certificates.specs.Certificate.{Disjunct}
use Rattle.certificates.specs.CertificateWords.{entries, entry, row_words, edge_columns, entry_count, entry_place, count_of, place_of}
use Rattle.layouts.specs.DisjunctCode.{disjuncts_code}
use Rattle.layouts.specs.OwnWords.{all_entries}
use Rattle.layouts.proofs.OwnWords.{length_all, entry_nth}
use Rattle.conversions.specs.Conversions.{other_form}
use Rattle.layout_writers.specs.FormCode.{disjuncts_as}
use Rattle.layout_writers.specs.OtherCode.{disjuncts_other}
use Rattle.layout_writers.specs.Runs.{Cut}
use Rattle.layout_writers.specs.EntryRuns.{entries_left, places_left}
use Rattle.layout_writers.specs.EntryRuns as runs

module _ (program witness : List ℤ) (form : StoredForm) where
  abbrev all : List (List Disjunct)
  all = all_entries program witness form

  -- the row words of the entries behind i, and their places, where the first is `at`
  abbrev pub entries_other : ℕ → List ℤ
  entries_other i = entries_left (other_form form) all i

  abbrev pub places_other : ℕ → ℕ → List ℤ
  places_other i at = places_left (other_form form) all i at

  pub entries_none : entries_other (entries program witness) ≡ []
  entries_none = runs.entries_none (other_form form) all (length_all program witness form)

  pub places_none : (at : ℕ) → places_other (entries program witness) at ≡ []
  places_none at = runs.places_none (other_form form) all at (length_all program witness form)

  pub places_length : (i at : ℕ) → length (places_other i at) ≡ entries program witness - i
  places_length i at = runs.places_length (other_form form) all i at ∙ ap (λ (n : ℕ). n - i) (length_all program witness form)

  -- ---- entry i + 1, and those behind it

  module _ (i : ℕ) (h : i < entries program witness) where
    inside : i < length all
    inside = omega (arith, length_all program witness form)

    module _ {rows : List ℤ} {m columns count place : ℕ} (r : rows ≡ row_words program witness) (c : columns ≡ edge_columns program witness (i + 1)) (n : count ≡ count_of witness (i + 1))
        (e : m ≡ entries program witness) (p : place ≡ place_of witness m (i + 1)) where
      entry_is : disjuncts_code (other_form form) (get_or all i []) ≡ disjuncts_other form columns rows place count
      unfolding disjuncts_as entry entry_count entry_place
      entry_is = ap (disjuncts_code (other_form form)) (entry_nth program witness form i h) ∙ rw (r, c, n, p, e)

      pub entries_next : Cut (entries_other i) (disjuncts_other form columns rows place count) (entries_other (i + 1))
      entries_next = runs.entries_next (other_form form) all i inside entry_is

      pub places_next : (at : ℕ) {size : ℕ} → size ≡ length (disjuncts_other form columns rows place count) → places_other i at ≡ pos at ∷ places_other (i + 1) (at + size)
      places_next at s = runs.places_next (other_form form) all i inside entry_is at s
