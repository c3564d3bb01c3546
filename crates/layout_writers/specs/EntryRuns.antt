-- The entries of a certificate, written one behind the other, with their places: entry i + 1 and those behind it, as a loop over the entries finds
-- them.
use Rattle.std.specs.Prelude.{◌≡◌, ℕ, ◌+◌, ◌-◌, ◌<◌, ℤ, get_or, drop}
use Rattle.std.proofs.Math.Path.{sym, ap}
use Rattle.std.proofs.Common.{◌∙◌, add-one, drop-cons}
use mathlib.Core.List.{List, [], ◌∷◌, ◌++◌}
use Rattle.std.proofs.Math.IntN.{pos}
use Rattle.std.proofs.Math.ListN.{length, length-drop}
use Rattle.std.proofs.Math.Seq.{drop-length}
use Rattle.words.specs.declared.StoredForm.{StoredForm}
use Rattle.certificates.specs.Certificate.{Disjunct}
use Rattle.layouts.specs.DisjunctCode.{disjuncts_code}
use Rattle.layouts.proofs.LayoutLaws as layout
use Rattle.layouts.specs.Layout.{entries_code, places_from}
use Rattle.layout_writers.specs.Runs.{Cut}

module _ (form : StoredForm) (es : List (List Disjunct)) where
  -- the row words of the entries behind i, and their places, where the first is `at`
  unfoldable pub entries_left : ℕ → List ℤ
  entries_left i = entries_code form (drop i es)

  unfoldable pub places_left : ℕ → ℕ → List ℤ
  places_left i at = places_from form at (drop i es)

  -- ---- none are left

  left : {i : ℕ} → length es ≡ i → drop i es ≡ []
  left e = ap (λ (n : ℕ). drop n es) (sym e) ∙ drop-length es

  pub entries_none : {i : ℕ} → length es ≡ i → entries_left i ≡ []
  unfolding entries_left entries_code
  entries_none e = ap (entries_code form) (left e)

  pub places_none : {i : ℕ} (at : ℕ) → length es ≡ i → places_left i at ≡ []
  unfolding places_left places_from
  places_none at e = ap (places_from form at) (left e)

  pub places_length : (i at : ℕ) → length (places_left i at) ≡ length es - i
  unfolding places_left
  places_length i at = layout.length_places form (drop i es) at ∙ length-drop i es

  -- ---- entry i + 1, whose words are known, and those behind it

  module _ (i : ℕ) (h : i < length es) {part : List ℤ} (e : disjuncts_code form (get_or es i []) ≡ part) where
    next : drop i es ≡ get_or es i [] ∷ drop (i + 1) es
    next = drop-cons es i [] h ∙ ap (λ (j : ℕ). get_or es i [] ∷ drop j es) (sym (add-one i))

    pub entries_next : Cut (entries_left i) part (entries_left (i + 1))
    unfolding entries_left entries_code
    entries_next = record { is = ap (entries_code form) next ∙ ap (λ (l : List ℤ). l ++ entries_code form (drop (i + 1) es)) e }

    pub places_next : (at : ℕ) {size : ℕ} → size ≡ length part → places_left i at ≡ pos at ∷ places_left (i + 1) (at + size)
    unfolding places_left places_from
    places_next at s = ap (places_from form at) next ∙ ap (λ (n : ℕ). pos at ∷ places_from form (at + n) (drop (i + 1) es)) (ap length e ∙ sym s)
