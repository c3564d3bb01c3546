-- Runs of stores where words stand already: those that stand there change nothing, and a run over one that is as long takes its place.
use Rattle.std.specs.Prelude.{◌≡◌, refl, List, [], ◌∷◌, ◌++◌, ℕ, suc, ◌+◌, ◌≤◌, length, take, drop, set}
use Rattle.std.proofs.Common.{sym, ap, ap₂, ◌∙◌, append_assoc, arith, length-append, length-drop, take-append-drop, drop_at, drop-drop, drop-set-lt}
use Rattle.std.proofs.lemmas.List.Edits.{sets, sets-eq}
use Rattle.std.proofs.Math.Seq.{length-sets}
use Rattle.std.proofs.lemmas.List.{take-set-le}

module _ {A : Type 0} where
  module _ (l : List A) (i : ℕ) (xs rest : List A) where
    -- what stands in a list is inside it
    pub spelled_inside : 1 ≤ length xs → drop i l ≡ xs ++ rest → i + length xs ≤ length l
    spelled_inside h e = omega (arith, ap length e, length-append xs rest, length-drop i l)

    pub sets_same : drop i l ≡ xs ++ rest → i + length xs ≤ length l → sets l i xs ≡ l
    sets_same e h =
        let behind : drop (i + length xs) l ≡ rest = sym (drop-drop (length xs) i l) ∙ (ap (drop (length xs)) e ∙ drop_at xs rest (length xs) refl) in
        sets-eq xs l i h
        ∙ (append_assoc (take i l) xs (drop (i + length xs) l) ∙ (ap (λ (k : List A). take i l ++ (xs ++ k)) behind ∙ (ap (λ (k : List A). take i l ++ k) (sym e) ∙ take-append-drop i l)))

  -- what stands behind and before a run
  pub drop_sets : (xs l : List A) (i k : ℕ) → i + length xs ≤ k → drop k (sets l i xs) ≡ drop k l
  drop_sets [] l i k h = refl
  drop_sets (x ∷ xs) l i k h = drop_sets xs (set l i x) (suc i) k (omega arith) ∙ drop-set-lt k l i x (omega arith)

  take_sets : (xs l : List A) (i k : ℕ) → k ≤ i → take k (sets l i xs) ≡ take k l
  take_sets [] l i k h = refl
  take_sets (x ∷ xs) l i k h = take_sets xs (set l i x) (suc i) k (omega arith) ∙ take-set-le k l i x h

  pub sets_over : (xs ys l : List A) (i : ℕ) → length xs ≡ length ys → i + length ys ≤ length l → sets (sets l i xs) i ys ≡ sets l i ys
  sets_over xs ys l i e h =
      sets-eq ys (sets l i xs) i (omega (arith, length-sets l i xs))
      ∙ (ap₂ (λ (a b : List A). a ++ ys ++ b) (take_sets xs l i i (omega arith)) (drop_sets xs l i (i + length ys) (omega arith)) ∙ sym (sets-eq ys l i h))
