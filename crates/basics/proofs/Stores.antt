-- Runs of stores in a list, `sets` of the kit: two that stand one behind the other are one run, two that are apart may come in either order, a store
-- within a run is one in what the run stores, and what stands before and behind a run is as it was.
use Rattle.std.specs.Prelude.{◌≡◌, refl, List, [], ◌∷◌, ◌++◌, ℕ, zero, suc, ◌+◌, ◌≤◌, ◌<◌, length, get_or, take, drop, set}
use Rattle.std.proofs.Common.{sym, ap, ◌∙◌, append_assoc, add-zero, zero-add, arith, set-set, get_or-set_other, get_or-drop, drop_at, length-take-le}
use Rattle.std.proofs.Math.ListN.{get_or-append}
use Rattle.std.proofs.lemmas.List.Edits.{sets, sets-eq}
use Rattle.std.proofs.lemmas.List.{set_comm}

module _ {A : Type 0} where
  pub sets_append : (xs ys l : List A) (i : ℕ) → sets (sets l i xs) (i + length xs) ys ≡ sets l i (xs ++ ys)
  sets_append [] ys l i = rw (add-zero i)
  sets_append (x ∷ xs) ys l i = let e : i + suc (length xs) ≡ suc i + length xs = omega arith in rw e (sets_append xs ys (set l i x) (suc i))

  -- one more
  pub sets_next : (xs l : List A) (i : ℕ) (x : A) → set (sets l i xs) (i + length xs) x ≡ sets l i (xs ++ x ∷ [])
  sets_next xs l i x = sets_append xs (x ∷ []) l i

  -- ---- apart

  set_apart : (ys l : List A) (i j : ℕ) (x : A) → i < j → set (sets l j ys) i x ≡ sets (set l i x) j ys
  set_apart [] l i j x h = refl
  set_apart (y ∷ ys) l i j x h = set_apart ys (set l j y) i (suc j) x (omega arith) ∙ ap (λ (k : List A). sets k (suc j) ys) (set_comm l j i y x (λ e. omega arith))

  pub sets_apart : (xs ys l : List A) (i j : ℕ) → i + length xs ≤ j → sets (sets l j ys) i xs ≡ sets (sets l i xs) j ys
  sets_apart [] ys l i j h = refl
  sets_apart (x ∷ xs) ys l i j h =
      let one : i < j = omega arith in
      ap (λ (k : List A). sets k (suc i) xs) (set_apart ys l i j x one) ∙ sets_apart xs ys (set l i x) (suc i) j (omega arith)

  -- ---- within a run

  pub set_within : (vs l : List A) (i c : ℕ) (x : A) → c < length vs → set (sets l i vs) (i + c) x ≡ sets l i (set vs c x)
  set_within [] l i c x h = absurd (omega arith)
  set_within (v ∷ vs) l i zero x h =
      rw (add-zero i) (set_apart vs (set l i v) i (suc i) x (omega arith) ∙ ap (λ (k : List A). sets k (suc i) vs) (set-set l i v x))
  set_within (v ∷ vs) l i (suc c) x h = let e : i + suc c ≡ suc i + c = omega arith in rw e (set_within vs (set l i v) (suc i) c x (omega arith))

  -- ---- at the front

  pub sets_front : (xs l : List A) → length xs ≤ length l → sets l 0 xs ≡ xs ++ drop (length xs) l
  sets_front xs l h = let e : 0 + length xs ≡ length xs = zero-add (length xs) in sets-eq xs l 0 (omega arith) ∙ rw e

  -- ---- what is read afterwards

  pub sets_before : (xs l : List A) (i j : ℕ) (d : A) → j < i → get_or (sets l i xs) j d ≡ get_or l j d
  sets_before [] l i j d h = refl
  sets_before (x ∷ xs) l i j d h = sets_before xs (set l i x) (suc i) j d (omega arith) ∙ get_or-set_other l i j x d (λ e. omega arith)

  pub sets_behind : (xs l : List A) (i j : ℕ) (d : A) → i + length xs ≤ j → get_or (sets l i xs) j d ≡ get_or l j d
  sets_behind [] l i j d h = refl
  sets_behind (x ∷ xs) l i j d h = sets_behind xs (set l i x) (suc i) j d (omega arith) ∙ get_or-set_other l i j x d (λ e. omega arith)

  pub sets_here : (xs l : List A) (i : ℕ) → i + length xs ≤ length l → drop i (sets l i xs) ≡ xs ++ drop (i + length xs) l
  sets_here xs l i h =
      ap (drop i) (sets-eq xs l i h ∙ append_assoc (take i l) xs (drop (i + length xs) l)) ∙ drop_at (take i l) (xs ++ drop (i + length xs) l) i (length-take-le i l (omega arith))

  pub sets_in : (xs l : List A) (i j : ℕ) (d : A) → i + length xs ≤ length l → j < length xs → get_or (sets l i xs) (i + j) d ≡ get_or xs j d
  sets_in xs l i j d h k = sym (get_or-drop i (sets l i xs) j d) ∙ (ap (λ (r : List A). get_or r j d) (sets_here xs l i h) ∙ get_or-append xs (drop (i + length xs) l) d j k)
