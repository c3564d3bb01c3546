-- Lists: members by place, members of a flat map, one put in at a place and copies put in anywhere, members with their numbers, what holds of each
-- member, and the list f 1, f 2, .., f n.
use mathlib.Core.List.Memᴰ
use mathlib.Core.List.{List, [], ◌∷◌, ◌++◌}
use Prim.Native.Nat.{ℕ, zero, suc, ◌+◌}

-- ---- one put in

-- at a place, counted from 0, and the later ones behind it; past the end it is the last
unfoldable pub put_in : {A : Type 0} → ℕ → A → List A → List A
put_in zero x ys = x ∷ ys
put_in (suc i) x [] = x ∷ []
put_in (suc i) x (y ∷ ys) = y ∷ put_in i x ys

-- ---- copies put in

-- the second list is the first with so many copies of x put in, anywhere
pub data WithCopies {A : Type 0} (x : A) : ℕ → List A → List A → Type 0 where
  no_copies : WithCopies x 0 [] []
  kept : {n : ℕ} {y : A} {ys zs : List A} → WithCopies x n ys zs → WithCopies x n (y ∷ ys) (y ∷ zs)
  copy : {n : ℕ} {ys zs : List A} → WithCopies x n ys zs → WithCopies x (suc n) ys (x ∷ zs)

-- ---- members with their numbers

module _ {A B : Type 0} where
  unfoldable pub map_from : (ℕ → A → B) → ℕ → List A → List B
  map_from f i [] = []
  map_from f i (x ∷ xs) = f i x ∷ map_from f (suc i) xs

  unfoldable pub flat_map_from : (ℕ → A → List B) → ℕ → List A → List B
  flat_map_from f i [] = []
  flat_map_from f i (x ∷ xs) = f i x ++ flat_map_from f (suc i) xs

-- ---- f 1, f 2, .., f n

-- it grows at its end, as a loop does that counts up
unfoldable pub listed : {A : Type 0} → (ℕ → A) → ℕ → List A
listed f zero = []
listed f (suc i) = listed f i ++ (f (i + 1) ∷ [])

-- f start, f (start + 1), .., so many of them: it grows at its head, as a recursion over a list does
unfoldable pub listed_from : {A : Type 0} → (ℕ → A) → ℕ → ℕ → List A
listed_from f start zero = []
listed_from f start (suc m) = f start ∷ listed_from f (suc start) m

-- ---- the lists f 1, f 2, .., f n, one after the other

unfoldable pub gathered : {A : Type 0} → (ℕ → List A) → ℕ → List A
gathered f zero = []
gathered f (suc i) = gathered f i ++ f (i + 1)

-- ---- what holds of each member

unfoldable pub Each : {A : Type 0} → (A → Type 0) → List A → Type 0
Each P [] = Unit
Each P (x ∷ xs) = P x × Each P xs
