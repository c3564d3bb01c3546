-- Numbers of a list that are not larger than b: at an index, after a store, in a part from the front.
use Prim.Native.Nat.{ℕ, zero, suc, ◌≤◌, zero-le}
use mathlib.Core.List.{List, [], ◌∷◌}
use Rattle.std.specs.Prelude.{ℤ, pos, nat_abs, get_or, set, take}
use Rattle.numbers.specs.Small.{Small}

module _ (b : ℕ) where
  pub small_at : (l : List ℤ) → Small b l → (i : ℕ) → nat_abs (get_or l i (pos 0)) ≤ b
  unfolding Small
  small_at [] h i = zero-le
  small_at (x ∷ l) h zero = h.0
  small_at (x ∷ l) h (suc i) = small_at l h.1 i

  pub small_set : (l : List ℤ) (i : ℕ) (x : ℤ) → nat_abs x ≤ b → Small b l → Small b (set l i x)
  unfolding Small
  small_set [] i x hx h = tt
  small_set (y ∷ l) zero x hx h = (hx, h.1)
  small_set (y ∷ l) (suc i) x hx h = (h.0, small_set l i x hx h.1)

  pub small_take : (n : ℕ) (l : List ℤ) → Small b l → Small b (take n l)
  unfolding Small
  small_take zero l h = tt
  small_take (suc n) [] h = tt
  small_take (suc n) (x ∷ l) h = (h.0, small_take n l h.1)
