-- Members of a list that are kept, in order, and their new numbers: a kept one is found by its new number, each number is one's, and where all are
-- kept nothing changes.
use Rattle.std.specs.Prelude.{Bool}
use Rattle.std.proofs.Math.Bool.{cond}
use mathlib.Core.List.{List, [], ◌∷◌}
use Prim.Native.Nat.{ℕ, zero, suc, ◌+◌}

-- "Kept disjuncts stay in order": the members whose numbers, counted from i, are kept
unfoldable pub kept_from : {A : Type 0} → (ℕ → Bool) → ℕ → List A → List A
kept_from f i [] = []
kept_from f i (x ∷ xs) = cond (f i) (x ∷ kept_from f (suc i) xs) (kept_from f (suc i) xs)

-- "numbers are adjusted": a kept one's is how many kept ones stand before it
unfoldable pub new_number : (ℕ → Bool) → ℕ → ℕ
new_number f zero = 0
new_number f (suc j) = cond (f j) (suc (new_number f j)) (new_number f j)

-- ---- a kept member by its new number

-- how many of the numbers k, k + 1, .., so many, are kept
unfoldable pub new_from : (ℕ → Bool) → ℕ → ℕ → ℕ
new_from f k zero = 0
new_from f k (suc j) = cond (f k) (suc (new_from f (suc k) j)) (new_from f (suc k) j)
