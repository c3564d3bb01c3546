-- Members of a list that are kept, in order, and their new numbers: a kept one is found by its new number, each number is one's, and where all are
-- kept nothing changes.
use Rattle.std.specs.Prelude.{◌≡◌, Bool, length}
use Rattle.std.proofs.Math.Path.{refl}
use Rattle.std.proofs.Common.{ap, ◌∙◌, add-zero}
use Rattle.std.proofs.Math.Bool.{true, false, cond}
use mathlib.Core.List.{List, [], ◌∷◌}
use Prim.Native.Nat.{ℕ, zero, suc, ◌+◌, ◌≤◌, ◌<◌}
use native.Mathlib.Omega.{arith}
use Rattle.std.proofs.Math.Dec.{T}
use Rattle.std.proofs.Math.ListN.{get_elem?}
use Rattle.basics.proofs.Booleans.{is_true, holds}
use Rattle.trimming.specs.KeptMembers.{kept_from, new_from, new_number}

pub kept_fewer : {A : Type 0} (f : ℕ → Bool) (i : ℕ) (xs : List A) → length (kept_from f i xs) ≤ length xs
unfolding kept_from
kept_fewer f i [] = omega arith
kept_fewer f i (x ∷ xs) = go (f i) (kept_fewer f (suc i) xs)
  where
    go : (b : Bool) → length (kept_from f (suc i) xs) ≤ length xs → length (cond b (x ∷ kept_from f (suc i) xs) (kept_from f (suc i) xs)) ≤ suc (length xs)
    go true h = omega arith
    go false h = omega arith

module _ (f : ℕ → Bool) where
  number_from : (j k : ℕ) → new_number f (k + j) ≡ new_number f k + new_from f k j
  unfolding new_number new_from
  number_from zero k = rw (add-zero k) (omega arith)
  number_from (suc j) k = let e : k + suc j ≡ suc k + j = omega arith in rw e (number_from j (suc k) ∙ go (f k))
    where
      go : (b : Bool) → cond b (suc (new_number f k)) (new_number f k) + new_from f (suc k) j ≡ new_number f k + cond b (suc (new_from f (suc k) j)) (new_from f (suc k) j)
      go true = omega arith
      go false = refl

  kept_from_lem : {A : Type 0} (k : ℕ) (xs : List A) (j : ℕ) → f (k + j) ≡ true → get_elem? (kept_from f k xs) (new_from f k j) ≡ get_elem? xs j
  unfolding kept_from new_from
  kept_from_lem k [] j q = refl
  kept_from_lem k (x ∷ xs) zero q = rw (rw (add-zero k) at q)
  kept_from_lem {A} k (x ∷ xs) (suc j) q = go (f k) (kept_from_lem (suc k) xs j (rw (let e : k + suc j ≡ suc k + j = omega arith in e) at q))
    where
      go : (b : Bool) → get_elem? (kept_from f (suc k) xs) (new_from f (suc k) j) ≡ get_elem? xs j
          → get_elem? (cond b (x ∷ kept_from f (suc k) xs) (kept_from f (suc k) xs)) (cond b (suc (new_from f (suc k) j)) (new_from f (suc k) j)) ≡ get_elem? xs j
      go true e = e
      go false e = e

  pub kept_at : {A : Type 0} (xs : List A) (j : ℕ) → T (f j) → get_elem? (kept_from f 0 xs) (new_number f j) ≡ get_elem? xs j
  unfolding new_number
  kept_at xs j t =
      let e : 0 + j ≡ j = omega arith in
      let r : new_number f j ≡ new_from f 0 j = rw e at (number_from j 0) ∙ omega arith in
      rw r (kept_from_lem 0 xs j (rw e (is_true (f j) t)))

  -- ---- each number is a kept one's

  onto_from : {A : Type 0} (k : ℕ) (xs : List A) (m : ℕ) → m < length (kept_from f k xs) → (j : ℕ) × T (f (k + j)) × (new_from f k j ≡ m)
  unfolding kept_from new_from
  onto_from k [] m h = absurd (omega arith)
  onto_from {A} k (x ∷ xs) m h = go (f k) refl m h (λ m' h'. onto_from (suc k) xs m' h')
    where
      next : (b : Bool) → f k ≡ b → (m' : ℕ) → (j : ℕ) × T (f (suc k + j)) × (new_from f (suc k) j ≡ m') → (j : ℕ) × T (f (k + j)) × (new_from f k j ≡ cond b (suc m') m')
      next b q m' (j, t, e) = let s : suc k + j ≡ k + suc j = omega arith in (suc j, rw s at t, unfold new_from in rw (q, e))

      first : f k ≡ true → (j : ℕ) × T (f (k + j)) × (new_from f k j ≡ 0)
      first q = (0, rw (add-zero k) (holds q), unfold new_from in refl)

      go : (b : Bool) → f k ≡ b → (m : ℕ) → m < length (cond b (x ∷ kept_from f (suc k) xs) (kept_from f (suc k) xs))
          → ((m' : ℕ) → m' < length (kept_from f (suc k) xs) → (j : ℕ) × T (f (suc k + j)) × (new_from f (suc k) j ≡ m')) → (j : ℕ) × T (f (k + j)) × (new_from f k j ≡ m)
      go true q zero h r = first q
      go true q (suc m) h r = next true q m (r m (omega arith))
      go false q m h r = next false q m (r m h)

  pub number_onto : {A : Type 0} (xs : List A) (m : ℕ) → m < length (kept_from f 0 xs) → (j : ℕ) × T (f j) × (new_number f j ≡ m)
  unfolding new_number
  number_onto xs m h =
      let (j, t, r) = onto_from 0 xs m h in
      let e : 0 + j ≡ j = omega arith in
      (j, rw e at t, rw e at (number_from j 0) ∙ omega (arith, r))

  -- ---- all are kept

  all_from : {A : Type 0} (k : ℕ) (xs : List A) → ((i : ℕ) → i < length xs → T (f (k + i))) → kept_from f k xs ≡ xs
  unfolding kept_from
  all_from k [] h = refl
  all_from {A} k (x ∷ xs) h =
      let one : f k ≡ true = rw (add-zero k) at (is_true (f (k + 0)) (h 0 (omega arith))) in
      rw one (ap (λ (l : List A). x ∷ l) (all_from (suc k) xs (λ i l. let e : suc k + i ≡ k + suc i = omega arith in rw e (h (suc i) (omega arith)))))

  pub all_kept : {A : Type 0} (xs : List A) → ((i : ℕ) → i < length xs → T (f i)) → kept_from f 0 xs ≡ xs
  all_kept xs h = all_from 0 xs (λ i l. let e : 0 + i ≡ i = omega arith in rw e (h i l))

  pub number_all : (j : ℕ) → ((i : ℕ) → i < j → T (f i)) → new_number f j ≡ j
  unfolding new_number
  number_all zero h = refl
  number_all (suc j) h = rw (is_true (f j) (h j (omega arith))) (ap suc (number_all j (λ i l. h i (omega arith))))
