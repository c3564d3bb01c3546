-- Which disjuncts of an entry are kept, from the entry's bytes on, and a disjunct's new number counted byte by byte.
use Rattle.std.specs.Prelude.{◌≡◌, refl, Bool, true, false, cond, List, ℕ, zero, suc, ◌+◌, ◌≤◌, eqb, get_or}
use Rattle.std.proofs.Common.{add-one, arith, eq-eqb, ne_eqb}
use Rattle.trimming.specs.KeptMembers.{new_number}

-- the byte of disjunct j is 1
unfoldable pub flagged : List ℕ → ℕ → Bool
flagged flags j = eqb (get_or flags j 0) 1

pub number_none : (f : ℕ → Bool) → new_number f 0 ≡ 0
unfolding new_number
number_none f = refl

pub number_most : (f : ℕ → Bool) (j : ℕ) → new_number f j ≤ j
unfolding new_number
number_most f zero = omega arith
number_most f (suc j) = go (f j) (number_most f j)
  where
    go : (b : Bool) → new_number f j ≤ j → cond b (suc (new_number f j)) (new_number f j) ≤ suc j
    go true h = omega arith
    go false h = omega arith

-- one byte more
pub number_kept : (flags : List ℕ) (i : ℕ) → get_or flags i 0 ≡ 1 → new_number (flagged flags) (i + 1) ≡ new_number (flagged flags) i + 1
unfolding new_number flagged
number_kept flags i e = rw (add-one i, add-one (new_number (flagged flags) i), eq-eqb (get_or flags i 0) 1 e)

pub number_passed : (flags : List ℕ) (i : ℕ) → (get_or flags i 0 ≡ 1 → ⊥) → new_number (flagged flags) (i + 1) ≡ new_number (flagged flags) i
unfolding new_number flagged
number_passed flags i e = rw (add-one i, ne_eqb (get_or flags i 0) 1 e)
