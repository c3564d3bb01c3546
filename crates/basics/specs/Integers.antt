-- Integers: the laws of an ordered ring that the kit lacks, and the way from a linear fact over ℤ to `omega`.
-- Every number is the difference of two naturals, its halves, of which one is 0: `omega` sees the halves.
use Rattle.std.specs.Prelude.{◌≡◌, ℕ, zero, suc, ◌+◌, ◌-◌, ◌≤◌, ◌<◌, Bool, true, false, not, cond, T, ltb, eqb, ℤ, pos, negsuc, ◌+ℤ◌}
use Rattle.std.proofs.Common.{arith, ltb→lt, nltb→le}
use Rattle.std.proofs.Math.IntN.{sub_ℕ}

-- ---- equality as a Boolean

abbrev pub eq_z : ℤ → ℤ → Bool
eq_z (pos a) (pos b) = eqb a b
eq_z (pos a) (negsuc b) = false
eq_z (negsuc a) (pos b) = false
eq_z (negsuc a) (negsuc b) = eqb a b

-- ---- halves: z = up z - down z

abbrev pub up : ℤ → ℕ
up (pos n) = n
up (negsuc n) = zero

abbrev pub down : ℤ → ℕ
down (pos n) = zero
down (negsuc n) = suc n

sub_halves : (a b : ℕ) → up (sub_ℕ a b) + b ≡ down (sub_ℕ a b) + a
sub_halves a b = go (ltb a b) (λ t. ltb→lt a b t) (λ t. nltb→le a b t)
  where
    go : (c : Bool) → (T c → a < b) → (T (not c) → b ≤ a) → up (cond c (negsuc (b - suc a)) (pos (a - b))) + b ≡ down (cond c (negsuc (b - suc a)) (pos (a - b))) + a
    go true f g = omega (arith, f tt)
    go false f g = omega (arith, g tt)

pub sum : (a b : ℤ) → up (a +ℤ b) + (down a + down b) ≡ down (a +ℤ b) + (up a + up b)
sum (pos a) (pos b) = omega arith
sum (pos a) (negsuc b) = omega (arith, sub_halves a (suc b))
sum (negsuc a) (pos b) = omega (arith, sub_halves b (suc a))
sum (negsuc a) (negsuc b) = omega arith
