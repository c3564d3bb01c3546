-- Sizes of integers: what a bound on them in ℕ says of a sum and a product.
use Rattle.std.specs.Prelude.{◌≡◌, refl, Bool, true, false, cond, ℕ, zero, suc, ◌+◌, ◌*◌, ◌-◌, ◌≤◌, ◌<◌, ◌^◌, ltb, ℤ, pos, negsuc, neg_ℤ, nat_abs, ◌+ℤ◌, ◌*ℤ◌}
use Rattle.std.proofs.Common.{le_refl, lt_of_le_of_lt, mul-le-mul, arith, ltb-true, SFits, to_z, of_z, to_z-of_z}
use Rattle.std.proofs.Math.IntN.{sub_ℕ}
use Rattle.std.specs.Int.Signed.{mag}
use Rattle.std.specs.Int.{w64}

mag≤ : (z : ℤ) → mag z ≤ nat_abs z
mag≤ (pos n) = le_refl n
mag≤ (negsuc n) = omega arith

pub sfits_size : (z : ℤ) → nat_abs z < 2 ^ 63 → SFits w64 z
sfits_size z h = record { sfits = lt_of_le_of_lt (mag≤ z) h }

sub_by : (a b : ℕ) (t : Bool) → ltb a b ≡ t → nat_abs (cond t (negsuc (b - suc a)) (pos (a - b))) ≤ a + b
sub_by a b true p = let h : a < b = ltb-true a b p in omega arith
sub_by a b false p = omega arith

pub size_sum : (x y : ℤ) → nat_abs (x +ℤ y) ≤ nat_abs x + nat_abs y
size_sum (pos a) (pos b) = le_refl (a + b)
size_sum (pos a) (negsuc b) = sub_by a (suc b) (ltb a (suc b)) refl
size_sum (negsuc a) (pos b) = let h : nat_abs (sub_ℕ b (suc a)) ≤ b + suc a = sub_by b (suc a) (ltb b (suc a)) refl in omega arith
size_sum (negsuc a) (negsuc b) = omega arith

size_neg : (n : ℕ) → nat_abs (neg_ℤ (pos n)) ≡ n
size_neg zero = refl
size_neg (suc n) = refl

pub size_product : (x y : ℤ) → nat_abs (x *ℤ y) ≡ nat_abs x * nat_abs y
size_product (pos a) (pos b) = refl
size_product (pos a) (negsuc b) = size_neg (a * suc b)
size_product (negsuc a) (pos b) = size_neg (suc a * b)
size_product (negsuc a) (negsuc b) = refl

-- one more summand of a weighted sum: at most p for the sum so far, and x times y for the product
pub more_fits : {p x y : ℕ} (sum m a : ℤ) → nat_abs sum ≤ p → nat_abs m ≤ x → nat_abs a ≤ y → nat_abs (sum +ℤ m *ℤ a) ≤ p + x * y
more_fits {p} {x} {y} sum m a hs hm ha =
    let h : nat_abs m * nat_abs a ≤ x * y = mul-le-mul hm ha in
    omega (arith, size_sum sum (m *ℤ a), size_product m a)

-- a signed number is read back from its bits as it is; the bound is what a call's `.ok` and an element's `.given` say
pub back64 : {z : ℤ} → mag z < 2 ^ 63 → to_z w64 (of_z w64 z) ≡ z
back64 h = to_z-of_z {w = w64} (record { sfits = h })
