-- The difference -1 - x of a signed number: below 0 it is x's size less one, else the number that x is so far below -1. And what a test x < 0 of the
-- code, which has x by its bits, says of x.
use Rattle.std.specs.Prelude.{◌≡◌, ℕ, ◌<◌, ◌^◌, ℤ, pos, negsuc, ◌-ℤ◌}
use Rattle.std.specs.Int.{Width}
use mir.Val.{hbits, to_z, of_z}

-- ---- x and -1 - x by their bits

-- below 0: -1 - x is a number that fits
pub record Below (w : Width) (x : ℤ) : Type 0 where
  pub less : ℕ
  pub small : less < 2 ^ hbits w
  pub is : x ≡ negsuc less
  pub differs : negsuc 0 -ℤ to_z w (of_z w x) ≡ pos less
  pub back : to_z w (of_z w (negsuc 0 -ℤ to_z w (of_z w x))) ≡ pos less

-- else: x is a number that fits
pub record NotBelow (w : Width) (x : ℤ) : Type 0 where
  pub size : ℕ
  pub small : size < 2 ^ hbits w
  pub is : x ≡ pos size
  pub back : to_z w (of_z w x) ≡ pos size
