-- A signed test brought to ℕ: by the sign of the number.
use mathlib.Core.Path.{◌≡◌, refl}
use mathlib.Core.Bool.{true, false}
use Prim.Native.Nat.{ℕ, ◌<◌}
use native.Mathlib.Omega.{arith}
use borrow.Author.Tests.{ltb-true}
use lib.IntN.{ℤ, pos, negsuc, nat_abs}
use lib.Signed.{lt_z}
use Rattle.reading.specs.Reading.{natural}
use Rattle.std.specs.Prelude.{Some, None}

pub neg_out : (x : ℤ) → lt_z x (pos 0) ≡ true → None ≡ natural x
neg_out (pos n) p = absurd (let h : n < 0 = ltb-true n 0 p in omega arith)
neg_out (negsuc n) p = refl

pub pos_in : (x : ℤ) → lt_z x (pos 0) ≡ false → Some (nat_abs x) ≡ natural x
pos_in (pos n) p = refl
pos_in (negsuc n) p = absurd (let z : ◌≡◌ {A = ℕ} 0 1 = cc in omega arith)
