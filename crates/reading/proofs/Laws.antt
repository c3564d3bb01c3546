-- Laws of words.
use mathlib.Core.Path.{◌≡◌, refl}
use mathlib.Core.Bool.{false, cond, ◌&&◌}
use Prim.Native.Nat.{ℕ}
use native.Mathlib.Omega.{arith}
use borrow.Author.Tests.{le-leb}
use lib.Dec.{leb, ltb}
use lib.IntN.{ℤ, pos, negsuc}
use Rattle.reading.specs.Reading.{natural}
use Rattle.std.specs.Prelude.{Some, None}
use Rattle.std.specs.Option.{option_map_or}
use Rattle.words.specs.Words.{within, below, number}

pub within_natural : (lo hi : ℕ) (z : ℤ) → within lo hi z ≡ option_map_or (λ m. leb lo m && leb m hi) (natural z) false
unfolding within
within_natural lo hi (pos k) = refl
within_natural lo hi (negsuc k) = refl

pub below_natural : (hi : ℕ) (z : ℤ) → below hi z ≡ option_map_or (λ m. ltb m hi) (natural z) false
unfolding below
below_natural hi (pos k) = refl
below_natural hi (negsuc k) = refl

pub below_in : (hi : ℕ) (z : ℤ) (m : ℕ) → natural z ≡ Some m → below hi z ≡ ltb m hi
unfolding below
below_in hi (pos k) m e = let q : k ≡ m = cc in rw q refl
below_in hi (negsuc k) m e = absurd (let z : ◌≡◌ {A = ℕ} 0 1 = cc in omega arith)

pub below_out : (hi : ℕ) (z : ℤ) → natural z ≡ None → below hi z ≡ false
unfolding below
below_out hi (pos k) e = absurd (let z : ◌≡◌ {A = ℕ} 0 1 = cc in omega arith)
below_out hi (negsuc k) e = refl

pub number_in : (most : ℕ) (z : ℤ) (m : ℕ) → natural z ≡ Some m → number most z ≡ cond (leb m most) m 0
unfolding number
number_in most (pos k) m e = let q : k ≡ m = cc in rw q refl
number_in most (negsuc k) m e = absurd (let z : ◌≡◌ {A = ℕ} 0 1 = cc in omega arith)

pub number_out : (most : ℕ) (z : ℤ) → natural z ≡ None → number most z ≡ 0
unfolding number
number_out most (pos k) e = absurd (let z : ◌≡◌ {A = ℕ} 0 1 = cc in omega arith)
number_out most (negsuc k) e = refl

pub number_zero : (most : ℕ) → number most (pos 0) ≡ 0
unfolding number
number_zero most = simp (le-leb 0 most (omega arith))
