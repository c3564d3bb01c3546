-- Words within ±limit: the test by two bounds, and words past the end, which are 0 and pass it.
use mathlib.Core.Path.{◌≡◌, refl, sym, ap, ◌∙◌}
use mathlib.Core.Bool.{Bool, true, false, ◌&&◌}
use mathlib.Core.List.{List}
use Prim.Native.Nat.{ℕ, zero, suc, ◌+◌, ◌-◌, ◌≤◌, ◌<◌, ◌^◌}
use native.Mathlib.Nat.{add-zero, add-suc}
use native.Mathlib.Omega.{arith}
use borrow.Author.Tests.{le-leb, lt-leb}
use lib.Dec.{leb, leb-suc-suc}
use lib.IntN.{ℤ, pos, negsuc, neg_ℤ, nat_abs, ◌-ℤ◌, +ℤ_idl}
use lib.ListN.{length, get_or-eq_default}
use lib.Signed.{le_z, nat_abs-le}
use mir.Syntax.{w32}
use mir.Val.{SFits}
use Rattle.words.specs.Words.{word, small, all_small}

and-true : (a : Bool) → (a && true) ≡ a
and-true true = refl
and-true false = refl

-- ---- two bounds

between : (limit : ℕ) (z : ℤ) → (le_z (neg_ℤ (pos limit)) z && le_z z (pos limit)) ≡ small limit z
unfolding small
between zero (pos m) = ap (λ (b : Bool). b && leb m 0) (le-leb 0 m (omega arith))
between zero (negsuc m) = sym (lt-leb (suc m) 0 (omega arith))
between (suc n) (pos m) = refl
between (suc n) (negsuc m) = and-true (leb m n) ∙ sym (leb-suc-suc m n)

pub small_bounds : (limit : ℕ) (z : ℤ) → (le_z (pos 0 -ℤ pos limit) z && le_z z (pos limit)) ≡ small limit z
small_bounds limit z = ap (λ (low : ℤ). le_z low z && le_z z (pos limit)) (+ℤ_idl (neg_ℤ (pos limit))) ∙ between limit z

-- the lower one is a word where the limit is
low_by : (limit : ℕ) → limit < 2 ^ 31 → SFits w32 (neg_ℤ (pos limit))
low_by zero h = record { sfits = omega arith }
low_by (suc n) h = record { sfits = omega arith }

pub low_fits : (limit : ℕ) → limit < 2 ^ 31 → SFits w32 (pos 0 -ℤ pos limit)
low_fits limit h = rw (+ℤ_idl (neg_ℤ (pos limit))) (low_by limit h)

-- a limit that no word passes
pub small_any : (limit : ℕ) (z : ℤ) → SFits w32 z → 2 ^ 31 ≤ limit → small limit z ≡ true
unfolding small
small_any limit z f h = let k : nat_abs z ≤ 2 ^ 31 = nat_abs-le z f.sfits in le-leb (nat_abs z) limit (omega arith)

-- ---- past the end

module _ (words : List ℤ) (limit : ℕ) where
  pub small_past : (i : ℕ) → length words ≤ i → small limit (word words i) ≡ true
  unfolding small
  small_past i h = ap (small limit) (get_or-eq_default words (pos 0) h) ∙ le-leb 0 limit (omega arith)

  one_past : (at n : ℕ) → length words ≤ at + n → all_small words limit at (suc n) ≡ all_small words limit at n
  unfolding all_small
  one_past at n h = ap (λ (b : Bool). all_small words limit at n && b) (small_past (at + n) h) ∙ and-true (all_small words limit at n)

  more_past : (at n m : ℕ) → length words ≤ at + n → all_small words limit at (n + m) ≡ all_small words limit at n
  more_past at n zero h = ap (all_small words limit at) (add-zero n)
  more_past at n (suc m) h = ap (all_small words limit at) (add-suc n m) ∙ (one_past at (n + m) (omega arith) ∙ more_past at n m h)

  -- the words up to the end say it of all
  pub all_inside : (at n count : ℕ) → length words ≤ at + n → n ≤ count → all_small words limit at n ≡ all_small words limit at count
  all_inside at n count h l =
      let e : n + (count - n) ≡ count = omega arith in sym (more_past at n (count - n) h) ∙ ap (all_small words limit at) e

  -- and if there are none, it holds
  pub none_inside : (at count : ℕ) → length words ≤ at → true ≡ all_small words limit at count
  unfolding all_small
  none_inside at count h = all_inside at 0 count (omega arith) (omega arith)
