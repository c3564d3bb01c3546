-- The difference -1 - x of a signed number: below 0 it is x's size less one, else the number that x is so far below -1. And what a test x < 0 of the
-- code, which has x by its bits, says of x.
use Rattle.std.specs.Prelude.{◌≡◌, refl, Bool, true, false, cond, not, ℕ, zero, suc, ◌-◌, ℤ, pos, negsuc, ◌-ℤ◌, T, ◌<ℤ◌, ◌≤ℤ◌}
use Rattle.std.proofs.Common.{sym, ap, subst, ◌∙◌, zero-add, zero-lt-suc, not-suc-le-zero, sub-one, le-ltb, ltb→lt}
use Rattle.std.specs.Int.Signed.{lt_z, lt_z_yes, lt_z_no}
use Rattle.std.specs.Int.{Width}
use mir.Val.{SFits, to_z, of_z}
use Rattle.std.proofs.lemmas.Int.{to_z-of_z}
use Rattle.plan_text.specs.SignedLaws.{Below, NotBelow}

pub under : (m : ℕ) → negsuc 0 -ℤ pos m ≡ negsuc m
under zero = refl
under (suc n) = ap (λ (k : ℕ). negsuc (suc k)) (zero-add n)

over : (m : ℕ) → negsuc 0 -ℤ negsuc m ≡ pos m
over m = ap (λ (b : Bool). cond b (negsuc (1 - suc (suc m))) (pos (suc m - 1))) (le-ltb (suc m) 1 (zero-lt-suc m)) ∙ ap pos (sub-one (suc m))

below_by : (w : Width) (x : ℤ) → SFits w x → x <ℤ pos 0 → Below w x
below_by w (pos n) f h = absurd (not-suc-le-zero (ltb→lt n 0 h.lt))
below_by w (negsuc n) f h =
    let e = ap (λ (z : ℤ). negsuc 0 -ℤ z) (to_z-of_z w (negsuc n) f) ∙ over n in
    record { less = n; small = f.sfits; is = refl; differs = e; back = ap (λ (z : ℤ). to_z w (of_z w z)) e ∙ to_z-of_z w (pos n) (record { sfits = f.sfits }) }

not_below_by : (w : Width) (x : ℤ) → SFits w x → pos 0 ≤ℤ x → NotBelow w x
not_below_by w (pos n) f h = record { size = n; small = f.sfits; is = refl; back = to_z-of_z w (pos n) f }
not_below_by w (negsuc n) f h = absurd h.le

module _ (w : Width) (x : ℤ) (f : SFits w x) where
  pub below : lt_z (to_z w (of_z w x)) (pos 0) ≡ true → Below w x
  below t = below_by w x f (subst (λ (z : ℤ). z <ℤ pos 0) (to_z-of_z w x f) (lt_z_yes (subst T (sym t) tt)))

  pub not_below_lem : lt_z (to_z w (of_z w x)) (pos 0) ≡ false → NotBelow w x
  not_below_lem t = not_below_by w x f (subst (λ (z : ℤ). pos 0 ≤ℤ z) (to_z-of_z w x f) (lt_z_no (subst (λ (b : Bool). T (not b)) (sym t) tt)))
