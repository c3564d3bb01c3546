-- ROUNDING TO WHOLE NUMBERS: which constants fit a row. From k + d × x ≤ 0 it follows for every whole number x that c + x ≤ 0 just where k is
-- at least d × (c − 1) + 1: with that constant x can't be 1 − c or more, and with a smaller one x = 1 − c meets the first and not the second.
use Rattle.std.specs.Prelude.{◌≡◌, refl, ◌↔◌, Bool, not, ℕ, ◌≤◌, ℤ, negsuc, neg_ℤ, ◌+ℤ◌, ◌-ℤ◌, ◌*ℤ◌, ◌≤ℤ◌, ◌<ℤ◌}
use Rattle.std.proofs.Common.{sym, ◌∙◌, subst, arith}
use Rattle.std.proofs.Math.Bool.{true, false}
use Rattle.std.proofs.Math.Dec.{T}
use Rattle.std.proofs.Math.IntN.{pos, *ℤ-zero}
use Rattle.std.specs.Int.Signed.{le_z, le_z_yes}
use Rattle.basics.specs.Integers.{sum}
use Rattle.basics.proofs.Integers.{ints, ring, negation, times, *ℤ_dist_l, nle_z→lt}
use Rattle.rows.specs.Rows.{fits_constant}
use Rattle.rows.specs.Rounding.{least, not_below}

module _ (d : ℕ) (c k : ℤ) where
  -- a multiple that is below 0 is one of a number below 0
  below : (u : ℤ) → (pos d *ℤ u +ℤ pos 1) ≤ℤ pos 0 → (u +ℤ pos 1) ≤ℤ pos 0
  below (pos n) h = absurd (omega (arith, ints, sum (pos d *ℤ pos n) (pos 1), times d (pos n)))
  below (negsuc n) h = omega (arith, ints, sum (negsuc n) (pos 1))

  enough : ((least d c k) +ℤ pos 1) ≤ℤ k → (x : ℤ) → (k +ℤ pos d *ℤ x) ≤ℤ pos 0 → (c +ℤ x) ≤ℤ pos 0
  enough p x q =
      let shift : ((c -ℤ pos 1) +ℤ x) +ℤ pos 1 ≡ c +ℤ x = simp ring in
      subst (λ (z : ℤ). z ≤ℤ pos 0) shift
      (below ((c -ℤ pos 1) +ℤ x) (rw *ℤ_dist_l (omega (arith, ints, sum (least d c k) (pos 1), sum (least d c k) (pos d *ℤ x), sum ((least d c k) +ℤ pos d *ℤ x) (pos 1), sum k (pos d *ℤ x)))))

  needed : k <ℤ ((least d c k) +ℤ pos 1) → ((x : ℤ) → (k +ℤ pos d *ℤ x) ≤ℤ pos 0 → (c +ℤ x) ≤ℤ pos 0) → ⊥
  needed p f =
      let at : c +ℤ (pos 1 -ℤ c) ≡ pos 1 = omega (arith, ints, sum c (pos 1 -ℤ c), sum (pos 1) (neg_ℤ c), negation c) in
      let opposite : (c -ℤ pos 1) +ℤ (pos 1 -ℤ c) ≡ pos 0 = omega (arith, ints, sum (c -ℤ pos 1) (pos 1 -ℤ c), sum c (negsuc 0), sum (pos 1) (neg_ℤ c), negation c) in
      let none : (least d c k) +ℤ pos d *ℤ (pos 1 -ℤ c) ≡ pos 0 = sym (*ℤ_dist_l (pos d) (c -ℤ pos 1) (pos 1 -ℤ c)) ∙ rw (opposite, *ℤ-zero) in
      let given : (k +ℤ pos d *ℤ (pos 1 -ℤ c)) ≤ℤ pos 0 = omega (arith, ints, sum (least d c k) (pos 1), sum (least d c k) (pos d *ℤ (pos 1 -ℤ c)), sum k (pos d *ℤ (pos 1 -ℤ c))) in
      let one : pos 1 ≤ℤ pos 0 = subst (λ (z : ℤ). z ≤ℤ pos 0) at (f (pos 1 -ℤ c) given) in omega (arith, ints)

  pub fits_exactly : T (fits_constant d c k) ↔ ((x : ℤ) → (k +ℤ pos d *ℤ x) ≤ℤ pos 0 → (c +ℤ x) ≤ℤ pos 0)
  unfolding fits_constant
  fits_exactly = (λ t. enough (le_z_yes t), λ f. go f (le_z ((least d c k) +ℤ pos 1) k) refl)
    where
      go : ((x : ℤ) → (k +ℤ pos d *ℤ x) ≤ℤ pos 0 → (c +ℤ x) ≤ℤ pos 0) → (b : Bool) → le_z ((least d c k) +ℤ pos 1) k ≡ b → T b
      go f true q = tt
      go f false q = needed (nle_z→lt ((least d c k) +ℤ pos 1) k (subst (λ (b : Bool). T (not b)) (sym q) tt)) f

-- what fits without rounding fits
pub fits_still : (d : ℕ) (c k : ℤ) → 1 ≤ d → T (not_below d c k) → T (fits_constant d c k)
unfolding not_below fits_constant
fits_still d c k l t = (still (le_z_yes t)).le
  where
    still : (pos d *ℤ c) ≤ℤ k → (pos d *ℤ (c -ℤ pos 1) +ℤ pos 1) ≤ℤ k
    still h = rw *ℤ_dist_l (omega (arith, ints, sum (pos d *ℤ c) (pos d *ℤ negsuc 0), sum (pos d *ℤ c +ℤ pos d *ℤ negsuc 0) (pos 1), times d (negsuc 0)))
