-- Multipliers tested one after the other, whatever those before came to: they are read if and only if all are there and all pass.
use mathlib.Core.Path.{◌≡◌, refl, sym, ap, subst, ◌∙◌}
use mathlib.Core.Logic.{◌↔◌}
use mathlib.Core.Bool.{Bool, true, false, cond, ◌&&◌}
use mathlib.Core.List.{List, ◌∷◌}
use Prim.Native.Nat.{ℕ, zero, suc, ◌+◌, ◌-◌, ◌≤◌, ◌<◌}
use native.Mathlib.Numerals.{add-one}
use native.Mathlib.Omega.{arith}
use borrow.Author.Tests.{leb-true, leb-false, le-leb, lt-leb}
use lib.Dec.{T, leb, le→leb}
use lib.IntN.{ℤ, pos, negsuc, nat_abs}
use lib.ListN.{length, drop}
use lib.Seq.{drop-cons}
use Rattle.std.specs.Prelude.{Option, Some, None}
use Rattle.basics.proofs.Booleans.{and, each, holds, cond_yes}
use Rattle.words.specs.Limits.{most_multiplier}
use Rattle.words.specs.Words.{word, within}
use Rattle.certificates.specs.Judgement.{got, missing, and_then, read_within, read_multipliers}
use Rattle.row_buffers.proofs.Naturals.{weight_natural}
use Rattle.row_buffers.proofs.Adding.{weight_small}
use Rattle.entailment_judge.specs.WitnessReader.{all_multipliers, next_multipliers, multipliers_at}
use Rattle.entailment_judge.specs.Answers.{after_of}
use Rattle.entailment_judge.proofs.Words.{Multipliers, multipliers, none_left, then_after}

all_tested : (w : List ℤ) (at m : ℕ) → T (all_multipliers w at m) ↔ ((i : ℕ) → i < m → T (within 0 most_multiplier (word w (at + i))))
unfolding all_multipliers
all_tested w at =
    each (all_multipliers w at) (λ i. within 0 most_multiplier (word w (at + i))) (λ i. T (within 0 most_multiplier (word w (at + i)))) refl (λ i. refl) (λ i. (λ t. t, λ t. t))

-- ---- all pass

passed : (z : ℤ) (ws : List ℤ) → T (within 0 most_multiplier z) → read_within 0 most_multiplier (z ∷ ws) ≡ got (nat_abs z) ws
unfolding within read_within
passed (pos m) ws t = cond_yes (leb 0 m && leb m most_multiplier) (got m ws) missing t
passed (negsuc m) ws t = absurd t

module _ (w : List ℤ) where
  one_passed : (n at : ℕ) → at < length w → T (within 0 most_multiplier (word w at)) → after_of w (read_multipliers (suc n) (drop at w)) ≡ after_of w (read_multipliers n (drop (at + 1) w))
  unfolding read_multipliers and_then
  one_passed n at h t =
      let d : drop at w ≡ word w at ∷ drop (at + 1) w = rw add-one (drop-cons w at (pos 0) h) in
      rw (d, passed (word w at) (drop (at + 1) w) t) (then_after w (read_multipliers n (drop (at + 1) w)) (λ ms. nat_abs (word w at) ∷ ms))

  each_passed : (n at : ℕ) → at + n ≤ length w → ((p : ℕ) → at ≤ p → p < at + n → T (within 0 most_multiplier (word w p))) → after_of w (read_multipliers n (drop at w)) ≡ Some (at + n)
  each_passed zero at h f = let e : at ≡ at + 0 = omega arith in none_left w at (omega arith) ∙ ap Some e
  each_passed (suc n) at h f =
      let e : at + 1 + n ≡ at + suc n = omega arith in
      one_passed n at (omega arith) (f at (omega arith) (omega arith)) ∙ each_passed n (at + 1) (omega arith) (λ p l m. f p (omega arith) (omega arith)) ∙ ap Some e

module _ (w : List ℤ) (at n : ℕ) where
  all_passed : at + n ≤ length w → all_multipliers w at n ≡ true → Some (at + n) ≡ after_of w (read_multipliers n (drop at w))
  all_passed h t = sym (each_passed w n at h (λ p l m. let e : at + (p - at) ≡ p = omega arith in subst (λ q. T (within 0 most_multiplier (word w q))) e ((all_tested w at n).0 (holds t) (p - at) (omega arith))))

  -- ---- one is missing or doesn't pass

  none_read : at ≤ length w → ((next : ℕ) → Multipliers w at n next → ⊥) → None ≡ after_of w (read_multipliers n (drop at w))
  none_read h f = go (after_of w (read_multipliers n (drop at w))) refl
    where
      go : (x : Option ℕ) → after_of w (read_multipliers n (drop at w)) ≡ x → None ≡ x
      go (Some next) e = absurd (f next (multipliers w at n next h e))
      go None e = refl

  too_few : at ≤ length w → length w - at < n → None ≡ after_of w (read_multipliers n (drop at w))
  too_few h l = none_read h (λ next k. omega (arith, k.inside))

  pass : (z : ℤ) → z ≡ pos (nat_abs z) → nat_abs z ≤ most_multiplier → T (within 0 most_multiplier z)
  pass z e h = subst (λ x. T (within 0 most_multiplier x)) (sym e) (unfold within in and (leb 0 (nat_abs z)) (leb (nat_abs z) most_multiplier) (le→leb 0 (nat_abs z) (omega arith)) (le→leb (nat_abs z) most_multiplier h))

  not_all : at ≤ length w → all_multipliers w at n ≡ false → None ≡ after_of w (read_multipliers n (drop at w))
  not_all h t =
      none_read h
      (λ next k. subst T t ((all_tested w at n).1 (λ i l. pass (word w (at + i)) (weight_natural w at n i k.natural l) (weight_small w at n i k.small l))))

  -- ---- what is read of them at a place

  pub beyond : length w < at + n → next_multipliers w at n ≡ false
  unfolding next_multipliers
  beyond h = rw (lt-leb (at + n) (length w) h)

  pub as_tested : {b : Bool} → at + n ≤ length w → all_multipliers w at n ≡ b → next_multipliers w at n ≡ b
  unfolding next_multipliers
  as_tested h t = rw (le-leb (at + n) (length w) h) t

  pub many : (b : Bool) → next_multipliers w at n ≡ b → cond b (Some (at + n)) None ≡ multipliers_at w at n
  many b e = sym (ap (λ (c : Bool). cond c (Some (at + n)) None) e)

  -- the place after them is what the definitions read up to
  pub read_so : at ≤ length w → multipliers_at w at n ≡ after_of w (read_multipliers n (drop at w))
  read_so h = go (leb (at + n) (length w)) refl
    where
      inside : at + n ≤ length w → (b : Bool) → all_multipliers w at n ≡ b → multipliers_at w at n ≡ after_of w (read_multipliers n (drop at w))
      inside l true t = sym (many true (as_tested l t)) ∙ all_passed l t
      inside l false t = sym (many false (as_tested l t)) ∙ not_all h t

      go : (c : Bool) → leb (at + n) (length w) ≡ c → multipliers_at w at n ≡ after_of w (read_multipliers n (drop at w))
      go true f = inside (leb-true (at + n) (length w) f) (all_multipliers w at n) refl
      go false f = let l = leb-false (at + n) (length w) f in sym (many false (beyond l)) ∙ too_few h (omega arith)
