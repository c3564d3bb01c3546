-- Words that are all 0, as a test and as coefficients: so many words from a place on are within ±0 if and only if the coefficients that they
-- are, which end where the words do, are all 0.
use Rattle.std.specs.Prelude.{◌≡◌, refl, Bool, true, false, List, ℕ, ◌+◌, ◌≤◌, ◌<◌, T, ltb, ℤ, pos, get_or, take, drop}
use Rattle.std.proofs.Common.{sym, ◌∙◌, arith, ltb-true, ltb-false, length-take, get_or-take, get_or-drop}
use Rattle.std.proofs.Math.ListN.{get_or-eq_default}
use Rattle.basics.proofs.Booleans.{same_truth}
use Rattle.basics.proofs.Integers.{ints, negation}
use Rattle.rows.specs.Rows.{all_zero}
use Rattle.rows.proofs.Agreement.{zero_in, zero_each}
use Rattle.words.specs.Words.{word, all_small}
use Rattle.words.specs.Ranges.{Small}
use Rattle.words.proofs.Ranges.{all_small_lem}

none_small : (z : ℤ) → Small 0 z → z ≡ pos 0
none_small z b = omega (arith, ints, b.least, b.most, negation (pos 0))

small_none : (z : ℤ) → z ≡ pos 0 → Small 0 z
small_none z e = record { least = omega (arith, ints, negation (pos 0)); most = omega (arith, ints) }

module _ (words : List ℤ) (at m : ℕ) where
  inside : (i : ℕ) → i < m → get_or (take m (drop at words)) i (pos 0) ≡ word words (at + i)
  inside i h = get_or-take m (drop at words) i (pos 0) h ∙ get_or-drop at words i (pos 0)

  beyond : (i : ℕ) → m ≤ i → get_or (take m (drop at words)) i (pos 0) ≡ pos 0
  beyond i h = get_or-eq_default (take m (drop at words)) (pos 0) (omega (arith, length-take m (drop at words)))

  pub zero_words : all_small words 0 at m ≡ all_zero (take m (drop at words))
  zero_words = same_truth (all_small words 0 at m) (all_zero (take m (drop at words))) there back
    where
      there : T (all_small words 0 at m) → T (all_zero (take m (drop at words)))
      there t = zero_each (take m (drop at words)) (λ i. go i (ltb i m) refl)
        where
          go : (i : ℕ) (b : Bool) → ltb i m ≡ b → get_or (take m (drop at words)) i (pos 0) ≡ pos 0
          go i true q = let l = ltb-true i m q in inside i l ∙ none_small (word words (at + i)) ((all_small_lem words 0 at m).0 t i l)
          go i false q = beyond i (ltb-false i m q)

      back : T (all_zero (take m (drop at words))) → T (all_small words 0 at m)
      back t = (all_small_lem words 0 at m).1 (λ i l. small_none (word words (at + i)) (sym (inside i l) ∙ zero_in (take m (drop at words)) t i))
