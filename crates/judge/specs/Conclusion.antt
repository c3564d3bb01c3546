-- The answer after the judgement: no word may be left; a place in the witness's words is as far behind their start in the certificate.
use Rattle.std.specs.Prelude.{◌≡◌, ℕ, ◌+◌, ◌-◌, ◌≤◌, ◌<◌, ℤ, drop}
use Rattle.std.proofs.Math.Path.{refl, ap}
use mathlib.Core.List.{List, [], ◌∷◌}
use Rattle.std.proofs.Common.{arith, length-drop}
use Rattle.std.proofs.Math.ListN.{length}
use Rattle.words.specs.Answer.{safe, refuse}
use Rattle.certificates.specs.Judgement.{running, ended, judgement_answer}

module _ (w : List ℤ) (start : ℕ) where
  place_is : (at : ℕ) → at ≤ length w → start + length w - length (drop at w) ≡ start + at
  place_is at h = omega (arith, length-drop at w)

  pub concluded_ended : (number at : ℕ) → at ≤ length w → judgement_answer (start + length w) (ended number (drop at w)) ≡ refuse number (start + at)
  unfolding judgement_answer
  concluded_ended number at h = ap (refuse number) (place_is at h)

  pub concluded_left : (at held : ℕ) → at < length w → judgement_answer (start + length w) (running (drop at w) held) ≡ refuse 8 (start + at)
  unfolding judgement_answer
  concluded_left at held h = go (drop at w) (length-drop at w) (place_is at (omega arith))
    where
      go : (l : List ℤ) → length l ≡ length w - at → start + length w - length l ≡ start + at → judgement_answer (start + length w) (running l held) ≡ refuse 8 (start + at)
      go [] e f = absurd (omega (arith, e))
      go (x ∷ l) e f = ap (refuse 8) f

  pub concluded_safe : (at held : ℕ) → length w ≤ at → judgement_answer (start + length w) (running (drop at w) held) ≡ safe held
  unfolding judgement_answer
  concluded_safe at held h = go (drop at w) (length-drop at w)
    where
      go : (l : List ℤ) → length l ≡ length w - at → judgement_answer (start + length w) (running l held) ≡ safe held
      go [] e = refl
      go (x ∷ l) e = absurd (omega (arith, e))
