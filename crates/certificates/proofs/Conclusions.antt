-- What the answer to a certificate that has the form says of its witness words, for safe and for the refusals 6, 7 and 8: if and only if.
-- An answer is concluded from the outcome of the judgement, and the numbers 6, 7 and 8 tell the outcomes apart.
use Rattle.std.proofs.Math.Path.{◌≡◌, refl, sym, ap}
use Rattle.std.proofs.Common.{◌∙◌}
use Rattle.std.specs.Prelude.{◌↔◌, ◌⊎◌, ℕ, ◌-◌, ℤ}
use Rattle.std.proofs.Math.Logic.{inl, inr}
use mathlib.Core.List.{List, [], ◌∷◌}
use native.Mathlib.Omega.{arith}
use Rattle.std.proofs.Math.ListN.{length}
use Rattle.words.specs.Tests.{Refusal}
use Rattle.words.specs.Answer.{safe, trace, refused, refuse}
use Rattle.certificates.specs.Entailments.{Entailment}
use Rattle.certificates.specs.Judgement.{Progress, running, ended, judge, judgement_answer}
use Rattle.certificates.specs.Judged.{Held, Unread, Misfit}
use Rattle.certificates.proofs.Judged.{judge_iff, ended_six, ended_seven, ended_number}
use Rattle.certificates.specs.Conclusions.{Left, conclusion, count_of, line_of, number_of, place_of}

module _ (es : List Entailment) (words : List ℤ) (total : ℕ) where
  -- what is concluded from an outcome that is known
  from : {s : Progress} → judge es (running words 0) ≡ s → judgement_answer total s ≡ (conclusion es words total)
  from q = ap (judgement_answer total) (sym q)

  pub safe_iff : (count : ℕ) → ((conclusion es words total) ≡ safe count) ↔ Held es words [] 0 count
  unfolding judgement_answer
  safe_iff count = (λ e. (judge_iff es words [] 0 count).0 (there (judge es (running words 0)) e), λ h. sym (from ((judge_iff es words [] 0 count).1 h)))
    where
      there : (s : Progress) → judgement_answer total s ≡ safe count → s ≡ running [] count
      there (running [] n) e = ap (running []) (ap count_of e)
      there (running (w ∷ ws) n) e = absurd (let z : ◌≡◌ {A = ℕ} 8 0 = ap number_of e in omega arith)
      there (ended number ws) e = absurd (let z : ◌≡◌ {A = ℕ} 0 1 = cc in omega arith)

  -- the judgement ended with a number, where that has a meaning
  ended_iff : (number place : ℕ) (P : List ℤ → Type 0) → (number ≡ 8 → ⊥) → ((left : List ℤ) → (judge es (running words 0) ≡ ended number left) ↔ P left)
      → ((conclusion es words total) ≡ refuse number place) ↔ ((left : List ℤ) × P left × (place ≡ total - length left))
  unfolding judgement_answer
  ended_iff number place P other means = (λ e. there (judge es (running words 0)) refl e, λ x. sym (from ((means x.0).1 x.1)) ∙ ap (refuse number) (sym x.2))
    where
      there : (s : Progress) → judge es (running words 0) ≡ s → judgement_answer total s ≡ refuse number place → (left : List ℤ) × P left × (place ≡ total - length left)
      there (running [] n) q e = absurd (let z : ◌≡◌ {A = ℕ} 0 1 = cc in omega arith)
      there (running (w ∷ ws) n) q e = absurd (other (sym (ap number_of e)))
      there (ended k left) q e = (left, (means left).0 (q ∙ ap (λ j. ended j left) (ap number_of e)), sym (ap place_of e))

  pub six_iff : (place : ℕ) → ((conclusion es words total) ≡ refuse 6 place) ↔ ((left : List ℤ) × Unread es words left × (place ≡ total - length left))
  six_iff place = ended_iff 6 place (Unread es words) (omega arith) (λ left. ended_six es words left 0)

  pub seven_iff : (place : ℕ) → ((conclusion es words total) ≡ refuse 7 place) ↔ ((left : List ℤ) × Misfit es words left × (place ≡ total - length left))
  seven_iff place = ended_iff 7 place (Misfit es words) (omega arith) (λ left. ended_seven es words left 0)

  pub eight_iff : (place : ℕ) → ((conclusion es words total) ≡ refuse 8 place) ↔ (Left es words total) place
  unfolding judgement_answer
  eight_iff place = (λ e. there (judge es (running words 0)) refl e, λ x. sym (from ((judge_iff es words (x.first ∷ x.others) 0 x.count).1 x.held)) ∙ ap (refuse 8) (sym x.stands))
    where
      six_or_seven : {left : List ℤ} {number : ℕ} → judge es (running words 0) ≡ ended number left → number ≡ 8 → ⊥
      six_or_seven {left} {number} q e = go (ended_number es words left 0 number q)
        where
          go : (number ≡ 6) ⊎ (number ≡ 7) → ⊥
          go (inl z) = omega arith
          go (inr z) = omega arith

      there : (s : Progress) → judge es (running words 0) ≡ s → judgement_answer total s ≡ refuse 8 place → (Left es words total) place
      there (running [] n) q e = absurd (let z : ◌≡◌ {A = ℕ} 0 1 = cc in omega arith)
      there (running (w ∷ ws) n) q e = record { first = w; others = ws; count = n; held = (judge_iff es words (w ∷ ws) 0 n).0 q; stands = sym (ap place_of e) }
      there (ended k left) q e = absurd (six_or_seven q (ap number_of e))

  -- and no other refusal is concluded, and none with a line
  pub refusals : (r : Refusal) → (conclusion es words total) ≡ refused r → ((r.number ≡ 6) ⊎ ((r.number ≡ 7) ⊎ (r.number ≡ 8))) × (r.line ≡ 0)
  unfolding judgement_answer
  refusals r e = there (judge es (running words 0)) refl e
    where
      widen : (r.number ≡ 6) ⊎ (r.number ≡ 7) → (r.number ≡ 6) ⊎ ((r.number ≡ 7) ⊎ (r.number ≡ 8))
      widen (inl z) = inl z
      widen (inr z) = inr (inl z)

      there : (s : Progress) → judge es (running words 0) ≡ s → judgement_answer total s ≡ refused r → ((r.number ≡ 6) ⊎ ((r.number ≡ 7) ⊎ (r.number ≡ 8))) × (r.line ≡ 0)
      there (running [] n) q e = absurd (let z : ◌≡◌ {A = ℕ} 0 1 = cc in omega arith)
      there (running (w ∷ ws) n) q e = (inr (inr (sym (ap number_of e))), sym (ap line_of e))
      there (ended k left) q e = (widen (ended_number es words left 0 r.number (q ∙ ap (λ j. ended j left) (ap number_of e))), sym (ap line_of e))

  -- and never trace
  pub not_trace : (steps : ℕ) → (conclusion es words total) ≡ trace steps → ⊥
  unfolding judgement_answer
  not_trace steps e = there (judge es (running words 0)) e
    where
      there : (s : Progress) → judgement_answer total s ≡ trace steps → ⊥
      there (running [] n) e = let z : ◌≡◌ {A = ℕ} 0 1 = cc in omega arith
      there (running (w ∷ ws) n) e = let z : ◌≡◌ {A = ℕ} 0 1 = cc in omega arith
      there (ended number ws) e = let z : ◌≡◌ {A = ℕ} 0 1 = cc in omega arith
