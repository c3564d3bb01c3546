-- What an answer after tests says: an answer that is no refusal came after tests that all passed, and a refusal is a failed test's or came
-- after them.
use Rattle.std.specs.Prelude.{◌≡◌, ◌↔◌, ℕ}
use Rattle.std.proofs.Math.Path.{refl, ap}
use Rattle.std.proofs.Common.{◌∙◌, arith}
use Rattle.std.proofs.Math.Option.{Option, none, some}
use Rattle.words.specs.Tests.{Refusal}
use Rattle.words.specs.Answer.{Answer, refused, answer_after}
use Rattle.words.specs.AnswerLaws.{Accepting, is_safe, is_trace}

not_refused : {r : Refusal} {a : Answer} → Accepting a → refused r ≡ a → ⊥
not_refused is_safe e = let z : ◌≡◌ {A = ℕ} 0 1 = cc in omega arith
not_refused is_trace e = let z : ◌≡◌ {A = ℕ} 0 1 = cc in omega arith

pub same_refusal : {r q : Refusal} → refused r ≡ refused q → r ≡ q
same_refusal e = cc

module _ (o : Option Refusal) (a : Answer) where
  pub accepted_after : {b : Answer} → Accepting b → (answer_after o a ≡ b) ↔ ((o ≡ none) × (a ≡ b))
  unfolding answer_after
  accepted_after {b} k = (there o, λ x. ap (λ (o : Option Refusal). answer_after o a) x.0 ∙ x.1)
    where
      there : (o : Option Refusal) → answer_after o a ≡ b → (o ≡ none) × (a ≡ b)
      there none e = (refl, e)
      there (some r) e = absurd (not_refused k e)

  pub passed_after : {b : Answer} → o ≡ none → (answer_after o a ≡ b) ↔ (a ≡ b)
  unfolding answer_after
  passed_after q = rw q (λ e. e, λ e. e)

  -- a refusal that isn't the answer after the tests is a failed test's
  pub failed_after : (r : Refusal) → (o ≡ none → a ≡ refused r → ⊥) → (answer_after o a ≡ refused r) ↔ (o ≡ some r)
  unfolding answer_after
  failed_after r other = (there o other, λ q. rw q)
    where
      there : (o : Option Refusal) → (o ≡ none → a ≡ refused r → ⊥) → answer_after o a ≡ refused r → o ≡ some r
      there none h e = absurd (h refl e)
      there (some q) h e = ap some (same_refusal e)
