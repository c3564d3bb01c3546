-- What a writer answers, as C gets it. `told` is the struct that a converter or `leukarion_trim` gives back, and `after` the result buffer then; all that is used of
-- them is the contract, `WritingTold`. A caller tests `kind`, which is 4 for LEUKARION_WRITTEN, and reads `number`.
use Rattle.std.specs.Prelude.{◌≡◌, ◌↔◌, List, ℕ, ℤ, length, Result, Ok, Err}
use Rattle.std.proofs.Common.{sym, ap, ◌∙◌, arith}
use Rattle.words.specs.Writing as writing
use Rattle.answers.specs.Answers as answers
use Rattle.answers.specs.Answers.{refusal_of, same_told}
use Rattle.answers.specs.Written.{writing_for, Wrote}
use Rattle.answers.specs.declared.Refusal.{Refusal}
use Rattle.outcomes.specs.declared.Outcome.{Outcome}
use Rattle.outcomes.specs.Outcomes.{refused_outcome}

-- written, with the number of words; or a refusal, as the check's
abbrev pub outcome_for : Result ℕ Refusal → Outcome
outcome_for (Ok count) = record { kind = 4; number = count; place = 0; part = 0; line = 0 }
outcome_for (Err q) = refused_outcome (refusal_of q)

-- what a writer for C promises: an answer of which all holds that leukarion/ConversionPromises or TrimPromises says, told as C gets it
pub record WritingTold (w : writing.Writing) (buffer : List ℤ) (told : Outcome) (after : List ℤ) : Type 0 where
  pub answer : Result ℕ Refusal
  pub tells : told ≡ outcome_for answer
  pub wrote : Wrote w buffer answer after

-- ---- the answer that a struct tells

module _ {w : writing.Writing} {buffer after : List ℤ} {told : Outcome} (t : WritingTold w buffer told after) where
  pub written_as : (n : ℕ) → ((told.kind ≡ 4) × (told.number ≡ n)) ↔ (t.answer ≡ Ok n)
  written_as n = (λ x. there t.answer t.tells x, λ e. back (t.tells ∙ ap outcome_for e))
    where
      there : (a : Result ℕ Refusal) → told ≡ outcome_for a → (told.kind ≡ 4) × (told.number ≡ n) → a ≡ Ok n
      there (Ok m) q (k, e) = ap Ok (sym (ap (λ (o : Outcome). o.number) q) ∙ e)
      there (Err r) q (k, e) = absurd (let z : ◌≡◌ {A = ℕ} 4 3 = sym k ∙ ap (λ (o : Outcome). o.kind) q in omega arith)

      back : told ≡ outcome_for (Ok n) → (told.kind ≡ 4) × (told.number ≡ n)
      back q = (ap (λ (o : Outcome). o.kind) q, ap (λ (o : Outcome). o.number) q)

-- any other kind leaves the result as it was
pub other_buffer : {w : writing.Writing} {buffer after : List ℤ} {told : Outcome} (t : WritingTold w buffer told after) → (told.kind ≡ 4 → ⊥) → after ≡ buffer
unfolding writing.buffer_after
other_buffer {w} {buffer} {after} {told} t h = go w t.wrote.answer t.wrote.result
  where
    go : (w : writing.Writing) → answers.told t.answer ≡ writing_for w → after ≡ writing.buffer_after w buffer → after ≡ buffer
    go (writing.written words) a r = absurd (h ((written_as t (length words)).1 (same_told t.answer (Ok (length words)) a)).0)
    go (writing.unwritten q) a r = r
