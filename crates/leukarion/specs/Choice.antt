-- The check is the replay where the witness's first word is 3, and else the judgement. Trace is answered only where the word is 3 (demand 2), so
-- the judgement leaves the result buffer as it was.
use Rattle.std.specs.Prelude.{◌≡◌, Bool, true, false, cond, List, ℕ, T, ℤ, length}
use Rattle.std.proofs.Math.Path.{refl, sym, ap}
use Rattle.std.proofs.Common.{subst, ◌∙◌}
use Rattle.words.specs.Words.{word, within}
use Rattle.words.proofs.Ranges.{within_exactly, exact_word}
use Rattle.words.specs.Answer.{Answer, safe, trace, refused}
use Rattle.traces.specs.TraceWords.{trace_mark}
use Rattle.traces.specs.Replay.{final_values}
use Rattle.checker.specs.Check.{judged, replayed, check, buffer_after, checked_buffer}
use Rattle.checker.proofs.Demand2Traces.{trace_answered}
use Rattle.trace_steps.specs.Results.{front_count}

module _ (program witness : List ℤ) where
  pub chosen : {b : Bool} → within trace_mark trace_mark (word witness 0) ≡ b → (buffer : ℕ) → check program witness buffer ≡ cond b (replayed program witness buffer) (judged program witness)
  unfolding check
  chosen e buffer = rw (sym (exact_word trace_mark (word witness 0)) ∙ e) refl

  pub replayed_buffer : within trace_mark trace_mark (word witness 0) ≡ true → (buffer : List ℤ) → buffer_after program witness (replayed program witness (length buffer)) buffer ≡ checked_buffer program witness buffer
  unfolding checked_buffer
  replayed_buffer e buffer = ap (λ a. buffer_after program witness a buffer) (sym (chosen e (length buffer)))

  judged_no_trace : within trace_mark trace_mark (word witness 0) ≡ false → (steps : ℕ) → judged program witness ≡ trace steps → ⊥
  judged_no_trace e steps d = subst T e ((within_exactly trace_mark (word witness 0)).1 ((trace_answered program witness 0 steps).0 (chosen e 0 ∙ d)).forms.trace_form.header.mark)

  pub judged_count : within trace_mark trace_mark (word witness 0) ≡ false → (a : Answer) → a ≡ judged program witness → 0 ≡ front_count (final_values program witness) a
  unfolding front_count
  judged_count e (safe count) d = refl
  judged_count e (trace steps) d = absurd (judged_no_trace e steps (sym d))
  judged_count e (refused r) d = refl

  pub judged_buffer : within trace_mark trace_mark (word witness 0) ≡ false → (buffer : List ℤ) → buffer ≡ checked_buffer program witness buffer
  unfolding checked_buffer
  judged_buffer e buffer = sym (ap (λ a. buffer_after program witness a buffer) (chosen e (length buffer)) ∙ go (judged program witness) refl)
    where
      go : (a : Answer) → judged program witness ≡ a → buffer_after program witness a buffer ≡ buffer
      go (safe count) d = unfold buffer_after in refl
      go (trace steps) d = absurd (judged_no_trace e steps d)
      go (refused r) d = unfold buffer_after in refl
