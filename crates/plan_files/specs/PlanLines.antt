-- The line that is printed for the bytes of two files: that of the answer to their words, with the values at the failed assertion.
use Rattle.std.specs.Prelude.{◌≡◌, refl, List, ◌++◌, ℕ, ◌≤◌, ℤ, length, drop}
use Rattle.std.proofs.Math.Path.{sym, ap}
use Rattle.std.proofs.Common.{◌∙◌, arith, length-append, take_at}
use Rattle.std.proofs.Math.ListN.{take}
use Rattle.words.specs.Answer.{trace}
use Rattle.words.specs.Answer as answers
use Rattle.traces.specs.Replay.{final_values}
use Rattle.checker.specs.Check.{check, buffer_after, checked_buffer}
use Rattle.answers.specs.Answers.{answer_of}
use Rattle.answers.specs.declared.Answer.{Answer}
use Rattle.answers.specs.declared.Answer.TheVariants.{Safe, Trace, Refused}
use Rattle.leukarion.specs.Promises.{Checked}
use Rattle.leukarion.specs.ValueCount.{value_count_lem}
use Rattle.trace_steps.specs.Results.{front_count}
use Rattle.plan_text.specs.ByteWords.{file_words}
use Rattle.plan_text.specs.Lines.{line_of}

-- the check of a program and a witness, with a result buffer of 16 numbers
unfoldable pub check_line : List ℤ → List ℤ → List ℕ
check_line program witness = line_of (check program witness 16) (final_values program witness)

unfoldable pub plan_line : List ℕ → List ℕ → List ℕ
plan_line program witness = check_line (file_words program) (file_words witness)

module _ {program witness buffer after : List ℤ} {r : Answer} (size : length buffer ≡ 16) (c : Checked program witness buffer r after) where
  found : answer_of r ≡ check program witness 16
  found = c.answer ∙ ap (check program witness) size

  -- after a trace the values stand at the buffer's front
  values_told : (steps : ℕ) → r ≡ Trace steps → take (length (final_values program witness)) after ≡ final_values program witness
  unfolding checked_buffer buffer_after
  values_told steps e =
      let f = final_values program witness in
      let a : check program witness 16 ≡ trace steps = sym found ∙ ap answer_of e in
      ap (take (length f)) c.result ∙ rw (size, a) (take_at f (drop (length f) buffer) (length f) refl)

-- how many numbers of the buffer are printed: after a trace the values, and never more than there are
module _ {program witness buffer after : List ℤ} (size : length buffer ≡ 16) where
  pub count_placed : (r : Answer) {k : ℕ} → Checked program witness buffer r after → k ≡ front_count (final_values program witness) (answer_of r) → k ≤ 16
  unfolding front_count
  count_placed (Safe count) c n = omega (arith, n)
  count_placed (Trace steps) c n = let v = value_count_lem program witness 16 steps (sym (found size c)) in omega (arith, n, v.0, v.1)
  count_placed (Refused q) c n = omega (arith, n)

  -- the line of an answer and of so many numbers is the one of the check
  pub line_told : (r : Answer) {k : ℕ} → Checked program witness buffer r after → k ≡ front_count (final_values program witness) (answer_of r) → line_of (answer_of r) (take k after) ≡ check_line program witness
  unfolding check_line line_of front_count
  line_told (Safe count) c n = ap (λ (a : answers.Answer). line_of a (final_values program witness)) (found size c)
  line_told (Trace steps) c n =
      ap (line_of (trace steps)) (ap (λ (m : ℕ). take m after) n ∙ values_told size c steps refl) ∙ ap (λ (a : answers.Answer). line_of a (final_values program witness)) (found size c)
  line_told (Refused q) c n = ap (λ (a : answers.Answer). line_of a (final_values program witness)) (found size c)

-- ---- so many at the front of a buffer

module _ {A : Type 0} (front rest : List A) {after : List A} {r : ℕ} (n : r ≡ length front) (e : after ≡ front ++ rest) where
  pub at_front : take r after ≡ front
  at_front = ap (take r) e ∙ take_at front rest r (sym n)

  pub front_placed : r ≤ length after
  front_placed = omega (arith, n, ap length e, length-append front rest)
