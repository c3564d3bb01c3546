-- The answer and the result buffer, each way that the code can end: at a failed test, at a refused step, and after the last step. The definition
-- puts the tests in this order, so what the code found so far opens it up to there.
use Rattle.std.specs.Prelude.{◌≡◌, List, ℕ, ℤ, length}
use Rattle.std.proofs.Math.Path.{refl}
use Rattle.std.proofs.Math.Option.{none, some}
use Rattle.words.specs.Tests.{Refusal, first_failure}
use Rattle.words.specs.Answer.{Answer, safe, trace, refused, answer_after}
use Rattle.programs.specs.Moves.{Configuration, current}
use Rattle.programs.specs.ProgramTests.{program_tests}
use Rattle.traces.specs.TraceWords.{N}
use Rattle.traces.specs.TraceTests.{trace_tests}
use Rattle.traces.specs.Replay.{Progress, at, ended, replayed_to, replay_answer, last_values, final_values, trace_answer}
use Rattle.checker.specs.Check as check
use Rattle.trace_steps.specs.Results.{front_filled, front_count}

module _ (program witness : List ℤ) (buffer : List ℤ) where
  pub refused_buffer : (r : Refusal) → buffer ≡ check.buffer_after program witness (refused r) buffer
  unfolding check.buffer_after
  refused_buffer r = refl

  pub refused_count : (r : Refusal) → 0 ≡ front_count (final_values program witness) (refused r)
  unfolding front_count
  refused_count r = refl

  pub test_refused : (r : Refusal) → first_failure (trace_tests program witness) ≡ some r → refused r ≡ trace_answer program witness (length buffer)
  unfolding trace_answer answer_after
  test_refused r e = rw e refl

  -- after so many steps, as the code counts them
  module _ (steps : ℕ) (n : steps ≡ N program witness) where
    opened : first_failure (trace_tests program witness) ≡ none → (s : Progress) → replayed_to program witness steps ≡ s → replay_answer steps (length witness) (length buffer) s ≡ trace_answer program witness (length buffer)
    unfolding trace_answer answer_after
    opened f s e = rw (f, ← n, e) refl

    pub step_refused : first_failure (trace_tests program witness) ≡ none → (r : Refusal) → replayed_to program witness steps ≡ ended r → refused r ≡ trace_answer program witness (length buffer)
    unfolding replay_answer
    step_refused f r e = opened f (ended r) e

    module _ (c : Configuration) (left : List ℤ) (e : replayed_to program witness steps ≡ at c left) where
      pub ended_answer : first_failure (trace_tests program witness) ≡ none → replay_answer steps (length witness) (length buffer) (at c left) ≡ trace_answer program witness (length buffer)
      ended_answer f = opened f (at c left) e

      pub ended_buffer : (a : Answer) → front_filled (current c) a buffer ≡ check.buffer_after program witness a buffer
      unfolding front_filled check.buffer_after final_values last_values
      ended_buffer (safe count) = refl
      ended_buffer (trace m) = rw (← n, e) refl
      ended_buffer (refused r) = refl

      pub ended_count : (a : Answer) → front_count (current c) a ≡ front_count (final_values program witness) a
      unfolding final_values last_values
      ended_count a = rw (← n, e) refl

  -- ---- the program's tests before

  pub form_refused : (r : Refusal) → first_failure (program_tests program) ≡ some r → refused r ≡ check.replayed program witness (length buffer)
  unfolding check.replayed answer_after
  form_refused r e = rw e refl

  pub formed_answer : first_failure (program_tests program) ≡ none → trace_answer program witness (length buffer) ≡ check.replayed program witness (length buffer)
  unfolding check.replayed answer_after
  formed_answer e = rw e refl
