-- Where a replay stands after one step more, by what the step gives: it has moved, or it is refused, and a refusal stays.
use Rattle.std.specs.Prelude.{◌≡◌, List, ℕ, ◌+◌, ◌<◌, eqb, ℤ, Result, Ok, Err}
use Rattle.std.proofs.Math.Path.{refl}
use Rattle.std.proofs.Common.{◌∙◌, arith}
use Rattle.words.specs.Words.{word}
use Rattle.words.specs.Tests.{refusal_on}
use Rattle.traces.proofs.ReplayRefusals.{stays_ended}
use Rattle.traces.specs.TraceWords.{starts_from, N, starts}
use Rattle.traces.specs.Replay.{at, ended, replayed_to}
use Rattle.answers.specs.Answers.{number_of}
use Rattle.run_state.specs.State as states
use Rattle.run_state.specs.State.{RunState, configuration_of, line_for, Gives, progress_from}
use Rattle.trace_steps.specs.RunLaws.{next_progress}

-- as the code counts: where the first vertex stands, and how many steps there are; and a step from where the replay stands after i steps
module _ (program witness : List ℤ) (first steps : ℕ) (f : first ≡ starts_from + starts program witness) (count : steps ≡ N program witness) where
  module _ (i : ℕ) (s : RunState) (o : Result Unit ℕ) (after : RunState) (e : replayed_to program witness i ≡ at (configuration_of program s) s.left)
      (x : Gives program s (progress_from program s (eqb (i + 1) steps) (word witness (first + (i + 1)))) o after) where
    pub moved_there : o ≡ Ok tt → replayed_to program witness (i + 1) ≡ at (configuration_of program after) after.left
    unfolding states.progress_by
    moved_there d = next_progress program witness first steps f count i s o after e x ∙ rw d refl

    pub refused_there : (number : ℕ) → i < steps → o ≡ Err number → replayed_to program witness steps ≡ ended (refusal_on number (first + (i + 1)) (line_for program number after))
    unfolding states.progress_by
    refused_there number h d = stays_ended program witness (i + 1) steps _ (omega arith) (next_progress program witness first steps f count i s o after e x ∙ rw d refl)
