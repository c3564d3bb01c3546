-- The result buffer after a replay that came to its end: the values at its front where the trace was accepted, and else as it came; and the
-- number of these values.
use Rattle.std.specs.Prelude.{◌≡◌, List, ◌++◌, ℕ, ℤ, length, drop}
use Rattle.words.specs.Answer.{Answer, safe, trace, refused}
use Rattle.programs.specs.Moves.{current}
use Rattle.traces.specs.Replay.{at, replay_answer}
use Rattle.run_state.specs.State.{RunState, configuration_of}

unfoldable pub front_filled : List ℤ → Answer → List ℤ → List ℤ
front_filled values (safe count) buffer = buffer
front_filled values (trace steps) buffer = values ++ drop (length values) buffer
front_filled values (refused r) buffer = buffer

-- how many values that are
unfoldable pub front_count : List ℤ → Answer → ℕ
front_count values (safe count) = 0
front_count values (trace steps) = length values
front_count values (refused r) = 0

-- the answer to a replay of so many steps that came to a state, the number of values and the buffer afterwards
pub record Concluded (program witness : List ℤ) (steps : ℕ) (s : RunState) (buffer : List ℤ) (answer : Answer) (count : ℕ) (after : List ℤ) : Type 0 where
  pub answers : answer ≡ replay_answer steps (length witness) (length buffer) (at (configuration_of program s) s.left)
  pub fills : after ≡ front_filled (current (configuration_of program s)) answer buffer
  pub counts : count ≡ front_count (current (configuration_of program s)) answer
