-- The limits of a state and what tests 12, 14 and 11 look at: a step from a state inside the limits leads to one inside them if and only if
-- the depth and the values of the globals and of the top call are, since a step changes no other value.
use Rattle.std.specs.Prelude.{◌+◌, ◌≤◌, T, length}
use Rattle.words.specs.Limits.{most_calls, value_limit}
use Rattle.programs.specs.Runs.{State, values_now}
use Rattle.traces.specs.Replay.{all_values}

-- what tests 12 and 11 ask of the state arrived at
pub record Arrives (t : State) : Type 0 where
  pub calls : 1 + length t.below ≤ most_calls
  pub values : T (all_values value_limit (values_now t))
