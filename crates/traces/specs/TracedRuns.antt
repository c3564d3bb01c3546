-- What an accepted trace is: "the listed vertices are a run by the Linear Programs report .. from the listed start to the error vertex, inside
-- the stated depth and value limits", whose calls are entered with the listed entry values, all of them. The run is demand 3's, by the same steps.
use Rattle.std.specs.Prelude.{◌≡◌, ℕ, zero, suc, ◌+◌, ◌≤◌, T, ℤ, pos, length}
use mathlib.Core.List.{List, [], ◌∷◌, ◌++◌, map, Memᴰ}
use Rattle.words.specs.Limits.{most_calls, value_limit}
use Rattle.programs.specs.Runs.{Waiting, State, values_now, Run, initial, visited, origin, entry_values}
use Rattle.programs.specs.Decode as decode
use Rattle.traces.specs.TraceWords.{N, start_globals, start_arguments, start_others, vertex_word, listed_entry_values}
use Rattle.traces.specs.Replay.{all_values}

-- the values of a state: the globals now, and the locals of each open call
unfoldable pub waiting_values : List Waiting → List ℤ
waiting_values [] = []
waiting_values (w ∷ ws) = w.caller.locals ++ waiting_values ws

unfoldable pub state_values : State → List ℤ
state_values s = values_now s ++ waiting_values s.below

-- a state inside the depth and value limits
pub record Limited (s : State) : Type 0 where
  pub calls : 1 + length s.below ≤ most_calls
  pub values : T (all_values value_limit (state_values s))

module _ (program witness : List ℤ) where
  -- the listed start
  unfoldable pub listed_start : State
  listed_start = initial (start_globals program witness) (start_arguments program witness) (start_others program witness)

  -- the vertices that are listed for the first i steps, last first
  unfoldable pub listed_vertices : ℕ → List ℤ
  listed_vertices zero = vertex_word program witness 0 ∷ []
  listed_vertices (suc i) = vertex_word program witness (i + 1) ∷ listed_vertices i

  -- a run of i steps from the listed start through the listed vertices, inside the limits; its calls are entered with the first of the listed
  -- entry values, and the others are left
  pub record Traced (i : ℕ) : Type 0 where
    pub state : State
    pub run : Run (decode.program program) state
    pub begins : origin run ≡ listed_start
    pub listed : map (λ (s : State). pos s.top.vertex) (visited run) ≡ listed_vertices i
    pub limited : (s : State) → Memᴰ s (visited run) → Limited s
    pub left : List ℤ
    pub enters : listed_entry_values program witness ≡ entry_values run ++ left

  -- the listed vertices are a run, to the error vertex
  pub record FailingRun : Type 0 where
    pub traced : Traced (N program witness)
    pub fails : traced.state.top.vertex ≡ 0

  -- and its calls use all listed entry values
  pub record TracedRun : Type 0 where
    pub failing : FailingRun
    pub all_used : failing.traced.left ≡ []
