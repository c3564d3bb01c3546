-- The replay is a run: after i steps it stands at a configuration, with some entry values left, if and only if there is a run of i steps from
-- the listed start through the listed vertices, inside the limits, whose calls are entered with the entry values before those, to a state of
-- that configuration (with vertex 0 last). By induction over the steps, since the executable steps are the report's.
use Rattle.std.proofs.Math.Path.{◌≡◌}
use Rattle.std.specs.Prelude.{Bool, eqb, ℤ, take, drop}
use Prim.Native.Nat.{ℕ, ◌+◌, ◌≤◌}
use Rattle.std.proofs.Math.Option.{Option, none, some}
use mathlib.Core.List.Memᴰ
use mathlib.Core.List.{List, map, ◌++◌}
use Rattle.std.proofs.Math.Dec.{T}
use Rattle.std.proofs.Math.IntN.{pos}
use Rattle.words.specs.Tests.{first_failure}
use Rattle.programs.specs.Program.{Program}
use Rattle.programs.specs.Runs.{State, entered, Step, entered_with}
use Rattle.programs.specs.Moves.{Configuration, configuration, needed}
use Rattle.programs.specs.ProgramWords.{p}
use Rattle.programs.specs.ProgramForm.{ProgramForm}
use Rattle.programs.specs.Decode as decode
use Rattle.traces.specs.TraceWords.{N, vertex_place, vertex_word}
use Rattle.traces.specs.TraceForm.{TraceForm}
use Rattle.traces.specs.Replay.{Progress, arrival_tests, replay_next}
use Rattle.traces.specs.TracedRuns.{Limited, Traced, FailingRun}

-- an arrival: where there is a move, no test fails, and the first of the entry values are used
pub record Arrival (place line need : ℕ) (left : List ℤ) (o : Option Configuration) (c : Configuration) (after : List ℤ) : Type 0 where
  pub moves : o ≡ some c
  pub passes : first_failure (arrival_tests place line need left c) ≡ none
  pub rest : drop need left ≡ after

-- a step to the listed vertex, entered with these values
pub record NextState (p : Program) (last : Bool) (z : ℤ) (s : State) (others : List ℤ) (c : Configuration) : Type 0 where
  pub state : State
  pub step : Step p s state
  pub configured : configuration state ≡ c
  pub vertex : z ≡ pos state.top.vertex
  pub final : T last → state.top.vertex ≡ 0
  pub entered : entered_with step ≡ others

module _ (p : Program) (last : Bool) (place : ℕ) where
  -- a step of the replay
  pub record StepMade (z : ℤ) (s : State) (left : List ℤ) (c : Configuration) (after : List ℤ) : Type 0 where
    pub next : NextState p last z s (take (needed p (configuration s)) left) c
    pub within : Limited next.state
    pub uses : left ≡ entered_with next.step ++ after

module _ (program witness : List ℤ) where
  -- the vertex after i steps and one more is the last
  abbrev pub last_next : ℕ → Bool
  last_next i = eqb (i + 1) (N program witness)

  -- what the replay does with that vertex
  abbrev pub replay_from : ℕ → Progress → Progress
  replay_from i = replay_next (decode.program program) (last_next i) (vertex_place program witness (i + 1)) (vertex_word program witness (i + 1))

module _ (program witness : List ℤ) (f : ProgramForm program) (g : TraceForm program witness) where
  abbrev pub plan : Program
  plan = decode.program program

  -- the replay's configuration is that of a run, and the entry values left are those that the run leaves
  pub record Replayed (i : ℕ) (c : Configuration) (left : List ℤ) : Type 0 where
    pub traced : Traced program witness i
    pub configured : configuration traced.state ≡ c
    pub leaves : traced.left ≡ left
    pub final : 1 ≤ i → i ≡ N program witness → traced.state.top.vertex ≡ 0

  -- a run from the listed start through the listed vertices is what the replay follows
  abbrev pub places_of : List State → List ℤ
  places_of states = map (λ (s : State). pos s.top.vertex) states

  -- a replay that came to its end
  pub record ComesTo (c : Configuration) (left : List ℤ) : Type 0 where
    pub run : FailingRun program witness
    pub configured : configuration run.traced.state ≡ c
    pub leaves : run.traced.left ≡ left
