-- Where a replay ends before its last vertex, and why: the vertices before that one are a run inside the limits, and at it there is no step to
-- the listed vertex (10), or one that opens a 65th call (12), or one that is entered with more values than are left (14), or one entered with
-- the first of these to a value beyond its limit (11). If and only if, places and lines included: 10, 12 and 11 have the line of the vertex
-- that the step leaves. Whether there is a step, and how deep it leads, doesn't depend on the values that it is entered with, so 10 and 12
-- speak of any.
use Rattle.std.specs.Prelude.{◌≡◌, not, T, ℤ, pos}
use Prim.Native.Nat.{ℕ, ◌+◌, ◌-◌, ◌≤◌, ◌<◌}
use Rattle.std.proofs.Math.Option.{Option}
use mathlib.Core.List.{List, ◌++◌}
use Rattle.std.proofs.Math.ListN.{length}
use Rattle.words.specs.Limits.{most_calls, value_limit}
use Rattle.words.specs.Tests.{Refusal, refusal_at, refusal_on}
use Rattle.programs.specs.Program.{line_at}
use Rattle.programs.specs.ProgramForm.{ProgramForm}
use Rattle.programs.specs.Decode as decode
use Rattle.programs.specs.Runs.{State, values_now, Step, entered_with}
use Rattle.programs.specs.Moves.{Configuration, configuration, current, needed}
use Rattle.traces.specs.TraceWords.{N, vertex_place, vertex_word}
use Rattle.traces.specs.TraceForm.{TraceForm}
use Rattle.traces.specs.Replay.{all_values, listed_move}
use Rattle.traces.specs.TracedRuns.{Traced}
use Rattle.traces.specs.ReplayRuns.{last_next}

module _ (program witness : List ℤ) where
  -- a step, after i steps, to the vertex listed next; "last 0"
  pub record ListedStep (i : ℕ) (s t : State) : Type 0 where
    pub step : Step (decode.program program) s t
    pub vertex : vertex_word program witness (i + 1) ≡ pos t.top.vertex
    pub last : i + 1 ≡ N program witness → t.top.vertex ≡ 0

  -- the line of the vertex that a step after these leaves
  abbrev pub line_left : {i : ℕ} → Traced program witness i → ℕ
  line_left x = line_at (decode.program program) x.state.top.vertex

  -- a refusal at the i-th vertex, counted from 0, with a line
  abbrev pub end_at : ℕ → ℕ → ℕ → Refusal
  end_at number i line = refusal_on number (vertex_place program witness i) line

  pub data Ends : Refusal → Type 0 where
    first_not_one : (vertex_word program witness 0 ≡ pos 1 → ⊥) → Ends (end_at 10 0 0)
    not_allowed : (i : ℕ) → i < N program witness → (x : Traced program witness i) → ((t : State) → ListedStep i x.state t → ⊥) → Ends (end_at 10 (i + 1) (line_left x))
    too_deep : (i : ℕ) → i < N program witness → (x : Traced program witness i) (t : State) → ListedStep i x.state t → most_calls < 1 + length t.below → Ends (end_at 12 (i + 1) (line_left x))
    missing : (i : ℕ) → i < N program witness → (x : Traced program witness i) (t : State) (k : ListedStep i x.state t) → 1 + length t.below ≤ most_calls
        → length x.left < length (entered_with k.step) → Ends (end_at 14 (i + 1) 0)
    too_large : (i : ℕ) → i < N program witness → (x : Traced program witness i) (t : State) (k : ListedStep i x.state t) (after : List ℤ) → x.left ≡ entered_with k.step ++ after
        → 1 + length t.below ≤ most_calls → T (not (all_values value_limit (values_now t))) → Ends (end_at 11 (i + 1) (line_left x))

-- what test 12 refuses, or else test 14, or else test 11
pub data Exceeds (place line need : ℕ) (left : List ℤ) (c : Configuration) : Refusal → Type 0 where
  deep : most_calls < 1 + length c.below → Exceeds place line need left c (refusal_on 12 place line)
  few : 1 + length c.below ≤ most_calls → length left < need → Exceeds place line need left c (refusal_at 14 place)
  large : 1 + length c.below ≤ most_calls → need ≤ length left → T (not (all_values value_limit (current c))) → Exceeds place line need left c (refusal_on 11 place line)

module _ (program witness : List ℤ) (f : ProgramForm program) (g : TraceForm program witness) where
  -- where the replay's step from a state after i steps leads, a procedure entered with these values
  abbrev pub move_listed : ℕ → State → List ℤ → Option Configuration
  move_listed i s others = listed_move (decode.program program) (last_next program witness i) (configuration s) others (vertex_word program witness (i + 1))

  -- the place of a refusal there
  abbrev pub next_place : ℕ → ℕ
  next_place i = vertex_place program witness (i + 1)

  module _ (i : ℕ) (x : Traced program witness i) where
    -- how many entry values a step needs
    abbrev pub need : ℕ
    need = needed (decode.program program) (configuration x.state)

    -- a listed step, its configuration and the values that it is entered with
    pub record StepThere (others : List ℤ) (c : Configuration) : Type 0 where
      pub state : State
      pub listed : ListedStep program witness i x.state state
      pub configured : configuration state ≡ c
      pub entered : entered_with listed.step ≡ others
