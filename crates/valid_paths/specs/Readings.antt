-- What the reading of a trace by the grammar relies on, and what its two nonterminals promise: the table of the returns still to come, where a level
-- stretch stops, and how far a stretch and a valid path were read. A trace that is refused has the equation of `Came` alone.
use Rattle.std.specs.Prelude.{Bool, ◌&&◌, ◌≡◌, List, ℕ, ◌+◌, ◌-◌, ◌≤◌, ◌<◌, leb, ℤ, length, get_or, Ok}
use Rattle.programs.specs.Decode as decode
use Rattle.programs.specs.Moves.{Configuration}
use Rattle.programs.specs.MoveLabels as labels
use Rattle.programs.specs.MoveLabels.{turn_at}
use Rattle.traces.specs.TraceWords.{N}
use Rattle.traces.specs.Stretches.{returns_from, LevelTo, ValidTo}
use Rattle.program_readers.specs.Inside.{StatementOf}
use Rattle.program_readers.specs.declared.kinds.Kind.TheVariants.{Call, Exit}
use Rattle.program_readers.specs.declared.places.Sizes.{Sizes}
use Rattle.program_readers.specs.declared.places.Vertex.{Vertex}
use Rattle.run_state.specs.Frames.{caller_in}
use Rattle.run_state.specs.State.{state_at, configuration_of, OfKind}
use Rattle.run_state.specs.declared.changes.Standing.{Standing}
use Rattle.trace_steps.specs.Runs.{standing_at, Came}
use Rattle.trace_steps.specs.declared.steps.Ran.{Ran}
use Rattle.valid_paths.specs.declared.turns.Turn.{Turn}
use Rattle.valid_paths.specs.declared.turns.Turn.TheVariants.{Stays, Calls, Returns}
use Rattle.valid_paths.specs.declared.levels.Reached.{Reached}
use Rattle.valid_paths.specs.declared.levels.Stretch.{Stretch}

-- ---- turns

unfoldable pub turn_for : labels.Turn → Turn
turn_for labels.stays = Stays
turn_for labels.calls = Calls
turn_for labels.returns = Returns

unfoldable pub turn_of : Turn → labels.Turn
turn_of Stays = labels.stays
turn_of Calls = labels.calls
turn_of Returns = labels.returns

-- 1..=n are the statements
abbrev pub is_statement : Sizes → ℕ → Bool
is_statement sizes v = leb 1 v && leb v sizes.statements

-- entry i of the table, up to the number of steps
pub record Table (program witness : List ℤ) (table : List ℕ) : Type 0 where
  pub long : N program witness < length table
  pub filled : (i : ℕ) → i ≤ N program witness → get_or table i 0 ≡ returns_from program witness i

-- ---- calls and returns

-- the step after j others, from vertex v, is a call that comes back
pub record Matched (program witness : List ℤ) (j v : ℕ) : Type 0 where
  pub before : j < N program witness
  pub calls : turn_at (decode.program program) v ≡ labels.calls
  pub back : 1 ≤ returns_from program witness (j + 1)

-- a call made by this call statement is open
pub record Returning (program : List ℤ) (sizes : Sizes) (call : Vertex) (here : Standing) : Type 0 where
  pub statement : StatementOf program sizes call.0 Call
  pub deep : 2 ≤ here.depth

-- it stands at its exit, or at 0, and its frame says that its caller waits there
pub record Above (program frames : List ℤ) (call : Vertex) (here : Standing) : Type 0 where
  pub exit : 1 ≤ here.vertex.0 → OfKind program here.vertex.0 Exit
  pub caller : caller_in frames (here.depth - 1) ≡ call.0

-- ---- M

abbrev pub reached_at : ℕ → Standing → Reached
reached_at j here = record { at = j; here = here }

abbrev pub stretch_at : ℕ → Ran → Stretch
stretch_at j ran = record { at = j; ran = ran }

-- no part of M but ε begins with the step after j others, from vertex v: neither σ nor a call that comes back
pub record Stops (program witness : List ℤ) (j v : ℕ) : Type 0 where
  pub moved : j < N program witness → turn_at (decode.program program) v ≡ labels.stays → ⊥
  pub unmatched : j < N program witness → turn_at (decode.program program) v ≡ labels.calls → returns_from program witness (j + 1) ≡ 0

-- what was read after i steps, from configuration c: a level stretch, where it passed
pub record StretchRead (program witness entries : List ℤ) (i : ℕ) (c : Configuration) (globals frames : List ℤ) (r : Stretch) : Type 0 where
  pub more : i ≤ r.at
  pub known : r.at ≤ N program witness
  pub came : Came program witness entries r.at globals frames r.ran
  pub level : r.ran.end ≡ Ok tt → LevelTo program witness i r.at c (configuration_of program (state_at globals frames entries (standing_at r.ran)))

-- a part of M: where it is ε, no other begins
pub record PartRead (program witness entries : List ℤ) (i : ℕ) (c : Configuration) (globals frames : List ℤ) (r : Stretch) : Type 0 where
  pub read : StretchRead program witness entries i c globals frames r
  pub empty : r.ran.end ≡ Ok tt → r.at ≡ i → Stops program witness r.at r.ran.vertex.0

-- the whole of M: behind it no other part begins
pub record LevelRead (program witness entries : List ℤ) (i : ℕ) (c : Configuration) (globals frames : List ℤ) (r : Stretch) : Type 0 where
  pub read : StretchRead program witness entries i c globals frames r
  pub stops : r.ran.end ≡ Ok tt → Stops program witness r.at r.ran.vertex.0

-- ---- V

-- a valid path read after i steps, to the trace's end
pub record ValidRead (program witness entries : List ℤ) (i : ℕ) (globals frames : List ℤ) (r : Ran) : Type 0 where
  pub came : Came program witness entries (N program witness) globals frames r
  pub valid : r.end ≡ Ok tt → ValidTo program witness i (N program witness)
