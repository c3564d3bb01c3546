-- The steps of a replay as the code carries them: how far it came, what it starts from, which is where the definition stands after no step, and
-- where it stands after so many.
use Rattle.std.specs.Prelude.{◌≡◌, List, ℕ, ◌+◌, ◌≤◌, ℤ, length, Result, Ok, Err}
use Rattle.numbers.specs.Small.{Small}
use Rattle.words.specs.Limits.{most_globals, most_steps, value_limit}
use Rattle.traces.specs.TraceForm.{TraceForm}
use Rattle.traces.specs.TraceWords.{starts_from, starts, N, start_globals, start_arguments, start_others, listed_entry_values}
use Rattle.traces.specs.Replay.{Progress, at, ended, initial_configuration, replayed_to}
use Rattle.answers.specs.Answers.{refusal_of}
use Rattle.program_readers.specs.declared.places.Sizes.{Sizes}
use Rattle.answers.specs.declared.Refusal.{Refusal}
use Rattle.run_state.specs.Frames.{frames_size}
use Rattle.run_state.specs.State.{RunState, state_at, line_from, Formed, Proper, configuration_of}
use Rattle.run_state.specs.declared.changes.Standing.{Standing}
use Rattle.trace_steps.specs.declared.steps.Ran.{Ran}
use Rattle.trace_steps.specs.declared.steps.TraceSizes.{TraceSizes}

-- where a replay stands: its vertex, its open calls and how many entry values they have used
abbrev pub standing_at : Ran → Standing
standing_at r = record { vertex = r.vertex; depth = r.depth; used = r.used }

-- main's start
abbrev pub at_start : Standing
at_start = record { vertex = record { 0 = 1 }; depth = 1; used = 0 }

-- the state of a replay, by its two buffers, its trace's entry values and where it stands
abbrev pub state_of : List ℤ → List ℤ → List ℤ → List ℤ → Standing → RunState
state_of program witness globals frames here = state_at globals frames (listed_entry_values program witness) here

unfoldable pub progress_by : List ℤ → Result Unit Refusal → RunState → Progress
progress_by words (Ok done) s = at (configuration_of words s) s.left
progress_by words (Err r) s = ended (refusal_of r)

-- a refusal, with the line of a vertex that is left
abbrev pub lined : List ℤ → Refusal → ℕ → Refusal
lined program refusal v = record { number = refusal.number; place = refusal.place; line = line_from program refusal.number v }

-- one that is refused there
abbrev pub failed_at : Standing → Refusal → Ran
failed_at here refusal = record { end = Err refusal; vertex = here.vertex; depth = here.depth; used = here.used }

-- one that passed
abbrev pub passed_at : Standing → Ran
passed_at here = record { end = Ok tt; vertex = here.vertex; depth = here.depth; used = here.used }

-- the two buffers before a replay
pub record Blank (globals frames : List ℤ) : Type 0 where
  pub eight : length globals ≡ most_globals
  pub long : length frames ≡ frames_size
  pub small_globals : Small value_limit globals
  pub small_frames : Small value_limit frames

-- with main's call alone, as the trace lists its values
pub record Started (program witness globals frames : List ℤ) : Type 0 where
  pub proper : Proper program (state_of program witness globals frames at_start)
  pub configured : configuration_of program (state_of program witness globals frames at_start) ≡ initial_configuration (start_globals program witness) (start_arguments program witness) (start_others program witness)

-- a state that the first vertex was found for; the entry values are those of the trace
pub record Starting (program : List ℤ) (sizes : Sizes) (witness entries : List ℤ) (steps : ℕ) (globals frames : List ℤ) : Type 0 where
  pub formed : Formed program sizes
  pub form : TraceForm program witness
  pub count : steps ≡ N program witness
  pub proper : Proper program (state_at globals frames entries at_start)
  pub first : replayed_to program witness 0 ≡ at (configuration_of program (state_at globals frames entries at_start)) entries
  pub small_entries : Small value_limit entries

-- the sizes of a program and of its trace, in one
abbrev pub trace_sizes : Sizes → ℕ → ℕ → TraceSizes
trace_sizes sizes first steps = record { sizes = sizes; first = first; steps = steps }

-- those of a trace of a program, both with the form
pub record Sized (program witness : List ℤ) (trace : TraceSizes) : Type 0 where
  pub formed : Formed program trace.sizes
  pub form : TraceForm program witness
  pub place : trace.first ≡ starts_from + starts program witness
  pub near : trace.first ≤ 19
  pub count : trace.steps ≡ N program witness
  pub few : trace.steps ≤ most_steps

-- where a replay stands after i steps
pub record Here (program witness entries : List ℤ) (trace : TraceSizes) (i : ℕ) (globals frames : List ℤ) (here : Standing) : Type 0 where
  pub sized : Sized program witness trace
  pub known : i ≤ N program witness
  pub proper : Proper program (state_at globals frames entries here)
  pub came : replayed_to program witness i ≡ at (configuration_of program (state_at globals frames entries here)) (state_at globals frames entries here).left
  pub small_entries : Small value_limit entries
  pub few_used : here.used ≤ length entries

-- where a replay of so many steps came to
pub record Came (program witness entries : List ℤ) (steps : ℕ) (globals frames : List ℤ) (r : Ran) : Type 0 where
  pub progress : progress_by program r.end (state_at globals frames entries (standing_at r)) ≡ replayed_to program witness steps
  pub proper : Proper program (state_at globals frames entries (standing_at r))
  pub few_used : r.used ≤ length entries
