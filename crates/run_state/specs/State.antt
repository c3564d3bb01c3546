-- The state of a run as the code has it, document 01's run record: the configuration that it stands for, what the code relies on, and what a
-- step gives back.
use Rattle.std.specs.Prelude.{◌≡◌, ℕ, zero, suc, ◌+◌, ◌-◌, ◌≤◌, ◌<◌, Bool, cond, List, [], ◌∷◌, leb, ℤ, pos, length, take, drop, Result, Ok, Err}
use Rattle.std.proofs.Math.Option.{Option}
use Rattle.words.specs.Tests.{refusal_on}
use Rattle.numbers.specs.Small.{Small}
use Rattle.words.specs.Limits.{most_globals, most_calls, value_limit}
use Rattle.programs.specs.Program.{line_at}
use Rattle.programs.specs.ProgramWords.{n, p, G, kind, locals, procedure_of}
use Rattle.programs.specs.ProgramForm.{ProgramForm}
use Rattle.programs.specs.Decode.{program}
use Rattle.programs.specs.Moves as moves
use Rattle.traces.specs.Replay.{Progress, at, ended, arrival, replay_next}
use Rattle.answers.specs.Answers.{number_of}
use Rattle.answers.specs.declared.Reason.{Reason}
use Rattle.program_readers.specs.Sizes.{Header}
use Rattle.program_readers.specs.Kinds.{kind_number}
use Rattle.program_readers.specs.declared.kinds.Kind.{Kind}
use Rattle.program_readers.specs.declared.kinds.Kind.TheVariants.{Call}
use Rattle.program_readers.specs.declared.places.Sizes.{Sizes}
use Rattle.program_readers.specs.declared.places.Vertex.{Vertex}
use Rattle.run_state.specs.Frames.{frames_size, locals_from, procedure_in, caller_in}
use Rattle.run_state.specs.Changes.{refused_at, Storable, globals_after, frames_after}
use Rattle.run_state.specs.declared.changes.Standing.{Standing}
use Rattle.run_state.specs.declared.changes.Stepped.{Stepped}
use Rattle.run_state.specs.declared.changes.Change.{Change}

-- "(vertex, globals, frames, depth)": the vertex is that of the top call; and the entry values that no call has used
pub record RunState : Type 0 where
  pub vertex : Vertex
  pub globals : List ℤ
  pub frames : List ℤ
  pub depth : ℕ
  pub left : List ℤ

abbrev pub state_in : List ℤ → List ℤ → Vertex → ℕ → List ℤ → RunState
state_in globals frames vertex depth left = record { vertex = vertex; globals = globals; frames = frames; depth = depth; left = left }

-- as the code has it: of the entry values the first so many were used
abbrev pub state_at : List ℤ → List ℤ → List ℤ → Standing → RunState
state_at globals frames entries here = state_in globals frames here.vertex here.depth (drop here.used entries)

-- the procedure of the top call
abbrev pub procedure_now : RunState → ℕ
procedure_now s = procedure_in s.frames (s.depth - 1)

-- the state with a change stored
abbrev pub applied : RunState → Change → RunState
applied s c =
    record { vertex = c.vertex; globals = globals_after s.globals c.stored; frames = frames_after s.frames c.stored c.frame; depth = c.depth; left = drop c.taken s.left }

-- the change that a refusal makes is none
abbrev pub refused_in : ℕ → RunState → Change
refused_in number s = refused_at number s.vertex s.depth

abbrev pub refused_for : Reason → RunState → Change
refused_for reason s = refused_in (number_of reason) s

-- the form of the program, with its sizes
pub record Formed (words : List ℤ) (sizes : Sizes) : Type 0 where
  pub header : Header words sizes
  pub form : ProgramForm words

module _ (words : List ℤ) where
  -- ---- the configuration

  -- an open call has the locals of its procedure
  abbrev pub locals_in : List ℤ → ℕ → List ℤ
  locals_in frames i = take (locals words (procedure_in frames i)) (drop (locals_from i) frames)

  -- the first so many calls, from the last of them down, each where the next one's frame says that it waits
  unfoldable pub frames_of : List ℤ → ℕ → List moves.Frame
  frames_of frames zero = []
  frames_of frames (suc i) = record { procedure = procedure_in frames i; vertex = caller_in frames (suc i); locals = locals_in frames i } ∷ frames_of frames i

  unfoldable pub configuration_of : RunState → moves.Configuration
  configuration_of s =
      record {
        globals = take (G words) s.globals;
        top = record { procedure = procedure_now s; vertex = s.vertex.0; locals = locals_in s.frames (s.depth - 1) };
        below = frames_of s.frames (s.depth - 1);
      }

  -- ---- what the code relies on

  pub record SomeProcedure (q : ℕ) : Type 0 where
    pub low : 1 ≤ q
    pub known : q ≤ p words

  -- a call of procedure q may be there: at 0, or at a vertex of its procedure
  pub record MayBe (q v : ℕ) : Type 0 where
    pub known : v ≤ n words + p words
    pub owned : 1 ≤ v → procedure_of words v ≡ q

  -- a vertex of this kind
  pub record OfKind (v : ℕ) (its : Kind) : Type 0 where
    pub low : 1 ≤ v
    pub same : kind words v ≡ kind_number its

  -- a call of procedure q waits there, at a call statement
  pub record Waits (q v : ℕ) : Type 0 where
    pub there : MayBe q v
    pub calls : OfKind v Call

  pub record Proper (s : RunState) : Type 0 where
    pub some : 1 ≤ s.depth
    pub few : s.depth ≤ most_calls
    pub long : length s.frames ≡ frames_size
    pub eight : length s.globals ≡ most_globals
    pub small_frames : Small value_limit s.frames
    pub small_globals : Small value_limit s.globals
    pub procedures : (i : ℕ) → i < s.depth → SomeProcedure (procedure_in s.frames i)
    pub waits : (i : ℕ) → i + 1 < s.depth → Waits (procedure_in s.frames i) (caller_in s.frames (i + 1))
    pub here : MayBe (procedure_now s) s.vertex.0

  -- the top call is at a vertex of this kind
  pub record AtKind (sizes : Sizes) (s : RunState) (its : Kind) : Type 0 where
    pub formed : Formed words sizes
    pub proper : Proper s
    pub vertex : OfKind s.vertex.0 its

  -- ---- what a step gives back

  -- the line of the vertex that a step leaves
  abbrev pub line_left : RunState → ℕ
  line_left s = line_at (program words) (configuration_of s).top.vertex

  -- the line that a refusal has at a step that leaves a vertex: 10 to 12 have the vertex's, and 14 has none
  abbrev pub line_from : ℕ → ℕ → ℕ
  line_from number v = cond (leb number 12) (line_at (program words) v) 0

  abbrev pub line_for : ℕ → RunState → ℕ
  line_for number s = line_from number (configuration_of s).top.vertex

  -- the replay's progress after a step to the vertex at a place of the trace
  unfoldable pub progress_by : ℕ → Result Unit ℕ → RunState → Progress
  progress_by place (Ok done) s = at (configuration_of s) s.left
  progress_by place (Err number) s = ended (refusal_on number place (line_for number s))

  -- a step from a state gives the progress, wherever the vertex stands in the trace; after a refusal the state is as it came
  pub record Gives (s : RunState) (to : ℕ → Progress) (outcome : Result Unit ℕ) (after : RunState) : Type 0 where
    pub progress : (place : ℕ) → progress_by place outcome after ≡ to place
    pub proper : Proper after
    pub kept : (number : ℕ) → outcome ≡ Err number → after ≡ s

  pub record ComesTo (s : RunState) (to : ℕ → Progress) (c : Change) : Type 0 where
    pub gives : Gives s to c.outcome (applied s c)
    pub storable : Storable s.globals s.frames c.stored c.frame
    pub few_taken : c.taken ≤ length s.left

  -- how many entry values a step needs
  abbrev pub need_of : RunState → ℕ
  need_of s = moves.needed (program words) (configuration_of s)

  -- the configuration that the rules lead to at a vertex
  abbrev pub move_of : RunState → ℕ → Option moves.Configuration
  move_of s v = moves.move (program words) (configuration_of s) (take (need_of s) s.left) v

  -- the step to a vertex
  abbrev pub Moves : RunState → ℕ → Change → Type 0
  Moves s v = ComesTo s (λ place. arrival place (line_left s) (need_of s) s.left (move_of s v))

  -- the same, whatever entry values are left
  abbrev pub MovesOn : List ℤ → List ℤ → Vertex → ℕ → ℕ → Change → Type 0
  MovesOn globals frames vertex depth v c = (left : List ℤ) → Moves (state_in globals frames vertex depth left) v c

  -- the step to the vertex that a word lists
  abbrev pub progress_from : RunState → Bool → ℤ → ℕ → Progress
  progress_from s last z place = replay_next (program words) last place z (at (configuration_of s) s.left)

-- ---- in the code's own values

pub record Steppable (words : List ℤ) (sizes : Sizes) (globals frames entries : List ℤ) (here : Standing) : Type 0 where
  pub formed : Formed words sizes
  pub proper : Proper words (state_at globals frames entries here)
  pub small_entries : Small value_limit entries
  pub few_used : here.used ≤ length entries

-- where a step leaves the run
abbrev pub standing_of : Stepped → Standing
standing_of r = record { vertex = r.vertex; depth = r.depth; used = r.used }

pub record Steps (words globals frames entries : List ℤ) (here : Standing) (last : Bool) (listed : ℕ) (r : Stepped) (globals' frames' : List ℤ) : Type 0 where
  pub gives : Gives words (state_at globals frames entries here) (progress_from words (state_at globals frames entries here) last (pos listed)) r.outcome (state_at globals' frames' entries (standing_of r))
  pub few_used : r.used ≤ length entries
