-- The top call at a statement, whatever its kind: what the form gives for it, its move, how many entry values it needs, and how it goes on to
-- another vertex of its procedure.
-- A vertex of a kind other than 6 is no exit, so it is a statement of the decoded program.
use Rattle.std.specs.Prelude.{◌≡◌, List, ℕ, ◌≤◌, ◌<◌, ℤ, take}
use Rattle.std.proofs.Math.Path.{ap}
use Rattle.std.proofs.Common.{◌∙◌, arith}
use Rattle.std.proofs.Math.Option.{some}
use Rattle.programs.specs.Program.{Statement, statement_at}
use Rattle.programs.specs.ProgramWords.{n, kind}
use Rattle.programs.specs.ProgramForm.{ProgramForm}
use Rattle.programs.specs.Decode.{statement, program}
use Rattle.programs.proofs.Formed.{statement_is}
use Rattle.programs.specs.StatementRows.{Successor}
use Rattle.programs.specs.Moves.{moved, move_by, move_from, move, needed_by, needed}
use Rattle.program_readers.specs.Inside.{StatementOf}
use Rattle.program_readers.specs.Kinds.{kind_number}
use Rattle.program_readers.specs.declared.kinds.Kind.{Kind}
use Rattle.program_readers.specs.declared.places.Sizes.{Sizes}
use Rattle.program_readers.specs.declared.places.Vertex.{Vertex}
use Rattle.run_state.specs.Changes.{moved_to, no_frame}
use Rattle.run_state.specs.State.{RunState, state_in, procedure_now, configuration_of, Formed, MayBe, OfKind, Proper, Moves, AtKind, need_of, move_of}
use Rattle.run_state.specs.StateLaws.{goes_to_lem}
use Rattle.run_state.specs.Statements.{at_statement}
use Rattle.run_state.specs.declared.changes.Stored.TheVariants.{Nothing}

-- where a call may be, it may be at a successor
pub may_be : (words : List ℤ) {q v u : ℕ} → MayBe words q v → 1 ≤ v → Successor words v u → MayBe words q u
may_be words m l x = record { known = x.known; owned = λ b. x.same b ∙ m.owned l }

-- a vertex of a kind other than 6, as the reader of a row of its kind asks for it
pub statement_of : (words : List ℤ) (sizes : Sizes) {q v : ℕ} {its : Kind} → Formed words sizes → MayBe words q v → OfKind words v its → kind_number its < 6 → StatementOf words sizes v its
statement_of words sizes {q} {v} f m k b =
    record {
      statement = record { header = f.header; form = f.form; low = k.low; high = at_statement words v f.form k.low m.known (λ e. omega (arith, k.same)) };
      same = k.same;
    }

module _ (words : List ℤ) (sizes : Sizes) (s : RunState) (its : Kind) (a : AtKind words sizes s its) where
  pub next_may_be : {u : ℕ} → Successor words s.vertex.0 u → MayBe words (procedure_now s) u
  next_may_be x = may_be words a.proper.here a.vertex.low x

  -- the top call at another vertex
  pub placed_proper : (v : Vertex) → MayBe words (procedure_now s) v.0 → Proper words (state_in s.globals s.frames v s.depth s.left)
  placed_proper v m =
      let q = a.proper in
      record { some = q.some; few = q.few; long = q.long; eight = q.eight; small_frames = q.small_frames; small_globals = q.small_globals; procedures = q.procedures; waits = q.waits; here = m }

  -- it goes on, with the values that it has
  pub steps_on : (listed : ℕ) (v : Vertex) → need_of words s ≡ 0 → MayBe words (procedure_now s) v.0 → move_of words s listed ≡ some (moved v.0 (configuration_of words s))
      → Moves words s listed (moved_to v s.depth Nothing)
  unfolding configuration_of
  steps_on listed v n m e = goes_to_lem words s listed v s.depth 0 Nothing no_frame n (omega arith) tt (placed_proper v m) e

  -- ---- at a statement

  module _ (b : kind_number its < 6) where
    pub row_asked : StatementOf words sizes s.vertex.0 its
    row_asked = statement_of words sizes a.formed a.proper.here a.vertex b

    inside : s.vertex.0 ≤ n words
    inside = row_asked.statement.high

    -- what the form gives by the kind
    pub formed_as : {X : Type 0} → (ProgramForm words → 1 ≤ s.vertex.0 → s.vertex.0 ≤ n words → kind words s.vertex.0 ≡ kind_number its → X) → X
    formed_as x = x a.formed.form a.vertex.low inside a.vertex.same

    -- the statement that it is by the kind: its move, and the entry values that it needs
    module _ {st : Statement} (x : kind words s.vertex.0 ≡ kind_number its → statement words s.vertex.0 ≡ st) where
      there : statement_at (program words) s.vertex.0 ≡ some st
      there = statement_is words s.vertex.0 a.vertex.low inside ∙ ap some (x a.vertex.same)

      pub moves_by : (listed : ℕ) → move_of words s listed ≡ move_by (program words) st (configuration_of words s) (take (need_of words s) s.left) listed
      unfolding move move_from configuration_of
      moves_by listed = ap (λ o. move_from (program words) o (configuration_of words s) (take (need_of words s) s.left) listed) there

      pub needs_by : need_of words s ≡ needed_by (program words) (some st)
      unfolding needed configuration_of
      needs_by = ap (needed_by (program words)) there
