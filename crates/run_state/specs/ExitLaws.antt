-- An exit: from main's alone there is no step; any other leads to the return point of the call statement at which the call below waits,
-- because that call stands at a statement of kind 5, whose first field is the return point.
use Rattle.std.specs.Prelude.{◌≡◌, List, ◌∷◌, true, ℤ}
use Rattle.std.proofs.Math.Path.{refl, sym, ap}
use Rattle.std.proofs.Common.{subst, ◌∙◌}
use Rattle.std.proofs.Math.Option.{none, some}
use Prim.Native.Nat.{ℕ, suc, ◌+◌, ◌-◌, ◌≤◌, ◌<◌}
use native.Mathlib.Omega.{arith}
use borrow.Author.Tests.{eq-eqb, lt-leb}
use Rattle.programs.specs.Program.{statement_at, exit_of}
use Rattle.programs.specs.ProgramWords.{n, procedure_of, vertex_field}
use Rattle.programs.specs.Decode.{program}
use Rattle.programs.proofs.Formed.{statement_is, length_statements}
use Rattle.programs.proofs.FormLaws.{exit_no_statement}
use Rattle.programs.specs.Moves.{Frame, Configuration, goes_to, return_by, leave, move_from, move, placed, needed_by, needed}
use Rattle.answers.specs.declared.Reason.TheVariants.{ListedVertex}
use Rattle.program_readers.specs.Inside.{StatementOf}
use Rattle.program_readers.specs.declared.kinds.Kind.TheVariants.{Call, Exit}
use Rattle.program_readers.specs.declared.places.Sizes.{Sizes}
use Rattle.program_readers.specs.declared.places.Vertex.{Vertex}
use Rattle.run_state.specs.Frames.{procedure_in, caller_in}
use Rattle.run_state.specs.Changes.{moved_to, no_frame}
use Rattle.run_state.specs.State.{RunState, state_in, procedure_now, locals_in, frames_of, configuration_of, MayBe, Waits, Proper, AtKind, refused_for, Moves, need_of, move_of}
use Rattle.run_state.specs.StateLaws.{goes_nowhere, goes_to_lem, other_vertex, that_vertex}
use Rattle.run_state.specs.Statements.{at_exit, calls, is_call}
use Rattle.run_state.specs.Scopes.{owner}
use Rattle.run_state.specs.StatementLaws.{may_be, statement_of}
use Rattle.run_state.specs.declared.changes.Stored.TheVariants.{Nothing}

module _ (words : List ℤ) (sizes : Sizes) (s : RunState) (listed : ℕ) (a : AtKind words sizes s Exit) where
  past_statements : n words < s.vertex.0
  past_statements = at_exit words s.vertex.0 a.formed.form a.vertex.low a.proper.here.known a.vertex.same

  its_exit : s.vertex.0 ≡ exit_of (program words) (procedure_now s)
  unfolding exit_of procedure_of
  its_exit =
      let e : procedure_of words s.vertex.0 ≡ s.vertex.0 - n words = rw (lt-leb s.vertex.0 (n words) past_statements) in
      rw (length_statements words) (omega (arith, past_statements, owner words sizes s Exit a, e))

  no_statement : statement_at (program words) s.vertex.0 ≡ none
  no_statement =
      ap (statement_at (program words)) its_exit ∙ exit_no_statement (program words) (procedure_now s) (a.proper.procedures (s.depth - 1) (omega (arith, a.proper.some))).low

  leaves : move_of words s listed ≡ leave (program words) (configuration_of words s) (configuration_of words s).below listed
  unfolding move move_from configuration_of
  leaves = rw (no_statement, eq-eqb s.vertex.0 (exit_of (program words) (procedure_now s)) its_exit) refl

  exit_needs : need_of words s ≡ 0
  unfolding needed needed_by configuration_of
  exit_needs = ap (needed_by (program words)) no_statement

  pub exit_alone : s.depth ≡ 1 → Moves words s listed (refused_for ListedVertex s)
  unfolding configuration_of frames_of leave
  exit_alone d = goes_nowhere words s a.proper listed (leaves ∙ rw d refl)

  module _ (d : s.depth ≡ 1 → ⊥) where
    -- the vertex at which the call below waits
    abbrev pub waiting : ℕ
    waiting = caller_in s.frames (s.depth - 1)

    waits : Waits words (procedure_in s.frames (s.depth - 2)) waiting
    waits =
        let e : s.depth - 2 + 1 ≡ s.depth - 1 = omega (arith, a.proper.some, d) in
        subst (λ (i : ℕ). Waits words (procedure_in s.frames (s.depth - 2)) (caller_in s.frames i)) e (a.proper.waits (s.depth - 2) (omega (arith, a.proper.some)))

    -- its row, as the reader asks for it
    pub waiting_asked : StatementOf words sizes waiting Call
    waiting_asked = statement_of words sizes a.formed waits.there waits.calls (omega arith)

    waits_inside : waiting ≤ n words
    waits_inside = waiting_asked.statement.high

    -- its return point
    abbrev back : ℕ
    back = vertex_field words waiting 0

    abbrev caller : Frame
    caller = record { procedure = procedure_in s.frames (s.depth - 2); vertex = waiting; locals = locals_in words s.frames (s.depth - 2) }

    abbrev returned : Configuration
    returned = record { globals = (configuration_of words s).globals; top = placed back caller; below = frames_of words s.frames (s.depth - 2) }

    below_is : (configuration_of words s).below ≡ caller ∷ frames_of words s.frames (s.depth - 2)
    unfolding configuration_of frames_of
    below_is =
        let e : s.depth - 1 ≡ suc (s.depth - 2) = omega (arith, a.proper.some, d) in
        let f : suc (s.depth - 2) ≡ s.depth - 1 = omega (arith, a.proper.some, d) in
        ap (frames_of words s.frames) e ∙ ap (λ (i : ℕ). record { procedure = procedure_in s.frames (s.depth - 2); vertex = caller_in s.frames i; locals = locals_in words s.frames (s.depth - 2) } ∷ frames_of words s.frames (s.depth - 2)) f

    returns : move_of words s listed ≡ goes_to listed back true returned none
    unfolding leave return_by
    returns =
        leaves
        ∙ (ap (λ fs. leave (program words) (configuration_of words s) fs listed) below_is
        ∙ ap (λ o. return_by o caller (frames_of words s.frames (s.depth - 2)) (configuration_of words s).globals listed)
        (statement_is words waiting waits.calls.low waits_inside ∙ ap some (is_call words waiting waits.calls.same)))

    pub exit_refused : (listed ≡ back → ⊥) → Moves words s listed (refused_for ListedVertex s)
    exit_refused b = other_vertex words s a.proper listed back returned returns b

    returned_proper : (v : Vertex) → v.0 ≡ back → Proper words (state_in s.globals s.frames v (s.depth - 1) s.left)
    returned_proper v q =
        let r = a.proper in
        let x = (calls words waiting a.formed.form waits.calls.low waits_inside waits.calls.same).goes in
        let e : s.depth - 2 ≡ s.depth - 1 - 1 = omega arith in
        record {
          some = omega (arith, r.some, d);
          few = omega (arith, r.few);
          long = r.long;
          eight = r.eight;
          small_frames = r.small_frames;
          small_globals = r.small_globals;
          procedures = λ i h. r.procedures i (omega arith);
          waits = λ i h. r.waits i (omega arith);
          here = subst (λ (i : ℕ). MayBe words (procedure_in s.frames i) v.0) e (rw q (may_be words waits.there waits.calls.low x));
        }

    pub exit_moved : (v : Vertex) → v.0 ≡ back → listed ≡ back → Moves words s listed (moved_to v (s.depth - 1) Nothing)
    unfolding configuration_of
    exit_moved v q b =
        let e : s.depth - 2 ≡ s.depth - 1 - 1 = omega arith in
        goes_to_lem words s listed v (s.depth - 1) 0 Nothing no_frame exit_needs (omega arith) tt (returned_proper v q)
        (that_vertex words s listed back returned returns b
        ∙ ap some (λ j. record { globals = (configuration_of words s).globals; top = record { procedure = procedure_in s.frames (e j); vertex = sym q j; locals = locals_in words s.frames (e j) }; below = frames_of words s.frames (e j) }))
