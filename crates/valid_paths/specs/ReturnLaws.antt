-- The return to the call statement that made a call, by what the exit case of the run state promises: from vertex 0 there is no step, and from an
-- exit the step to the return point alone, which isn't the trace's last.
use Rattle.std.specs.Prelude.{◌≡◌, refl, Bool, true, false, ◌&&◌, List, ℕ, ◌+◌, ◌-◌, ◌≤◌, T, eqb, ℤ, pos, negsuc, drop, Ok, Err}
use Rattle.std.proofs.Math.Path.{sym, ap}
use Rattle.std.proofs.Common.{◌∙◌, arith, eq-eqb, ne_eqb}
use Rattle.std.proofs.Math.Bool.{not}
use Rattle.basics.proofs.Booleans.{holds}
use Rattle.words.specs.Words.{word, within}
use Rattle.words.proofs.Ranges.{within_exactly}
use Rattle.words.specs.Tests.{refusal_on}
use Rattle.programs.specs.ProgramWords.{vertex_field}
use Rattle.traces.specs.Replay.{ended}
use Rattle.answers.specs.declared.Reason.TheVariants.{ListedVertex}
use Rattle.answers.specs.Tested.{refusal_at}
use Rattle.program_readers.specs.declared.kinds.Kind.TheVariants.{Exit}
use Rattle.program_readers.specs.declared.places.Vertex.{Vertex}
use Rattle.run_state.specs.Frames.{caller_in}
use Rattle.run_state.specs.State as states
use Rattle.run_state.specs.State.{RunState, state_in, state_at, configuration_of, line_from, OfKind, AtKind, Gives, progress_from}
use Rattle.run_state.specs.Statements.{at_exit, calls}
use Rattle.run_state.specs.ExitLaws.{exit_refused, exit_moved}
use Rattle.run_state.specs.StepLaws.{from_zero, not_last, step_moves}
use Rattle.run_state.specs.declared.changes.Standing.{Standing}
use Rattle.trace_steps.specs.Runs.{progress_by, passed_at, failed_at, Here, Came}
use Rattle.trace_steps.specs.RunLaws.{not_listed, no_statement_line}
use Rattle.trace_steps.specs.StepOnLaws as on
use Rattle.trace_steps.specs.declared.steps.TraceSizes.{TraceSizes}
use Rattle.valid_paths.specs.Readings.{Returning, Above}

module _ (program witness entries : List ℤ) (trace : TraceSizes) (i : ℕ) (globals frames : List ℤ) (here : Standing) (h : Here program witness entries trace i globals frames here) where
  abbrev state : RunState
  state = state_at globals frames entries here

  abbrev last : Bool
  last = eqb (i + 1) trace.steps

  abbrev listed : ℤ
  listed = word witness (trace.first + (i + 1))

  module _ (call : Vertex) (s : Returning program trace.sizes call here) (b : Above program frames call here) where
    -- nothing leaves vertex 0
    zero_by : (z : ℤ) (l : Bool) → here.vertex.0 ≡ 0 → Gives program state (progress_from program state l z) (Err 10) state
    zero_by (negsuc m) l e = not_listed program state l (negsuc m) refl h.proper
    zero_by (pos m) l e = go (l && not (eqb m 0)) refl
      where
        go : (t : Bool) → (l && not (eqb m 0)) ≡ t → Gives program state (progress_from program state l (pos m)) (Err 10) state
        go true q = (not_last program state m h.proper l q).gives
        go false q = (step_moves program state m h.proper l q (from_zero program state m h.proper e)).gives

    pub zero_failed : here.vertex.0 ≡ 0 → Came program witness entries (i + 1) globals frames (failed_at here (refusal_at ListedVertex (trace.first + (i + 1))))
    unfolding progress_by states.progress_by configuration_of
    zero_failed e =
        record {
          progress = sym (on.progresses program witness entries trace i globals frames here h (zero_by listed last e) ∙ ap (λ m. ended (refusal_on 10 (trace.first + (i + 1)) m)) (sym (no_statement_line program 10 here.vertex.0 (λ l. absurd (omega arith)))));
          proper = h.proper;
          few_used = h.few_used;
        }

  module _ (call : Vertex) (s : Returning program trace.sizes call here) (b : Above program frames call here) (low : here.vertex.0 ≡ 0 → ⊥) where
    kind_six : OfKind program here.vertex.0 Exit
    kind_six = b.exit (omega (arith, low))

    exits : AtKind program trace.sizes state Exit
    exits = record { formed = h.sized.formed; proper = h.proper; vertex = kind_six }

    deep : here.depth ≡ 1 → ⊥
    deep e = omega (arith, s.deep)

    abbrev back : ℕ
    back = vertex_field program (caller_in frames (here.depth - 1)) 0

    back_is : vertex_field program call.0 0 ≡ back
    back_is = ap (λ v. vertex_field program v 0) (sym b.caller)

    -- a return point is a vertex
    back_low : 1 ≤ back
    back_low =
        let x = s.statement.statement in
        rw b.caller (calls program call.0 h.sized.formed.form x.low x.high s.statement.same).back_low

    no_line : 0 ≡ line_from program 10 here.vertex.0
    no_line = no_statement_line program 10 here.vertex.0 (λ l. at_exit program here.vertex.0 h.sized.formed.form kind_six.low h.proper.here.known kind_six.same)

    -- to another vertex, or with the trace's last
    refused_by : (z : ℤ) (l : Bool) → (z ≡ pos back → T l) → Gives program state (progress_from program state l z) (Err 10) state
    refused_by (negsuc m) l d = not_listed program state l (negsuc m) refl h.proper
    refused_by (pos m) l d = go (l && not (eqb m 0)) refl
      where
        other : (l && not (eqb m 0)) ≡ false → m ≡ back → ⊥
        other e q = wrong l e (d (ap pos q))
          where
            wrong : (l : Bool) → (l && not (eqb m 0)) ≡ false → T l → ⊥
            wrong true e t = let z : not (eqb m 0) ≡ true = ap not (ne_eqb m 0 (λ x. omega (arith, back_low))) in let y : ◌≡◌ {A = Bool} true false = sym z ∙ e in let u : ◌≡◌ {A = ℕ} 0 1 = cc in omega arith
            wrong false e t = t

        go : (t : Bool) → (l && not (eqb m 0)) ≡ t → Gives program state (progress_from program state l (pos m)) (Err 10) state
        go true e = (not_last program state m h.proper l e).gives
        go false e = (step_moves program state m h.proper l e (exit_refused program trace.sizes state m exits deep (other e))).gives

    pub back_failed : (listed ≡ pos back → T last) → Came program witness entries (i + 1) globals frames (failed_at here (refusal_at ListedVertex (trace.first + (i + 1))))
    unfolding progress_by states.progress_by configuration_of
    back_failed d =
        record { progress = sym (on.progresses program witness entries trace i globals frames here h (refused_by listed last d) ∙ ap (λ m. ended (refusal_on 10 (trace.first + (i + 1)) m)) (sym no_line)); proper = h.proper; few_used = h.few_used }

    pub back_passed : (v : Vertex) → v.0 ≡ vertex_field program call.0 0 → listed ≡ pos v.0 → last ≡ false → Came program witness entries (i + 1) globals frames (passed_at (record { vertex = v; depth = here.depth - 1; used = here.used }))
    unfolding progress_by states.progress_by
    back_passed v q e l =
        let x = (step_moves program state v.0 h.proper last (ap (λ b. b && not (eqb v.0 0)) l) (exit_moved program trace.sizes state v.0 exits deep v (q ∙ back_is) (q ∙ back_is))).gives in
        let given : Gives program state (progress_from program state last listed) (Ok tt) (state_in globals frames v (here.depth - 1) (drop here.used entries)) = rw e x in
        record { progress = sym (on.progresses program witness entries trace i globals frames here h given); proper = x.proper; few_used = h.few_used }

    -- as the code tests: the word against the return point, and whether the vertex is the last
    pub back_other : (v : Vertex) → v.0 ≡ vertex_field program call.0 0 → within v.0 v.0 listed ≡ false → Came program witness entries (i + 1) globals frames (failed_at here (refusal_at ListedVertex (trace.first + (i + 1))))
    back_other v q e = back_failed (λ d. absurd (rw e at ((within_exactly v.0 listed).1 (d ∙ ap pos (sym (q ∙ back_is))))))

    pub back_last : i + 1 ≡ trace.steps → Came program witness entries (i + 1) globals frames (failed_at here (refusal_at ListedVertex (trace.first + (i + 1))))
    back_last e = back_failed (λ d. holds (eq-eqb (i + 1) trace.steps e))

    pub back_on : (v : Vertex) → v.0 ≡ vertex_field program call.0 0 → within v.0 v.0 listed ≡ true → (i + 1 ≡ trace.steps → ⊥)
        → Came program witness entries (i + 1) globals frames (passed_at (record { vertex = v; depth = here.depth - 1; used = here.used }))
    back_on v q e d = back_passed v q ((within_exactly v.0 listed).0 (holds e)) (ne_eqb (i + 1) trace.steps d)
