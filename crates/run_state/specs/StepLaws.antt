-- The step to a listed vertex: the kind of the top call's vertex chooses the case; nothing leaves vertex 0, which is no statement and no exit;
-- the last vertex must be 0, and otherwise the step is the move to the vertex.
use Rattle.std.specs.Prelude.{◌≡◌, Bool, true, false, not, ◌&&◌, List, ℕ, ◌+◌, ◌-◌, eqb, ℤ, pos, length, take}
use Rattle.std.proofs.Math.Path.{refl, sym, ap}
use Rattle.std.proofs.Common.{◌∙◌, arith}
use Rattle.std.proofs.Math.Bool.{cond}
use Rattle.std.proofs.Math.Option.{Option, none}
use borrow.Author.Tests.{ne_eqb}
use Rattle.programs.specs.Program.{statement_at, exit_of}
use Rattle.programs.specs.Decode.{program}
use Rattle.programs.specs.Moves.{Configuration, move_from, move}
use Rattle.traces.specs.Replay.{arrival, listed_move, replay_next}
use Rattle.answers.specs.Answers as answers
use Rattle.answers.specs.declared.Reason.TheVariants.{ListedVertex}
use Rattle.run_state.specs.State.{RunState, line_left, procedure_now, configuration_of, Proper, ComesTo, refused_for, Moves, progress_from, need_of, move_of}
use Rattle.run_state.specs.StateLaws.{refused_as, goes_nowhere}
use Rattle.run_state.specs.declared.changes.Change.{Change}

-- a listed vertex must be 0 where it is the last
last_test : (a b : Bool) (m : Option Configuration) → cond a (cond b m none) m ≡ cond (a && not b) none m
last_test true true m = refl
last_test true false m = refl
last_test false b m = refl

module _ (words : List ℤ) (s : RunState) (listed : ℕ) (q : Proper words s) where
  nothing_leaves : s.vertex.0 ≡ 0 → move_of words s listed ≡ none
  unfolding move move_from statement_at exit_of configuration_of
  nothing_leaves e =
      let l = (q.procedures (s.depth - 1) (omega (arith, q.some))).low in
      rw (e, ne_eqb 0 (length (program words).statements + procedure_now s) (λ d. omega arith)) refl

  pub from_zero : s.vertex.0 ≡ 0 → Moves words s listed (refused_for ListedVertex s)
  from_zero e = goes_nowhere words s q listed (nothing_leaves e)

  module _ (last : Bool) where
    by_test : {t : Bool} → (last && not (eqb listed 0)) ≡ t → listed_move (program words) last (configuration_of words s) (take (need_of words s) s.left) (pos listed) ≡ cond t none (move_of words s listed)
    unfolding listed_move
    by_test e =
        let m = move_of words s listed in
        last_test last (eqb listed 0) m ∙ ap (λ t. cond t none m) e

    pub not_last : (last && not (eqb listed 0)) ≡ true → ComesTo words s (progress_from words s last (pos listed)) (refused_for ListedVertex s)
    unfolding replay_next arrival
    not_last t = refused_as words s q _ (answers.number_of ListedVertex) (λ place. ap (arrival place (line_left words s) (need_of words s) s.left) (by_test t))

    pub step_moves : (last && not (eqb listed 0)) ≡ false → {c : Change} → Moves words s listed c → ComesTo words s (progress_from words s last (pos listed)) c
    unfolding replay_next
    step_moves t m =
        record {
          gives = record { progress = λ place. m.gives.progress place ∙ sym (ap (arrival place (line_left words s) (need_of words s) s.left) (by_test t)); proper = m.gives.proper; kept = m.gives.kept };
          storable = m.storable;
          few_taken = m.few_taken;
        }
