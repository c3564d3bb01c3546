-- V as `valid` reads it, behind a level stretch: one law for each end, and one for a call that doesn't come back with a valid path in it.
use Rattle.std.specs.Prelude.{◌≡◌, ◌⊎◌, true, false, List, [], ℕ, ◌+◌, ◌-◌, ◌≤◌, ◌<◌, ℤ, Ok, Err}
use Rattle.std.proofs.Common.{sym, subst, ◌∙◌, inl, inr, arith}
use Rattle.std.proofs.Math.Path.{ap}
use Rattle.words.specs.Tests.{refusal_on}
use Rattle.programs.specs.Program.{Program, line_at}
use Rattle.programs.specs.ProgramWords.{n}
use Rattle.programs.specs.Decode as decode
use Rattle.programs.proofs.Formed.{no_line}
use Rattle.programs.specs.Moves.{Configuration}
use Rattle.programs.specs.MoveLabels as labels
use Rattle.programs.specs.MoveLabels.{turn_at}
use Rattle.traces.specs.TraceWords.{N, vertex_place}
use Rattle.traces.specs.Replay.{ended}
use Rattle.traces.proofs.ReplayRefusals.{stays_ended}
use Rattle.traces.specs.Stretches.{returns_from, LevelTo, ValidTo}
use Rattle.traces.proofs.StretchLaws.{valid_level, valid_call, not_back, exit_alone}
use Rattle.answers.specs.declared.Refusal.{Refusal}
use Rattle.answers.specs.declared.Reason.TheVariants.{ListedVertex}
use Rattle.answers.specs.Tested.{refusal_at}
use Rattle.run_state.specs.State.{RunState, state_at, configuration_of, frames_of}
use Rattle.run_state.specs.declared.changes.Standing.{Standing}
use Rattle.trace_steps.specs.Runs.{progress_by, standing_at, failed_at, Here, Came}
use Rattle.trace_steps.specs.StepOnLaws.{here_after, failed_stays}
use Rattle.trace_steps.specs.declared.steps.Ran.{Ran}
use Rattle.trace_steps.specs.declared.steps.TraceSizes.{TraceSizes}
use Rattle.valid_paths.specs.Readings.{is_statement, LevelRead, ValidRead}
use Rattle.valid_paths.specs.TurnLaws.{other_returns, statement_turns, no_statement_there}
use Rattle.valid_paths.specs.LevelLaws.{not_passed, standing_at_lem, turn_there}
use Rattle.valid_paths.specs.declared.levels.Stretch.{Stretch}

module _ (program witness entries : List ℤ) (trace : TraceSizes) where
  abbrev plan : Program
  plan = decode.program program

  path_failed : (i j : ℕ) (globals frames : List ℤ) (r : Ran) (q : Refusal) → j ≤ N program witness → Came program witness entries j globals frames r → r.end ≡ Err q → ValidRead program witness entries i globals frames r
  path_failed i j globals frames r q h c e = record { came = failed_stays program witness entries j (N program witness) globals frames r q h c e; valid = λ p. not_passed (sym e ∙ p) }

  module _ (i : ℕ) (globals frames : List ℤ) (start : Standing) (h : Here program witness entries trace i globals frames start) (globals₁ frames₁ : List ℤ) (r : Stretch)
      (y : LevelRead program witness entries i (configuration_of program (state_at globals frames entries start)) globals₁ frames₁ r) where
    abbrev begins : Configuration
    begins = configuration_of program (state_at globals frames entries start)

    pub level_failed : (q : Refusal) → r.ran.end ≡ Err q → ValidRead program witness entries i globals₁ frames₁ r.ran
    level_failed q e = path_failed i r.at globals₁ frames₁ r.ran q y.read.known y.read.came e

    module _ (e : r.ran.end ≡ Ok tt) where
      abbrev state : RunState
      state = state_at globals₁ frames₁ entries (standing_at r.ran)

      level_there : LevelTo program witness i r.at begins (configuration_of program state)
      level_there = y.read.level e

      -- V → M: nothing more
      pub path_ended : r.at ≡ trace.steps → ValidRead program witness entries i globals₁ frames₁ r.ran
      path_ended q =
          let n : r.at ≡ N program witness = q ∙ h.sized.count in
          record {
            came = subst (λ (k : ℕ). Came program witness entries k globals₁ frames₁ r.ran) n y.read.came;
            valid = λ p. subst (ValidTo program witness i) n (valid_level program witness i r.at begins (configuration_of program state) level_there);
          }

      module _ (l : r.at ≡ trace.steps → ⊥) where
        pub before_steps : r.at < trace.steps
        before_steps = omega (arith, y.read.known, h.sized.count, l)

        before_end : r.at < N program witness
        before_end = omega (arith, before_steps, h.sized.count)

        pub goes_on : Here program witness entries trace r.at globals₁ frames₁ (standing_at r.ran)
        goes_on = here_after program witness entries trace i globals frames start h r.at globals₁ frames₁ r.ran y.read.came e y.read.known

        -- main's call is alone
        alone : start.depth ≡ 1 → begins.below ≡ []
        unfolding configuration_of frames_of
        alone d = ap (λ k. frames_of program frames (k - 1)) d

        -- an exit: main's, since a call that doesn't come back comes to none
        pub path_exit : (start.depth ≡ 1) ⊎ (returns_from program witness i ≡ 0) → is_statement trace.sizes r.ran.vertex.0 ≡ false
            → ValidRead program witness entries i globals₁ frames₁ (failed_at (standing_at r.ran) (refusal_at ListedVertex (trace.first + (r.at + 1))))
        unfolding configuration_of progress_by
        path_exit d f = go d
          where
            past : 1 ≤ r.ran.vertex.0 → n program < r.ran.vertex.0
            past = no_statement_there program trace.sizes h.sized.formed.header.statements r.ran.vertex.0 f

            turns_back : turn_at plan r.ran.vertex.0 ≡ labels.returns
            turns_back = other_returns program r.ran.vertex.0 past

            go : (start.depth ≡ 1) ⊎ (returns_from program witness i ≡ 0) → ValidRead program witness entries i globals₁ frames₁ (failed_at (standing_at r.ran) (refusal_at ListedVertex (trace.first + (r.at + 1))))
            go (inr z) = absurd (not_back program witness i r.at begins (configuration_of program state) level_there (standing_at_lem program witness entries trace goes_on) before_end turns_back z)
            go (inl d) =
                let place : vertex_place program witness (r.at + 1) ≡ trace.first + (r.at + 1) = omega (arith, h.sized.place) in
                let line : line_at plan r.ran.vertex.0 ≡ 0 = no_line program r.ran.vertex.0 past in
                let x = exit_alone program witness i r.at begins (configuration_of program state) level_there (standing_at_lem program witness entries trace goes_on) (alone d) turns_back in
                record {
                  came =
                      record {
                        progress = sym (stays_ended program witness (r.at + 1) (N program witness) _ (omega (arith, before_end)) (x ∙ (λ j. ended (refusal_on 10 (place j) (line j)))));
                        proper = goes_on.proper;
                        few_used = goes_on.few_used;
                      };
                  valid = λ p. not_passed p;
                }

        -- V → M ⟨call, i, δ⟩ V
        module _ (f : is_statement trace.sizes r.ran.vertex.0 ≡ true) where
          calls_there : turn_at plan r.ran.vertex.0 ≡ labels.calls
          calls_there = statement_turns program trace.sizes h.sized.formed.header.statements r.ran.vertex.0 f ((y.stops e).moved before_end)

          pub never_back : returns_from program witness (r.at + 1) ≡ 0
          never_back = (y.stops e).unmatched before_end calls_there

          module _ (globals₂ frames₂ : List ℤ) (r₂ : Ran) (m : Came program witness entries (r.at + 1) globals₂ frames₂ r₂) where
            pub call_refused : (q : Refusal) → r₂.end ≡ Err q → ValidRead program witness entries i globals₂ frames₂ r₂
            call_refused q x = path_failed i (r.at + 1) globals₂ frames₂ r₂ q (omega (arith, before_end)) m x

            module _ (x : r₂.end ≡ Ok tt) where
              pub entered : Here program witness entries trace (r.at + 1) globals₂ frames₂ (standing_at r₂)
              entered = here_after program witness entries trace r.at globals₁ frames₁ (standing_at r.ran) goes_on (r.at + 1) globals₂ frames₂ r₂ m x (omega (arith, before_end))

              pub path_on : (globals₃ frames₃ : List ℤ) (r₃ : Ran) → ValidRead program witness entries (r.at + 1) globals₃ frames₃ r₃ → ValidRead program witness entries i globals₃ frames₃ r₃
              path_on globals₃ frames₃ r₃ v =
                  record {
                    came = v.came;
                    valid =
                        λ p.
                        valid_call program witness i r.at begins (configuration_of program state) level_there (standing_at_lem program witness entries trace goes_on) (N program witness) (configuration_of program (state_at globals₂ frames₂ entries (standing_at r₂)))
                        (standing_at_lem program witness entries trace entered) (turn_there program witness entries trace state calls_there) (v.valid p);
                  }
