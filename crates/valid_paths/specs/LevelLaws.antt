-- M as `level`, `level_part` and `matched_call` read it: one law for each way on and each end. A part that is read makes the level stretch before it
-- longer, M → M M; a part that isn't is ε.
use Rattle.std.specs.Prelude.{◌≡◌, refl, ℕ, suc, ◌+◌, ◌-◌, ◌≤◌, ◌<◌, ℤ, length, get_or, Result, Ok, Err}
use Rattle.std.proofs.Math.Path.{sym, ap}
use Rattle.std.proofs.Common.{subst, ◌∙◌, arith}
use mathlib.Core.List.{List, ◌∷◌}
use Rattle.programs.specs.Program.{Program}
use Rattle.programs.specs.ValidPaths.{Level, join}
use Rattle.programs.specs.Decode as decode
use Rattle.programs.specs.Moves.{Frame, Configuration}
use Rattle.programs.specs.MoveLabels as labels
use Rattle.programs.specs.MoveLabels.{turn_at, Called}
use Rattle.traces.specs.TraceWords.{N}
use Rattle.traces.specs.Stretches.{LevelTo}
use Rattle.traces.specs.StretchLaws.{Stands}
use Rattle.traces.proofs.StretchLaws.{stands_at, labels_join, level_none, level_inside, called, level_call, not_ended, not_unmatched}
use Rattle.answers.specs.declared.Refusal.{Refusal}
use Rattle.run_state.specs.Frames.{caller_in}
use Rattle.run_state.specs.State.{RunState, state_at, configuration_of, frames_of}
use Rattle.run_state.specs.StateLaws.{depth_below}
use Rattle.run_state.specs.StatementLaws.{statement_of}
use Rattle.run_state.specs.declared.changes.Standing.{Standing}
use Rattle.trace_steps.specs.Runs.{progress_by, standing_at, passed_at, Here, Came}
use Rattle.trace_steps.specs.StepOnLaws.{here_after}
use Rattle.trace_steps.specs.declared.steps.Ran.{Ran}
use Rattle.trace_steps.specs.declared.steps.TraceSizes.{TraceSizes}
use Rattle.valid_paths.specs.Readings.{Table, Matched, Returning, Above, stretch_at, Stops, PartRead, LevelRead}
use Rattle.valid_paths.specs.TurnLaws.{call_kind, exit_kind}
use Rattle.valid_paths.specs.declared.levels.Stretch.{Stretch}

pub not_passed : {q : Refusal} {X : Type 0} → ◌≡◌ {A = Result Unit Refusal} (Err q) (Ok tt) → X
not_passed e = absurd (let z : ◌≡◌ {A = ℕ} 0 1 = cc in omega arith)

-- a turn that neither stays nor calls returns
returns_else : (t : labels.Turn) → (t ≡ labels.stays → ⊥) → (t ≡ labels.calls → ⊥) → t ≡ labels.returns
returns_else labels.stays a b = absurd (a refl)
returns_else labels.calls a b = absurd (b refl)
returns_else labels.returns a b = refl

-- two turns are not one
pub stays_calls : {t : labels.Turn} {X : Type 0} → t ≡ labels.stays → t ≡ labels.calls → X
stays_calls a b = absurd (let e : labels.stays ≡ labels.calls = sym a ∙ b in let z : ◌≡◌ {A = ℕ} 0 1 = cc in omega arith)

pub stays_returns : {t : labels.Turn} {X : Type 0} → t ≡ labels.stays → t ≡ labels.returns → X
stays_returns a b = absurd (let e : labels.stays ≡ labels.returns = sym a ∙ b in let z : ◌≡◌ {A = ℕ} 0 1 = cc in omega arith)

pub calls_returns : {t : labels.Turn} {X : Type 0} → t ≡ labels.calls → t ≡ labels.returns → X
calls_returns a b = absurd (let e : labels.calls ≡ labels.returns = sym a ∙ b in let z : ◌≡◌ {A = ℕ} 0 1 = cc in omega arith)

module _ (program witness entries : List ℤ) (trace : TraceSizes) where
  abbrev plan : Program
  plan = decode.program program

  -- M → M M
  level_join : (i j k : ℕ) (c d e : Configuration) → LevelTo program witness i j c d → LevelTo program witness j k d e → LevelTo program witness i k c e
  level_join i j k c d e x y =
      record {
        more = omega (arith, x.more, y.more);
        known = y.known;
        level = subst Level (sym (labels_join program witness i j k x.more y.more)) (join x.level y.level);
        below = y.below ∙ x.below;
        due = x.due ∙ y.due;
      }

  pub standing_at_lem : {i : ℕ} {globals frames : List ℤ} {here : Standing} → Here program witness entries trace i globals frames here → Stands program witness i (configuration_of program (state_at globals frames entries here))
  standing_at_lem {i} {globals} {frames} {here} h = stands_at program witness h.sized.formed.form h.sized.form i (configuration_of program (state_at globals frames entries here)) _ h.came

  pub turn_there : (s : RunState) {t : labels.Turn} → turn_at plan s.vertex.0 ≡ t → turn_at plan (configuration_of program s).top.vertex ≡ t
  unfolding configuration_of
  turn_there s e = e

  -- ---- what is refused

  pub part_failed : (i : ℕ) (c : Configuration) (j : ℕ) (globals frames : List ℤ) (r : Ran) (q : Refusal) → i ≤ j → j ≤ N program witness → Came program witness entries j globals frames r → r.end ≡ Err q
      → PartRead program witness entries i c globals frames (stretch_at j r)
  part_failed i c j globals frames r q l h x e = record { read = record { more = l; known = h; came = x; level = λ p. not_passed (sym e ∙ p) }; empty = λ p. not_passed (sym e ∙ p) }

  module _ (i : ℕ) (globals frames : List ℤ) (here : Standing) (h : Here program witness entries trace i globals frames here) where
    abbrev state : RunState
    state = state_at globals frames entries here

    abbrev c : Configuration
    c = configuration_of program state

    -- ---- M → ε

    came_here : Came program witness entries i globals frames (passed_at here)
    unfolding progress_by
    came_here = record { progress = sym h.came; proper = h.proper; few_used = h.few_used }

    pub part_empty : Stops program witness i here.vertex.0 → PartRead program witness entries i c globals frames (stretch_at i (passed_at here))
    part_empty s = record { read = record { more = omega arith; known = h.known; came = came_here; level = λ p. level_none program witness i c h.known }; empty = λ p e. s }

    pub stops_before_return : turn_at plan here.vertex.0 ≡ labels.returns → Stops program witness i here.vertex.0
    stops_before_return t = record { moved = λ l s. stays_returns s t; unmatched = λ l s. calls_returns s t }

    pub stops_before_call : (table : List ℕ) → Table program witness table → turn_at plan here.vertex.0 ≡ labels.calls → get_or table (i + 1) 0 ≡ 0 → Stops program witness i here.vertex.0
    stops_before_call table f t z = record { moved = λ l s. stays_calls s t; unmatched = λ l s. sym (f.filled (i + 1) (omega arith)) ∙ z }

    -- ---- M → σ

    pub part_step : i < trace.steps → turn_at plan here.vertex.0 ≡ labels.stays → (globals' frames' : List ℤ) (r : Ran) → Came program witness entries (i + 1) globals' frames' r
        → PartRead program witness entries i c globals' frames' (stretch_at (i + 1) r)
    part_step l t globals' frames' r m =
        let few : i < N program witness = omega (arith, h.sized.count) in
        record {
          read =
              record {
                more = omega arith;
                known = omega (arith, few);
                came = m;
                level =
                    λ p.
                    level_inside program witness i i c c (level_none program witness i c h.known) (standing_at_lem h) few (configuration_of program (state_at globals' frames' entries (standing_at r)))
                    (standing_at_lem (here_after program witness entries trace i globals frames here h (i + 1) globals' frames' r m p (omega (arith, few)))) (turn_there state t);
              };
          empty = λ p e. absurd (omega arith);
        }

    -- ---- M → ⟨call, i, δ⟩ M ⟨ret, i, δ⟩

    pub matched_call : (table : List ℕ) → Table program witness table → i < trace.steps → turn_at plan here.vertex.0 ≡ labels.calls → (get_or table (i + 1) 0 ≡ 0 → ⊥) → Matched program witness i here.vertex.0
    matched_call table f l t z =
        let e = f.filled (i + 1) (omega (arith, h.sized.count)) in
        record { before = omega (arith, h.sized.count); calls = t; back = omega (arith, z) }

    module _ (m : Matched program witness i here.vertex.0) (globals₁ frames₁ : List ℤ) (r₁ : Ran) (m₁ : Came program witness entries (i + 1) globals₁ frames₁ r₁) where
      pub call_failed : (q : Refusal) → r₁.end ≡ Err q → PartRead program witness entries i c globals₁ frames₁ (stretch_at (i + 1) r₁)
      call_failed q e = part_failed i c (i + 1) globals₁ frames₁ r₁ q (omega arith) (omega (arith, m.before)) m₁ e

      module _ (e₁ : r₁.end ≡ Ok tt) where
        pub entered : Here program witness entries trace (i + 1) globals₁ frames₁ (standing_at r₁)
        entered = here_after program witness entries trace i globals frames here h (i + 1) globals₁ frames₁ r₁ m₁ e₁ (omega (arith, m.before))

        abbrev inner : Configuration
        inner = configuration_of program (state_at globals₁ frames₁ entries (standing_at r₁))

        made : Called plan c inner
        made = called program witness i i c c (level_none program witness i c h.known) (standing_at_lem h) m.before inner (standing_at_lem entered) (turn_there state m.calls) m.back

        module _ (globals₂ frames₂ : List ℤ) (r : Stretch) (y : LevelRead program witness entries (i + 1) inner globals₂ frames₂ r) where
          pub inside_failed : (q : Refusal) → r.ran.end ≡ Err q → PartRead program witness entries i c globals₂ frames₂ r
          inside_failed q e = part_failed i c r.at globals₂ frames₂ r.ran q (omega (arith, y.read.more)) y.read.known y.read.came e

          module _ (e₂ : r.ran.end ≡ Ok tt) where
            abbrev outer : RunState
            outer = state_at globals₂ frames₂ entries (standing_at r.ran)

            level_there : LevelTo program witness (i + 1) r.at inner (configuration_of program outer)
            level_there = y.read.level e₂

            pub exit_here : Here program witness entries trace r.at globals₂ frames₂ (standing_at r.ran)
            exit_here = here_after program witness entries trace i globals frames here h r.at globals₂ frames₂ r.ran y.read.came e₂ y.read.known

            -- the trace goes on
            pub before_end : r.at < N program witness
            before_end = let n : r.at ≡ N program witness → ⊥ = not_ended program witness (i + 1) r.at inner (configuration_of program outer) level_there m.back in omega (arith, y.read.known, n)

            -- with the call's return
            turns_back : turn_at plan r.ran.vertex.0 ≡ labels.returns
            turns_back =
                returns_else (turn_at plan r.ran.vertex.0) ((y.stops e₂).moved before_end)
                (λ t. not_unmatched program witness (i + 1) r.at inner (configuration_of program outer) level_there m.back (standing_at_lem exit_here) before_end (turn_there outer t) ((y.stops e₂).unmatched before_end t))

            below : (configuration_of program outer).below ≡ c.top ∷ c.below
            below = level_there.below ∙ made.below

            deeper : r.ran.depth ≡ here.depth + 1
            deeper =
                let a = depth_below program outer exit_here.proper in
                let b = depth_below program state h.proper in
                let e : length (configuration_of program outer).below ≡ suc (length c.below) = ap (length {A = Frame}) below in
                omega (arith, a, b, e)

            pub returning : Returning program trace.sizes here.vertex (standing_at r.ran)
            returning =
                let k = call_kind program here.vertex.0 m.calls in
                record {
                  statement = statement_of program trace.sizes h.sized.formed h.proper.here (record { low = k.0; same = k.2 }) (omega arith);
                  deep = omega (arith, deeper, h.proper.some);
                }

            waits_there : (j : ℕ) → r.ran.depth - 1 ≡ suc j → caller_in frames₂ (r.ran.depth - 1) ≡ here.vertex.0
            unfolding configuration_of frames_of
            waits_there j e = ap (caller_in frames₂) e ∙ ap (λ (fs : List Frame). (get_or fs 0 c.top).vertex) (ap (frames_of program frames₂) (sym e) ∙ below)

            pub above : Above program frames₂ here.vertex (standing_at r.ran)
            above =
                record {
                  exit = λ l. record { low = l; same = exit_kind program r.ran.vertex.0 h.sized.formed.form turns_back l exit_here.proper.here.known };
                  caller = waits_there (here.depth - 1) (omega (arith, deeper, h.proper.some));
                }

            pub part_back : (r₂ : Ran) → Came program witness entries (r.at + 1) globals₂ frames₂ r₂ → PartRead program witness entries i c globals₂ frames₂ (stretch_at (r.at + 1) r₂)
            part_back r₂ m₂ =
                record {
                  read =
                      record {
                        more = omega (arith, y.read.more);
                        known = omega (arith, before_end);
                        came = m₂;
                        level =
                            λ p.
                            level_call program witness i i c c (level_none program witness i c h.known) (standing_at_lem h) m.before inner (standing_at_lem entered) (turn_there state m.calls) m.back r.at
                            (configuration_of program outer) (configuration_of program (state_at globals₂ frames₂ entries (standing_at r₂))) level_there (standing_at_lem exit_here) (turn_there outer turns_back) before_end
                            (standing_at_lem (here_after program witness entries trace i globals frames here h (r.at + 1) globals₂ frames₂ r₂ m₂ p (omega (arith, before_end))));
                      };
                  empty = λ p e. absurd (omega (arith, y.read.more));
                }

  -- ---- M → M M

  -- what a loop that began after i steps, in configuration c, knows after j
  pub record Reading (i : ℕ) (c : Configuration) (j : ℕ) (globals frames : List ℤ) (here : Standing) : Type 0 where
    pub stands : Here program witness entries trace j globals frames here
    pub level : LevelTo program witness i j c (configuration_of program (state_at globals frames entries here))

  pub reading_first : (i : ℕ) (globals frames : List ℤ) (here : Standing) → Here program witness entries trace i globals frames here → Reading i (configuration_of program (state_at globals frames entries here)) i globals frames here
  reading_first i globals frames here h = record { stands = h; level = level_none program witness i (configuration_of program (state_at globals frames entries here)) h.known }

  module _ (i : ℕ) (c : Configuration) (j : ℕ) (globals frames : List ℤ) (here : Standing) (x : Reading i c j globals frames here) where
    -- to the trace's end
    pub read_ended : (j < trace.steps → ⊥) → LevelRead program witness entries i c globals frames (stretch_at j (passed_at here))
    unfolding progress_by
    read_ended l =
        let ended : j < N program witness → ⊥ = λ h. l (omega (arith, x.stands.sized.count)) in
        record {
          read =
              record {
                more = x.level.more;
                known = x.stands.known;
                came = record { progress = sym x.stands.came; proper = x.stands.proper; few_used = x.stands.few_used };
                level = λ p. x.level;
              };
          stops = λ p. record { moved = λ h s. ended h; unmatched = λ h s. absurd (ended h) };
        }

    module _ (globals₁ frames₁ : List ℤ) (r : Stretch) (y : PartRead program witness entries j (configuration_of program (state_at globals frames entries here)) globals₁ frames₁ r) where
      pub read_failed : (q : Refusal) → r.ran.end ≡ Err q → LevelRead program witness entries i c globals₁ frames₁ r
      read_failed q e =
          record {
            read = record { more = omega (arith, x.level.more, y.read.more); known = y.read.known; came = y.read.came; level = λ p. not_passed (sym e ∙ p) };
            stops = λ p. not_passed (sym e ∙ p);
          }

      module _ (e : r.ran.end ≡ Ok tt) where
        joined : LevelTo program witness i r.at c (configuration_of program (state_at globals₁ frames₁ entries (standing_at r.ran)))
        joined = level_join i j r.at c _ _ x.level (y.read.level e)

        -- where no other part begins
        pub read_stopped : r.at ≡ j → LevelRead program witness entries i c globals₁ frames₁ r
        read_stopped q = record { read = record { more = joined.more; known = y.read.known; came = y.read.came; level = λ p. joined }; stops = λ p. y.empty p q }

        pub reading_on : Reading i c r.at globals₁ frames₁ (standing_at r.ran)
        reading_on = record { stands = here_after program witness entries trace j globals frames here x.stands r.at globals₁ frames₁ r.ran y.read.came e y.read.known; level = joined }
