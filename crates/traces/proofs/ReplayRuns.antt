-- The replay is a run: after i steps it stands at a configuration, with some entry values left, if and only if there is a run of i steps from
-- the listed start through the listed vertices, inside the limits, whose calls are entered with the entry values before those, to a state of
-- that configuration (with vertex 0 last). By induction over the steps, since the executable steps are the report's.
use Rattle.std.proofs.Math.Path.{◌≡◌, refl, sym, ap, ap₂, subst}
use Rattle.std.proofs.Common.{◌∙◌, eq-eqb, eqb-true, take-append-drop, take_at, drop_at}
use Rattle.std.specs.Prelude.{◌↔◌, Bool, cond, eqb, ℤ, negsuc, take, drop}
use Prim.Native.Nat.{ℕ, zero, suc, ◌+◌, ◌≤◌}
use native.Mathlib.Omega.{arith}
use Rattle.std.proofs.Math.Bool.{true, false}
use Rattle.std.proofs.Math.Option.{Option, none, some}
use mathlib.Core.List.Memᴰ
use mathlib.Core.List.{List, [], ◌∷◌, Memᴰ, ◌++◌, append-nil, append_assoc}
use Rattle.std.proofs.Math.Dec.{T, eqb→eq}
use Rattle.std.proofs.Math.IntN.{pos}
use Rattle.std.proofs.Math.ListN.{length, length-append, length-take}
use Rattle.basics.proofs.Booleans.{holds, is_true}
use Rattle.basics.specs.Integers.{eq_z}
use Rattle.basics.proofs.Integers.{ints, eq_z→eq, eq→eqZ}
use Rattle.words.specs.Limits.{most_steps, value_limit}
use Rattle.words.specs.Words.{word}
use Rattle.words.proofs.Ranges.{number_between}
use Rattle.words.specs.Tests.{Refusal, first_failure, refusal_at}
use Rattle.programs.specs.Program.{Program, line_at}
use Rattle.programs.specs.Runs.{State, entered, Step, Run, start, ◌then◌, initial, visited, origin, entered_with, entry_values}
use Rattle.programs.specs.Moves.{Configuration, configuration, move, needed}
use Rattle.programs.specs.StepsMove.{StepTo}
use Rattle.programs.proofs.StepsMove.{nowhere, step_moves, move_steps, entered_length, moves_alike}
use Rattle.programs.specs.RunWidths.{Wide}
use Rattle.programs.proofs.RunWidths.{run_wide}
use Rattle.programs.specs.ProgramWords.{p, G, locals}
use Rattle.programs.specs.ProgramForm.{ProgramForm}
use Rattle.programs.proofs.Formed.{program_formed}
use Rattle.programs.proofs.DecodedNumbers.{some_procedure_lem, parameters_of_lem, others_of_lem}
use Rattle.programs.specs.Decode as decode
use Rattle.traces.specs.TraceWords.{N, start_globals, start_arguments, start_others, vertex_place, vertex_word, listed_entry_values}
use Rattle.traces.specs.TraceForm.{TraceForm}
use Rattle.traces.specs.Replay.{Progress, at, ended, all_values, arrival_tests, arrived, arrival, listed_move, replay_next, initial_configuration, replayed_to}
use Rattle.traces.specs.TracedRuns.{waiting_values, state_values, Limited, listed_start, listed_vertices, Traced}
use Rattle.traces.proofs.StartValues.{globals_length_lem, arguments_length, others_length, start_locals, start_part}
use Rattle.traces.proofs.LimitLaws.{values_append, arrives_iff, enough_left, limited_arrives, arrives_limited}
use Rattle.traces.specs.ReplayRuns.{Arrival, ComesTo, NextState, Replayed, StepMade, last_next, places_of, plan, replay_from}

-- ---- one vertex

pub ended_not : {r : Refusal} {c : Configuration} {left : List ℤ} → ended r ≡ at c left → ⊥
ended_not e = let z : ◌≡◌ {A = ℕ} 0 1 = cc in omega arith

same_at : {c d : Configuration} {l m : List ℤ} → at c l ≡ at d m → (c ≡ d) × (l ≡ m)
same_at e = (cc, cc)

pub arrival_at : (place line need : ℕ) (left : List ℤ) (o : Option Configuration) (c : Configuration) (after : List ℤ) → arrival place line need left o ≡ at c after → Arrival place line need left o c after
unfolding arrival arrived
arrival_at place line need left none c after e = absurd (ended_not e)
arrival_at place line need left (some m) c after e = go (first_failure (arrival_tests place line need left m)) refl e
  where
    go : (o : Option Refusal) → first_failure (arrival_tests place line need left m) ≡ o → arrived m (drop need left) o ≡ at c after → Arrival place line need left (some m) c after
    go none q e =
        let h = same_at e in
        record { moves = ap some h.0; passes = subst (λ (d : Configuration). first_failure (arrival_tests place line need left d) ≡ none) h.0 q; rest = h.1 }
    go (some r) q e = absurd (ended_not e)

at_arrival : (place line need : ℕ) (left : List ℤ) (c : Configuration) → first_failure (arrival_tests place line need left c) ≡ none → arrival place line need left (some c) ≡ at c (drop need left)
unfolding arrival arrived
at_arrival place line need left c e = rw e refl

pub listed_move_lem : (p : Program) (last : Bool) (c m : Configuration) (others : List ℤ) (v : ℕ) → listed_move p last c others (pos v) ≡ some m → (move p c others v ≡ some m) × (T last → v ≡ 0)
unfolding listed_move
listed_move_lem p true c m others v e = go (eqb v 0) refl e
  where
    go : (b : Bool) → eqb v 0 ≡ b → cond b (move p c others v) none ≡ some m → (move p c others v ≡ some m) × (T true → v ≡ 0)
    go true q e = (e, λ _. eqb-true v 0 q)
    go false q e = nowhere e
listed_move_lem p false c m others v e = (e, λ t. absurd t)

move_listed_lem : (p : Program) (last : Bool) (c : Configuration) (others : List ℤ) (v : ℕ) → (T last → v ≡ 0) → listed_move p last c others (pos v) ≡ move p c others v
unfolding listed_move
move_listed_lem p true c others v h = rw (eq-eqb v 0 (h tt)) refl
move_listed_lem p false c others v h = refl

module _ (p : Program) (last : Bool) where
  pub move_next : (z : ℤ) (s : State) (others : List ℤ) (c : Configuration) → Wide p s → length others ≡ needed p (configuration s) → listed_move p last (configuration s) others z ≡ some c → NextState p last z s others c
  unfolding listed_move
  move_next (pos v) s others c w o e = let m = listed_move_lem p last (configuration s) c others v e in go (move_steps p s others v c w o m.0) m.1
    where
      go : StepTo p s others v c → (T last → v ≡ 0) → NextState p last (pos v) s others c
      go x f = record { state = x.state; step = x.step; configured = x.configured; vertex = ap pos (sym x.vertex); final = λ h. x.vertex ∙ f h; entered = x.entered }
  move_next (negsuc v) s others c w o e = nowhere e

  pub next_move : {s t : State} → 1 ≤ s.top.procedure → (step : Step p s t) → (T last → t.top.vertex ≡ 0) → listed_move p last (configuration s) (entered_with step) (pos t.top.vertex) ≡ some (configuration t)
  next_move {s} {t} l step h = move_listed_lem p last (configuration s) (entered_with step) t.top.vertex h ∙ step_moves p l step

  -- whether there is a step, and how deep it leads, is the same with other values
  pub other_values : (c m : Configuration) (some-values others : List ℤ) (z : ℤ) → listed_move p last c some-values z ≡ some m
      → (n : Configuration) × (listed_move p last c others z ≡ some n) × (n.below ≡ m.below)
  unfolding listed_move
  other_values c m some-values others (pos v) e =
      let x = listed_move_lem p last c m some-values v e in
      let y = moves_alike p c m some-values others v x.0 in
      (y.arrives, move_listed_lem p last c others v x.1 ∙ y.moves, y.alike)
  other_values c m some-values others (negsuc v) e = nowhere e

-- the first so many of a list
first_of_lem : (xs ys : List ℤ) (n : ℕ) → length xs ≡ n → (take n (xs ++ ys) ≡ xs) × (drop n (xs ++ ys) ≡ ys)
first_of_lem xs ys n e = (take_at xs ys n e, drop_at xs ys n e)

module _ (p : Program) (last : Bool) (place : ℕ) where
  next_steps : (z : ℤ) (s : State) (left : List ℤ) (c : Configuration) (after : List ℤ) → Wide p s → Limited s → replay_next p last place z (at (configuration s) left) ≡ at c after → (StepMade p last place) z s left c after
  unfolding replay_next
  next_steps z s left c after w l e =
      let line = line_at p s.top.vertex in
      let need = needed p (configuration s) in
      let a = arrival_at place line need left (listed_move p last (configuration s) (take need left) z) c after e in
      let enough = enough_left place line need left c a.passes in
      let n = move_next p last z s (take need left) c w (rw length-take (omega (arith, enough))) a.moves in
      record {
        next = n;
        within = arrives_limited p n.step l ((arrives_iff place line need left n.state).0 (subst (λ (d : Configuration). first_failure (arrival_tests place line need left d) ≡ none) (sym n.configured) a.passes)).0;
        uses = sym (take-append-drop need left) ∙ ap₂ (λ (xs ys : List ℤ). xs ++ ys) (sym n.entered) a.rest;
      }

  steps_next : {s t : State} → 1 ≤ s.top.procedure → (step : Step p s t) (after : List ℤ) → Limited t → (T last → t.top.vertex ≡ 0)
      → replay_next p last place (pos t.top.vertex) (at (configuration s) (entered_with step ++ after)) ≡ at (configuration t) after
  unfolding replay_next
  steps_next {s} {t} l step after k h =
      let line = line_at p s.top.vertex in
      let need = needed p (configuration s) in
      let values = entered_with step in
      let size : length values ≡ need = entered_length p l step in
      let first = first_of_lem values after need size in
      ap (λ (others : List ℤ). arrival place line need (values ++ after) (listed_move p last (configuration s) others (pos t.top.vertex))) first.0
      ∙ (ap (arrival place line need (values ++ after)) (next_move p last l step h)
      ∙ (at_arrival place line need (values ++ after) (configuration t) ((arrives_iff place line need (values ++ after) t).1 (limited_arrives t k, simp length-append (omega (arith, size))))
      ∙ ap (at (configuration t)) first.1))

-- ---- all of them

last_visited : {p : Program} {s : State} (run : Run p s) → Memᴰ s (visited run)
unfolding visited
last_visited (start gs arguments others hg ha ho) = Memᴰ.head refl
last_visited (◌then◌ run step) = Memᴰ.head refl

module _ (program witness : List ℤ) (f : ProgramForm program) (g : TraceForm program witness) where
  -- ---- the start

  start_limited : Limited (listed_start program witness)
  unfolding listed_start initial entered state_values waiting_values
  start_limited =
      record {
        calls = omega arith;
        values = rw (append-nil, start_locals program witness f g) ((values_append value_limit (start_globals program witness) _).1 (globals_within, start_part program witness g (G program) (locals program 1) (omega arith)));
      }
    where
      globals_within : T (all_values value_limit (start_globals program witness))
      globals_within = unfold start_globals in start_part program witness g 0 (G program) (omega arith)

  begun_at : vertex_word program witness 0 ≡ pos 1 → Traced program witness 0
  unfolding listed_start listed_vertices visited origin entry_values initial entered decode.program
  begun_at e =
      let some = some_procedure_lem program f in
      let arguments = arguments_length program witness f g ∙ sym (parameters_of_lem program 1 (omega arith) some) in
      let others = others_length program witness f g ∙ sym (others_of_lem program 1 (omega arith) some) in
      record {
        state = listed_start program witness;
        run = start (start_globals program witness) (start_arguments program witness) (start_others program witness) (globals_length_lem program witness f g) arguments others;
        begins = refl;
        listed = ap (λ (z : ℤ). z ∷ []) (sym e);
        limited = λ s m. subst Limited (sym (Memᴰ.eq_of_singleton m)) start_limited;
        left = listed_entry_values program witness;
        enters = refl;
      }

  -- one vertex more, with the entry values that are left after it
  traced_more : (i : ℕ) (x : Traced program witness i) (last : Bool) (others : List ℤ) (c : Configuration) (n : NextState (plan program witness f g) last (vertex_word program witness (i + 1)) x.state others c) → Limited n.state
      → (after : List ℤ) → x.left ≡ entered_with n.step ++ after → Traced program witness (suc i)
  unfolding listed_vertices visited origin entry_values
  traced_more i x last others c n l after u =
      record {
        state = n.state;
        run = ◌then◌ x.run n.step;
        begins = x.begins;
        listed = ap₂ (λ (z : ℤ) (zs : List ℤ). z ∷ zs) (sym n.vertex) x.listed;
        limited = limits;
        left = after;
        enters = x.enters ∙ (ap (λ (l : List ℤ). entry_values x.run ++ l) u ∙ sym (append_assoc (entry_values x.run) (entered_with n.step) after));
      }
    where
      limits : (s : State) → Memᴰ s (n.state ∷ visited x.run) → Limited s
      limits s (Memᴰ.head e) = subst Limited (sym e) l
      limits s (Memᴰ.tail m) = x.limited s m

  last_limited : (i : ℕ) (x : Traced program witness i) → Limited x.state
  last_limited i x = x.limited x.state (last_visited x.run)

  first_replayed : (c : Configuration) (left : List ℤ) (b : Bool) → eq_z (vertex_word program witness 0) (pos 1) ≡ b
      → cond b (at (initial_configuration (start_globals program witness) (start_arguments program witness) (start_others program witness)) (listed_entry_values program witness)) (ended (refusal_at 10 (vertex_place program witness 0))) ≡ at c left
      → (Replayed program witness f g) 0 c left
  unfolding initial_configuration listed_start initial entered begun_at
  first_replayed c left true q e =
      let h = same_at e in record { traced = begun_at (eq_z→eq (vertex_word program witness 0) (pos 1) (holds q)); configured = h.0; leaves = h.1; final = λ l. absurd (omega arith) }
  first_replayed c left false q e = absurd (ended_not e)

  next_replayed : (i : ℕ) (c : Configuration) (left : List ℤ) → ((d : Configuration) (l : List ℤ) → replayed_to program witness i ≡ at d l → (Replayed program witness f g) i d l) → (s : Progress) → replayed_to program witness i ≡ s
      → replay_from program witness i s ≡ at c left → (Replayed program witness f g) (suc i) c left
  unfolding replay_next traced_more
  next_replayed i c left before (ended r) q e = absurd (ended_not e)
  next_replayed i c left before (at d l) q e =
      let x : (Replayed program witness f g) i d l = before d l q in
      let n = next_steps (plan program witness f g) (last_next program witness i) (vertex_place program witness (i + 1)) (vertex_word program witness (i + 1)) x.traced.state x.traced.left c left (run_wide (plan program witness f g) (program_formed program f) x.traced.run) (last_limited i x.traced)
      (ap₂ (λ (m : Configuration) (r : List ℤ). replay_from program witness i (at m r)) x.configured x.leaves ∙ e) in
      record {
        traced = traced_more i x.traced (last_next program witness i) _ c n.next n.within left n.uses;
        configured = n.next.configured;
        leaves = refl;
        final = λ l h. n.next.final (holds (eq-eqb (i + 1) (N program witness) (omega arith)));
      }

  pub replay_traces : (i : ℕ) (c : Configuration) (left : List ℤ) → replayed_to program witness i ≡ at c left → (Replayed program witness f g) i c left
  unfolding replayed_to
  replay_traces zero c left e = first_replayed c left (eq_z (vertex_word program witness 0) (pos 1)) refl e
  replay_traces (suc i) c left e = next_replayed i c left (λ d l q. replay_traces i d l q) (replayed_to program witness i) refl e

  pub visited_not : {s : State} (run : Run (plan program witness f g) s) → (places_of program witness f g) (visited run) ≡ [] → ⊥
  unfolding visited
  visited_not (start gs arguments others hg ha ho) e = let o : ◌≡◌ {A = ℕ} 0 1 = cc in omega arith
  visited_not (◌then◌ run step) e = let o : ◌≡◌ {A = ℕ} 0 1 = cc in omega arith

  pub listed_not : (i : ℕ) → [] ≡ listed_vertices program witness i → ⊥
  unfolding listed_vertices
  listed_not zero e = let o : ◌≡◌ {A = ℕ} 0 1 = cc in omega arith
  listed_not (suc i) e = let o : ◌≡◌ {A = ℕ} 0 1 = cc in omega arith

  pub heads : {x y : ℤ} {xs ys : List ℤ} → x ∷ xs ≡ y ∷ ys → (x ≡ y) × (xs ≡ ys)
  heads e = (cc, cc)

  pub first_replays : vertex_word program witness 0 ≡ pos 1 → replayed_to program witness 0 ≡ at (configuration (listed_start program witness)) (listed_entry_values program witness)
  unfolding replayed_to initial_configuration listed_start initial entered
  first_replays e = rw (is_true (eq_z (vertex_word program witness 0) (pos 1)) (eq→eqZ e)) refl

  traces_replay : (i : ℕ) {s : State} (run : Run (plan program witness f g) s) (left : List ℤ) → i ≤ N program witness → (i ≡ N program witness → s.top.vertex ≡ 0) → origin run ≡ listed_start program witness
      → (places_of program witness f g) (visited run) ≡ listed_vertices program witness i → ((t : State) → Memᴰ t (visited run) → Limited t) → listed_entry_values program witness ≡ entry_values run ++ left
      → replayed_to program witness i ≡ at (configuration s) left
  unfolding visited origin entry_values replayed_to listed_vertices initial entered
  traces_replay zero (start gs arguments others hg ha ho) left h final o q l u =
      first_replays (sym (heads q).0) ∙ ap₂ (λ (s : State) (r : List ℤ). at (configuration s) r) (sym o) u
  traces_replay (suc i) (start gs arguments others hg ha ho) left h final o q l u = absurd (listed_not i (heads q).1)
  traces_replay zero (◌then◌ run step) left h final o q l u = absurd (visited_not run (heads q).1)
  traces_replay (suc i) (◌then◌ {s} {t} run step) left h final o q l u =
      ap (replay_from program witness i) (traces_replay i run (entered_with step ++ left) (omega arith) (λ e. absurd (omega arith)) o (heads q).1 (λ u m. l u (Memᴰ.tail m)) (u ∙ append_assoc (entry_values run) (entered_with step) left))
      ∙ ap (λ (z : ℤ). replay_next (plan program witness f g) (last_next program witness i) (vertex_place program witness (i + 1)) z (at (configuration s) (entered_with step ++ left))) (sym (heads q).0)
      ∙ steps_next (plan program witness f g) (last_next program witness i) (vertex_place program witness (i + 1)) (run_wide (plan program witness f g) (program_formed program f) run).top.low step left (l t (Memᴰ.head refl))
      (λ k. final (let e : i + 1 ≡ N program witness = eqb→eq (i + 1) (N program witness) k in omega arith))

  pub traced_replays : (i : ℕ) (x : Traced program witness i) → i ≤ N program witness → (i ≡ N program witness → x.state.top.vertex ≡ 0) → replayed_to program witness i ≡ at (configuration x.state) x.left
  traced_replays i x h final = traces_replay i x.run x.left h final x.begins x.listed x.limited x.enters

  pub replayed_iff : (c : Configuration) (left : List ℤ) → (replayed_to program witness (N program witness) ≡ at c left) ↔ (ComesTo program witness f g) c left
  replayed_iff c left = (there, back)
    where
      some_step : 1 ≤ N program witness
      some_step = omega (arith, ints, g.header.steps.least, number_between 1 most_steps most_steps (word witness 1) (omega arith) g.header.steps)

      there : replayed_to program witness (N program witness) ≡ at c left → (ComesTo program witness f g) c left
      there e =
          let x : (Replayed program witness f g) (N program witness) c left = replay_traces (N program witness) c left e in
          record { run = record { traced = x.traced; fails = x.final some_step refl }; configured = x.configured; leaves = x.leaves }

      back : (ComesTo program witness f g) c left → replayed_to program witness (N program witness) ≡ at c left
      back x = traced_replays (N program witness) x.run.traced (omega arith) (λ e. x.run.fails) ∙ ap₂ at x.configured x.leaves
