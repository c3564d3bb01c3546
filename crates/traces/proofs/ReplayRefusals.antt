-- Where a replay ends before its last vertex, and why: the vertices before that one are a run inside the limits, and at it there is no step to
-- the listed vertex (10), or one that opens a 65th call (12), or one that is entered with more values than are left (14), or one entered with
-- the first of these to a value beyond its limit (11). If and only if, places and lines included: 10, 12 and 11 have the line of the vertex
-- that the step leaves. Whether there is a step, and how deep it leads, doesn't depend on the values that it is entered with, so 10 and 12
-- speak of any.
use Rattle.std.specs.Prelude.{◌≡◌, ◌↔◌, Bool, not, cond, T, ℤ, pos, drop}
use Rattle.std.proofs.Math.Path.{refl, ap, subst}
use Rattle.std.proofs.Common.{sym, ap₂, ◌∙◌, arith, eqb→eq, length-take, take-append-drop}
use Prim.Native.Nat.{ℕ, zero, suc, ◌+◌, ◌-◌, ◌≤◌, ◌<◌}
use Rattle.std.proofs.Math.Nat.{add-zero, add-suc}
use borrow.Author.Tests.{eq-eqb, leb-true, leb-false, le-leb, lt-leb}
use Rattle.std.proofs.Math.Bool.{true, false}
use Rattle.std.proofs.Math.Option.{Option, none, some}
use mathlib.Core.List.{List, ◌++◌}
use Rattle.std.proofs.Math.Dec.{leb, not_T}
use Rattle.std.proofs.Math.ListN.{length, length-append, take}
use Rattle.std.proofs.Math.Seq.{take_at}
use Rattle.basics.proofs.Booleans.{cond_no, holds}
use Rattle.basics.specs.Integers.{eq_z}
use Rattle.basics.proofs.Integers.{eq_z→eq, eq→eqZ}
use Rattle.rows.specs.Columns.{zeros}
use Rattle.rows.proofs.Blocks.{length_zeros}
use Rattle.words.specs.Limits.{most_calls, value_limit}
use Rattle.words.specs.Tests.{Refusal, first_failure, refusal_at, refusal_on}
use Rattle.programs.specs.ProgramForm.{ProgramForm}
use Rattle.programs.specs.RunWidths.{Wide}
use Rattle.programs.proofs.RunWidths.{run_wide}
use Rattle.programs.proofs.StepsMove.{nowhere, entered_length}
use Rattle.programs.proofs.Determined.{length_frames}
use Rattle.programs.proofs.Formed.{program_formed}
use Rattle.programs.specs.Decode as decode
use Rattle.programs.specs.Runs.{State, entered_with}
use Rattle.programs.specs.Moves.{Frame, Configuration, configuration, current}
use Rattle.traces.specs.TraceWords.{N, vertex_word, entry_values_from}
use Rattle.traces.specs.TraceForm.{TraceForm}
use Rattle.traces.specs.Replay.{Progress, at, ended, all_values, arrival_tests, arrived, arrival, replay_next, replayed_to}
use Rattle.traces.specs.TracedRuns.{Traced}
use Rattle.traces.specs.ReplayRuns.{last_next, replay_from}
use Rattle.traces.proofs.ReplayRuns.{ended_not, move_next, next_move, other_values, replay_traces, first_replays, traced_replays}
use Rattle.traces.specs.ReplayRefusals.{Ends, Exceeds, ListedStep, StepThere, deep, end_at, few, first_not_one, large, line_left, missing, move_listed, need, next_place, not_allowed, too_deep, too_large}

module _ (program witness : List ℤ) where
  -- a replay that has ended stays so
  more_ended : (i more : ℕ) (r : Refusal) → replayed_to program witness i ≡ ended r → replayed_to program witness (i + more) ≡ ended r
  unfolding replayed_to replay_next
  more_ended i zero r e = rw add-zero e
  more_ended i (suc more) r e = rw add-suc (ap (replay_from program witness (i + more)) (more_ended i more r e))

  pub stays_ended : (i m : ℕ) (r : Refusal) → i ≤ m → replayed_to program witness i ≡ ended r → replayed_to program witness m ≡ ended r
  stays_ended i m r l e = let h : i + (m - i) ≡ m = omega arith in rw h at (more_ended i (m - i) r e)

-- ---- one vertex

same_ended : {r q : Refusal} → ended r ≡ ended q → r ≡ q
same_ended e = cc

-- how deep a state is
depth_of : (t : State) (c : Configuration) → (configuration t).below ≡ c.below → length t.below ≡ length c.below
depth_of t c e = sym (length_frames t.below) ∙ ap (length {A = Frame}) e

module _ (place line need : ℕ) (left : List ℤ) (c : Configuration) where
  arrival_exceeds : (r : Refusal) → arrival place line need left (some c) ≡ ended r → Exceeds place line need left c r
  unfolding arrival arrived arrival_tests first_failure
  arrival_exceeds r e = go (leb (1 + length c.below) most_calls) (leb need (length left)) (all_values value_limit (current c)) refl refl refl e
    where
      go : (a b d : Bool) → leb (1 + length c.below) most_calls ≡ a → leb need (length left) ≡ b → all_values value_limit (current c) ≡ d
          → arrived c (drop need left) (cond a (cond b (cond d none (some (refusal_on 11 place line))) (some (refusal_at 14 place))) (some (refusal_on 12 place line))) ≡ ended r → Exceeds place line need left c r
      go true true true p q t e = absurd (ended_not (sym e))
      go true true false p q t e = subst (Exceeds place line need left c) (same_ended e) (large (leb-true (1 + length c.below) most_calls p) (leb-true need (length left) q) (rw t tt))
      go true false d p q t e = subst (Exceeds place line need left c) (same_ended e) (few (leb-true (1 + length c.below) most_calls p) (leb-false need (length left) q))
      go false b d p q t e = subst (Exceeds place line need left c) (same_ended e) (deep (leb-false (1 + length c.below) most_calls p))

  exceeds_arrival : {r : Refusal} → Exceeds place line need left c r → arrival place line need left (some c) ≡ ended r
  unfolding arrival arrived arrival_tests first_failure
  exceeds_arrival (deep d) = rw (lt-leb (1 + length c.below) most_calls d)
  exceeds_arrival (few d m) = rw (le-leb (1 + length c.below) most_calls d, lt-leb need (length left) m)
  exceeds_arrival (large d m v) = rw (le-leb (1 + length c.below) most_calls d, le-leb need (length left) m, cond_no (all_values value_limit (current c)) _ _ v)

module _ (program witness : List ℤ) (f : ProgramForm program) (g : TraceForm program witness) where
  module _ (i : ℕ) (x : Traced program witness i) where
    wide : Wide (decode.program program) x.state
    wide = run_wide (decode.program program) (program_formed program f) x.run

    needed_length : {t : State} (k : ListedStep program witness i x.state t) → length (entered_with k.step) ≡ (need program witness f g i x)
    needed_length k = entered_length (decode.program program) wide.top.low k.step

    listed_moves : (t : State) (k : ListedStep program witness i x.state t) → (move_listed program witness f g) i x.state (entered_with k.step) ≡ some (configuration t)
    listed_moves t k =
        rw k.vertex (next_move (decode.program program) (last_next program witness i) wide.top.low k.step
        (λ h. k.last (eqb→eq (i + 1) (N program witness) h)))

    moves_listed : (others : List ℤ) (c : Configuration) → length others ≡ (need program witness f g i x) → (move_listed program witness f g) i x.state others ≡ some c → (StepThere program witness f g i x) others c
    moves_listed others c o e =
        let n = move_next (decode.program program) (last_next program witness i) (vertex_word program witness (i + 1)) x.state others c wide o e in
        record {
          state = n.state;
          listed = record { step = n.step; vertex = n.vertex; last = λ h. n.final (holds (eq-eqb (i + 1) (N program witness) h)) };
          configured = n.configured;
          entered = n.entered;
        }

    -- the same with other values
    moves_too : (values others : List ℤ) (c : Configuration) → (move_listed program witness f g) i x.state values ≡ some c → (d : Configuration) × ((move_listed program witness f g) i x.state others ≡ some d) × (d.below ≡ c.below)
    moves_too values others c e = other_values (decode.program program) (last_next program witness i) (configuration x.state) c values others (vertex_word program witness (i + 1)) e

    not_moved : (others : List ℤ) → ((t : State) → ListedStep program witness i x.state t → ⊥) → (move_listed program witness f g) i x.state others ≡ none
    not_moved others h = go ((move_listed program witness f g) i x.state others) refl
      where
        go : (o : Option Configuration) → (move_listed program witness f g) i x.state others ≡ o → (move_listed program witness f g) i x.state others ≡ none
        go none q = q
        go (some c) q =
            let (d, e, _) = moves_too others (zeros (need program witness f g i x)) c q in
            let t = moves_listed (zeros (need program witness f g i x)) d (length_zeros (need program witness f g i x)) e in absurd (h t.state t.listed)

    module _ (l : i < N program witness) where
      -- where there are too few entry values, some step to the listed vertex is entered with others
      exceeds_ends : (c : Configuration) {r : Refusal} → (move_listed program witness f g) i x.state (take (need program witness f g i x) x.left) ≡ some c → Exceeds ((next_place program witness f g) i) (line_left program witness x) (need program witness f g i x) x.left c r → Ends program witness r
      exceeds_ends c e (deep h) =
          let (d, m, b) = moves_too (take (need program witness f g i x) x.left) (zeros (need program witness f g i x)) c e in
          let t = moves_listed (zeros (need program witness f g i x)) d (length_zeros (need program witness f g i x)) m in
          let n = depth_of t.state c (ap (λ (c : Configuration). c.below) t.configured ∙ b) in
          too_deep i l x t.state t.listed (omega (arith, n))
      exceeds_ends c e (few h m) =
          let (d, m', b) = moves_too (take (need program witness f g i x) x.left) (zeros (need program witness f g i x)) c e in
          let t = moves_listed (zeros (need program witness f g i x)) d (length_zeros (need program witness f g i x)) m' in
          let n = depth_of t.state c (ap (λ (c : Configuration). c.below) t.configured ∙ b) in
          missing i l x t.state t.listed (omega (arith, n)) (omega (arith, needed_length t.listed))
      exceeds_ends c e (large h m v) =
          let t = moves_listed (take (need program witness f g i x) x.left) c (rw length-take (omega arith)) e in
          let n = depth_of t.state c (ap (λ (c : Configuration). c.below) t.configured) in
          too_large i l x t.state t.listed (drop (need program witness f g i x) x.left) (sym (take-append-drop (need program witness f g i x) x.left) ∙ ap (λ (a : List ℤ). a ++ drop (need program witness f g i x) x.left) (sym t.entered)) (omega (arith, n))
          (subst (λ (c : Configuration). T (not (all_values value_limit (current c)))) (sym t.configured) v)

      arrival_ends : (r : Refusal) (o : Option Configuration) → (move_listed program witness f g) i x.state (take (need program witness f g i x) x.left) ≡ o → arrival ((next_place program witness f g) i) (line_left program witness x) (need program witness f g i x) x.left o ≡ ended r → Ends program witness r
      unfolding arrival
      arrival_ends r none q e =
          subst (Ends program witness) (same_ended e)
          (not_allowed i l x (λ t k. let (d, m, _) = moves_too (entered_with k.step) (take (need program witness f g i x) x.left) (configuration t) (listed_moves t k) in nowhere (sym q ∙ m)))
      arrival_ends r (some c) q e = exceeds_ends c q (arrival_exceeds ((next_place program witness f g) i) (line_left program witness x) (need program witness f g i x) x.left c r e)

  -- ---- all of them

  not_first : (vertex_word program witness 0 ≡ pos 1 → ⊥) → replayed_to program witness 0 ≡ ended (end_at program witness 10 0 0)
  unfolding replayed_to
  not_first h = cond_no (eq_z (vertex_word program witness 0) (pos 1)) _ _ (not_T (eq_z (vertex_word program witness 0) (pos 1)) (λ t. h (eq_z→eq (vertex_word program witness 0) (pos 1) t)))

  first_ends : (r : Refusal) → replayed_to program witness 0 ≡ ended r → Ends program witness r
  first_ends r e = go (eq_z (vertex_word program witness 0) (pos 1)) refl
    where
      other : (vertex_word program witness 0 ≡ pos 1 → ⊥) → Ends program witness r
      other h = subst (Ends program witness) (same_ended (sym (not_first h) ∙ e)) (first_not_one h)

      go : (b : Bool) → eq_z (vertex_word program witness 0) (pos 1) ≡ b → Ends program witness r
      go true q = absurd (ended_not (sym e ∙ first_replays program witness f g (eq_z→eq (vertex_word program witness 0) (pos 1) (holds q))))
      go false q = other (λ h. rw q at (eq→eqZ h))

  next_ends : (i : ℕ) (r : Refusal) → i < N program witness → (replayed_to program witness i ≡ ended r → Ends program witness r) → (s : Progress) → replayed_to program witness i ≡ s
      → replay_from program witness i s ≡ ended r → Ends program witness r
  unfolding replay_next
  next_ends i r l before (ended q) h e = before (h ∙ e)
  next_ends i r l before (at c left) h e =
      let x = replay_traces program witness f g i c left h in
      arrival_ends i x.traced l r ((move_listed program witness f g) i x.traced.state (take ((need program witness f g) i x.traced) x.traced.left)) refl
      (ap₂ (λ (d : Configuration) (m : List ℤ). replay_from program witness i (at d m)) x.configured x.leaves ∙ e)

  replay_ends : (i : ℕ) (r : Refusal) → i ≤ N program witness → replayed_to program witness i ≡ ended r → Ends program witness r
  unfolding replayed_to
  replay_ends zero r l e = first_ends r e
  replay_ends (suc i) r l e = next_ends i r l (λ q. replay_ends i r (omega arith) q) (replayed_to program witness i) refl e

  ended_next : (i : ℕ) (x : Traced program witness i) {r : Refusal} → i < N program witness → arrival ((next_place program witness f g) i) (line_left program witness x) ((need program witness f g) i x) x.left ((move_listed program witness f g) i x.state (take ((need program witness f g) i x) x.left)) ≡ ended r
      → replayed_to program witness (N program witness) ≡ ended r
  unfolding replayed_to replay_next
  ended_next i x {r} l e = stays_ended program witness (suc i) (N program witness) r l (ap (replay_from program witness i) (traced_replays program witness f g i x (omega arith) (λ h. absurd (omega arith))) ∙ e)

  -- it ends where a move's configuration exceeds
  ended_there : (i : ℕ) (x : Traced program witness i) {r : Refusal} → i < N program witness → (c : Configuration) → (move_listed program witness f g) i x.state (take ((need program witness f g) i x) x.left) ≡ some c
      → Exceeds ((next_place program witness f g) i) (line_left program witness x) ((need program witness f g) i x) x.left c r → replayed_to program witness (N program witness) ≡ ended r
  ended_there i x l c m e = ended_next i x l (ap (arrival ((next_place program witness f g) i) (line_left program witness x) ((need program witness f g) i x) x.left) m ∙ exceeds_arrival ((next_place program witness f g) i) (line_left program witness x) ((need program witness f g) i x) x.left c e)

  ends_replay : {r : Refusal} → Ends program witness r → replayed_to program witness (N program witness) ≡ ended r
  unfolding arrival
  ends_replay (first_not_one h) = stays_ended program witness 0 (N program witness) _ (omega arith) (not_first h)
  ends_replay (not_allowed i l x h) = ended_next i x l (ap (arrival ((next_place program witness f g) i) (line_left program witness x) ((need program witness f g) i x) x.left) (not_moved i x (take ((need program witness f g) i x) x.left) h))
  ends_replay (too_deep i l x t k h) =
      let (c, m, b) = moves_too i x (entered_with k.step) (take ((need program witness f g) i x) x.left) (configuration t) (listed_moves i x t k) in
      ended_there i x l c m (deep (omega (arith, depth_of t c (sym b))))
  ends_replay (missing i l x t k h few-left) =
      let (c, m, b) = moves_too i x (entered_with k.step) (take ((need program witness f g) i x) x.left) (configuration t) (listed_moves i x t k) in
      ended_there i x l c m (few (omega (arith, depth_of t c (sym b))) (omega (arith, needed_length i x k)))
  ends_replay (too_large i l x t k after u h v) =
      let values = entered_with k.step in
      let size = needed_length i x k in
      let first : take ((need program witness f g) i x) x.left ≡ values = ap (take ((need program witness f g) i x)) u ∙ take_at values after ((need program witness f g) i x) size in
      let long : length x.left ≡ length values + length after = ap length u ∙ length-append values after in
      ended_there i x l (configuration t) (ap ((move_listed program witness f g) i x.state) first ∙ listed_moves i x t k) (large (omega (arith, length_frames t.below)) (omega (arith, long, size)) v)

  pub ends_iff : (r : Refusal) → (replayed_to program witness (N program witness) ≡ ended r) ↔ Ends program witness r
  ends_iff r = (replay_ends (N program witness) r (omega arith), ends_replay)

pub ends_number : {program witness : List ℤ} {r : Refusal} → Ends program witness r → (10 ≤ r.number) × (r.number ≤ 14) × (r.number ≡ 13 → ⊥)
ends_number (first_not_one h) = (omega arith, omega arith, λ e. omega arith)
ends_number (not_allowed i l x h) = (omega arith, omega arith, λ e. omega arith)
ends_number (too_deep i l x t k h) = (omega arith, omega arith, λ e. omega arith)
ends_number (missing i l x t k h m) = (omega arith, omega arith, λ e. omega arith)
ends_number (too_large i l x t k after u h v) = (omega arith, omega arith, λ e. omega arith)

-- a replay ends at a vertex, before the entry values
pub ends_place : {program witness : List ℤ} {r : Refusal} → Ends program witness r → r.place < entry_values_from program witness
ends_place (first_not_one h) = omega arith
ends_place (not_allowed i l x h) = omega arith
ends_place (too_deep i l x t k h) = omega arith
ends_place (missing i l x t k h m) = omega arith
ends_place (too_large i l x t k after u h v) = omega arith

-- a missing entry value is refused without a line
pub ends_line : {program witness : List ℤ} {r : Refusal} → Ends program witness r → 13 ≤ r.number → r.line ≡ 0
ends_line (first_not_one h) m = refl
ends_line (not_allowed i l x h) m = absurd (omega arith)
ends_line (too_deep i l x t k h) m = absurd (omega arith)
ends_line (missing i l x t k h e) m = refl
ends_line (too_large i l x t k after u h v) m = absurd (omega arith)
