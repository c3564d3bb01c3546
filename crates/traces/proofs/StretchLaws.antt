-- Level stretches and valid paths of a replay, put together as the grammar has it, one law for each production. A call and its return have the
-- same label but for call and ret, since the stretch between them leaves the calls below as they were.
use Rattle.std.proofs.Math.Path.{◌≡◌, refl, sym, ap}
use Rattle.std.proofs.Common.{ap₂, ◌∙◌, subst, add-one}
use Prim.Native.Nat.{ℕ, zero, suc, ◌+◌, ◌-◌, ◌≤◌, ◌<◌}
use native.Mathlib.Omega.{arith}
use Rattle.std.specs.Prelude.{Bool, ℤ, pos, negsuc, drop, get_or, take}
use Rattle.std.proofs.Math.Option.{Option, none, some}
use mathlib.Core.List.{List, [], ◌∷◌, ◌++◌, map}
use Rattle.words.specs.Tests.{refusal_on}
use Rattle.programs.specs.Program.{Program, statement_at, line_at}
use Rattle.programs.specs.Runs.{State, Run, start, ◌then◌, visited}
use Rattle.programs.specs.Moves.{Frame, Configuration, move, needed}
use Rattle.programs.proofs.StepsMove.{nowhere}
use Rattle.programs.specs.ValidPaths.{Label, call, ret, Level, nothing, one, join, matched, Valid, level, unmatched}
use Rattle.programs.proofs.ValidPaths.{level_valid}
use Rattle.programs.proofs.OpenCallStrings.{same_return}
use Rattle.programs.specs.MoveLabels.{Turn, stays, calls, returns, turn_at, label_from, Called, Returned}
use Rattle.programs.proofs.MoveLabels.{move_stays, move_calls, move_returns}
use Rattle.programs.specs.ProgramForm.{ProgramForm}
use Rattle.programs.specs.Decode as decode
use Rattle.traces.specs.TraceWords.{N, vertex_place, vertex_word}
use Rattle.traces.specs.Replay.{at, ended, arrival, listed_move, replay_next, replayed_to}
use Rattle.traces.specs.ReplayRuns.{last_next}
use Rattle.traces.proofs.ReplayRuns.{arrival_at, listed_move_lem, heads, replay_traces}
use Rattle.traces.specs.TraceForm.{TraceForm}
use Rattle.traces.specs.TracedRuns.{listed_vertices}
use Rattle.traces.specs.Stretches.{with_turn, listed_at, label_in, returns_in, returns_from, label_at, labels_over, labels_to, LevelTo, ValidTo}
use Rattle.traces.specs.StretchLaws.{Moved, Stands, plan}

module _ (program witness : List ℤ) where
  -- ---- labels

  pub labels_append : (i a b : ℕ) → labels_over program witness i (a + b) ≡ labels_over program witness i a ++ labels_over program witness (i + a) b
  unfolding labels_over
  labels_append i zero b = let e : i + 0 ≡ i = omega arith in let d : 0 + b ≡ b = omega arith in rw (e, d) refl
  labels_append i (suc a) b =
      let e : i + suc a ≡ i + 1 + a = omega arith in
      let d : suc a + b ≡ suc (a + b) = omega arith in
      rw (e, d) (ap (λ (l : List Label). label_at program witness i ∷ l) (labels_append (i + 1) a b))

  pub labels_join : (i j k : ℕ) → i ≤ j → j ≤ k → labels_to program witness i k ≡ labels_to program witness i j ++ labels_to program witness j k
  labels_join i j k a b =
      let e : k - i ≡ (j - i) + (k - j) = omega arith in
      let d : i + (j - i) ≡ j = omega arith in
      ap (labels_over program witness i) e ∙ (labels_append i (j - i) (k - j) ∙ ap (λ m. labels_over program witness i (j - i) ++ labels_over program witness m (k - j)) d)

  pub label_at_lem : (i : ℕ) (c : Configuration) (left : List ℤ) → replayed_to program witness i ≡ at c left → label_at program witness i ≡ label_from (plan program witness) c
  unfolding label_at label_in
  label_at_lem i c left e = rw e refl

  label_one : {i : ℕ} {c : Configuration} {l : Label} → (Stands program witness) i c → label_from (plan program witness) c ≡ l → labels_to program witness i (i + 1) ≡ l ∷ []
  unfolding labels_over
  label_one {i} {c} s e = let d : i + 1 - i ≡ 1 = omega arith in rw d (ap (λ (l : Label). l ∷ []) (label_at_lem i c s.left s.came ∙ e))

  word_moved : (last : Bool) (c d : Configuration) (others : List ℤ) (z : ℤ) → listed_move (plan program witness) last c others z ≡ some d → (Moved program witness) c d
  unfolding listed_move
  word_moved last c d others (pos v) m = record { others = others; vertex = v; moves = (listed_move_lem (plan program witness) last c d others v m).0 }
  word_moved last c d others (negsuc v) m = nowhere m

  moved_by : {i : ℕ} {c d : Configuration} → (Stands program witness) i c → (Stands program witness) (i + 1) d → (Moved program witness) c d
  unfolding replayed_to replay_next
  moved_by {i} {c} {d} s t =
      let q : replay_next (plan program witness) (last_next program witness i) (vertex_place program witness (i + 1)) (vertex_word program witness (i + 1)) (at c s.left) ≡ at d t.left =
      ap (replay_next (plan program witness) (last_next program witness i) (vertex_place program witness (i + 1)) (vertex_word program witness (i + 1))) (sym s.came) ∙ (ap (replayed_to program witness) (sym (add-one i)) ∙ t.came) in
      word_moved (last_next program witness i) c d _ (vertex_word program witness (i + 1)) (arrival_at _ _ _ s.left _ d t.left q).moves

  -- ---- the returns to come

  pub returns_next : (i : ℕ) → i < N program witness → returns_from program witness i ≡ with_turn (turn_at (plan program witness) (listed_at (vertex_word program witness i))) (returns_from program witness (i + 1))
  unfolding returns_in
  returns_next i h =
      let e : N program witness - i ≡ suc (N program witness - (i + 1)) = omega arith in
      ap (returns_in program witness i) e

  pub none_at_end : returns_from program witness (N program witness) ≡ 0
  unfolding returns_in
  none_at_end = let e : N program witness - N program witness ≡ 0 = omega arith in ap (returns_in program witness (N program witness)) e

  module _ (i : ℕ) (v : ℕ) (l : i < N program witness) (e : vertex_word program witness i ≡ pos v) where
    by_turn : {t : Turn} → turn_at (plan program witness) v ≡ t → returns_from program witness i ≡ with_turn t (returns_from program witness (i + 1))
    by_turn {t} q = returns_next i l ∙ (ap (λ z. with_turn (turn_at (plan program witness) (listed_at z)) (returns_from program witness (i + 1))) e ∙ ap (λ (t : Turn). with_turn t (returns_from program witness (i + 1))) q)

    after_inside : turn_at (plan program witness) v ≡ stays → returns_from program witness i ≡ returns_from program witness (i + 1)
    unfolding with_turn
    after_inside q = by_turn q

    after_call : turn_at (plan program witness) v ≡ calls → returns_from program witness i ≡ returns_from program witness (i + 1) - 1
    unfolding with_turn
    after_call q = by_turn q

    after_return : turn_at (plan program witness) v ≡ returns → returns_from program witness i ≡ returns_from program witness (i + 1) + 1
    unfolding with_turn
    after_return q = by_turn q

  -- ---- M → ε | σ | M M, M → ⟨call, i, δ⟩ M ⟨ret, i, δ⟩

  pub level_none : (i : ℕ) (c : Configuration) → i ≤ N program witness → LevelTo program witness i i c c
  unfolding labels_over
  level_none i c h = record { more = omega arith; known = h; level = let e : i - i ≡ 0 = omega arith in rw e nothing; below = refl; due = refl }

  module _ (i j : ℕ) (c d : Configuration) (x : LevelTo program witness i j c d) (s : (Stands program witness) j d) (l : j < N program witness) where
    -- σ
    pub level_inside : (e : Configuration) → (Stands program witness) (j + 1) e → turn_at (plan program witness) d.top.vertex ≡ stays → LevelTo program witness i (j + 1) c e
    level_inside e t q =
        let m = moved_by s t in
        let k = move_stays (plan program witness) d e m.others m.vertex q m.moves in
        record {
          more = omega (arith, x.more);
          known = omega arith;
          level =
              subst Level (sym (labels_join i j (j + 1) x.more (omega arith)))
              (join x.level (subst Level (sym (label_one s k.1)) one));
          below = k.0 ∙ x.below;
          due = x.due ∙ after_inside j d.top.vertex l s.listed q;
        }

    -- ⟨call, i, δ⟩ M ⟨ret, i, δ⟩: into the callee, a level stretch there to its exit, and back
    module _ (e : Configuration) (t : (Stands program witness) (j + 1) e) (q : turn_at (plan program witness) d.top.vertex ≡ calls) (back : 1 ≤ returns_from program witness (j + 1)) where
      pub called : Called (plan program witness) d e
      called = let m = moved_by s t in move_calls (plan program witness) d e m.others m.vertex q m.moves

      pub level_call : (k : ℕ) (f g : Configuration) → LevelTo program witness (j + 1) k e f → (Stands program witness) k f → turn_at (plan program witness) f.top.vertex ≡ returns → k < N program witness → (Stands program witness) (k + 1) g
          → LevelTo program witness i (k + 1) c g
      level_call k f g y u r h w =
          let m = moved_by u w in
          let b : Returned (plan program witness) f g = move_returns (plan program witness) f g m.others m.vertex r m.moves in
          let a = called in
          let calls-below : d.top ∷ d.below ≡ b.caller ∷ b.rest = sym a.below ∙ (sym y.below ∙ b.waiting) in
          let top : d.top ≡ b.caller = ap (λ (fs : List Frame). get_or fs 0 d.top) calls-below in
          let below : d.below ≡ b.rest = ap (λ (fs : List Frame). drop 1 fs) calls-below in
          let point : a.return ≡ b.return = same_return (sym a.statement ∙ (ap (λ (f : Frame). statement_at (plan program witness) f.vertex) top ∙ b.statement)) in
          record {
            more = omega (arith, x.more, y.more);
            known = omega arith;
            level =
                subst Level (sym (labels_join i j (k + 1) x.more (omega (arith, y.more))))
                (join x.level (subst Level (sym (through k f g y.more u a b top point)) (matched y.level)));
            below = b.below ∙ (sym below ∙ x.below);
            due =
                let o = after_call j d.top.vertex l s.listed q in
                let p = after_return k f.top.vertex h u.listed r in
                omega (arith, x.due, y.due, o, p, back);
          }
        where
          through : (k : ℕ) (f g : Configuration) → j + 1 ≤ k → (Stands program witness) k f → (a : Called (plan program witness) d e) (b : Returned (plan program witness) f g) → d.top ≡ b.caller → a.return ≡ b.return
              → labels_to program witness j (k + 1) ≡ call a.return d.top.locals ∷ (labels_to program witness (j + 1) k ++ (ret a.return d.top.locals ∷ []))
          through k f g more u a b top point =
              labels_join j (j + 1) (k + 1) (omega arith) (omega arith)
              ∙ ap₂ (λ (v w : List Label). v ++ w) (label_one s a.labelled)
              (labels_join (j + 1) k (k + 1) more (omega arith)
              ∙ ap (λ (w : List Label). labels_to program witness (j + 1) k ++ w) (label_one u (b.labelled ∙ ap₂ ret (sym point) (ap (λ (f : Frame). f.locals) (sym top)))))

  -- ---- inside a call that comes back a level stretch neither comes to the trace's end nor to a call that doesn't come back

  module _ (i j : ℕ) (c d : Configuration) (x : LevelTo program witness i j c d) (back : 1 ≤ returns_from program witness i) where
    pub not_ended : j ≡ N program witness → ⊥
    not_ended e = let z : returns_from program witness j ≡ 0 = ap (returns_from program witness) e ∙ none_at_end in omega (arith, x.due)

    pub not_unmatched : (Stands program witness) j d → j < N program witness → turn_at (plan program witness) d.top.vertex ≡ calls → returns_from program witness (j + 1) ≡ 0 → ⊥
    not_unmatched s l q e = omega (arith, x.due, after_call j d.top.vertex l s.listed q)

  -- ---- V → ε | M V, V → ⟨call, i, δ⟩ V

  pub valid_level : (i j : ℕ) (c d : Configuration) → LevelTo program witness i j c d → ValidTo program witness i j
  valid_level i j c d x = record { more = x.more; valid = level_valid x.level }

  module _ (i j : ℕ) (c d : Configuration) (x : LevelTo program witness i j c d) (s : (Stands program witness) j d) where
    -- M ⟨call, i, δ⟩ V: a level stretch, a call that doesn't come back, and a valid path in the callee
    pub valid_call : (k : ℕ) (e : Configuration) → (Stands program witness) (j + 1) e → turn_at (plan program witness) d.top.vertex ≡ calls → ValidTo program witness (j + 1) k → ValidTo program witness i k
    valid_call k e t q y =
        let m = moved_by s t in
        let a = move_calls (plan program witness) d e m.others m.vertex q m.moves in
        record {
          more = omega (arith, x.more, y.more);
          valid =
              subst Valid (sym (labels_join i j k x.more (omega (arith, y.more))))
              (level x.level (subst Valid (sym (labels_join j (j + 1) k (omega arith) y.more ∙ ap (λ (w : List Label). w ++ labels_to program witness (j + 1) k) (label_one s a.labelled))) (unmatched y.valid)));
        }

    -- a call that doesn't come back comes to no exit of its own
    pub not_back : j < N program witness → turn_at (plan program witness) d.top.vertex ≡ returns → returns_from program witness i ≡ 0 → ⊥
    not_back l q e = omega (arith, x.due, after_return j d.top.vertex l s.listed q)

    -- "Main's exit without a caller has no step"
    pub exit_alone : c.below ≡ [] → turn_at (plan program witness) d.top.vertex ≡ returns → replayed_to program witness (j + 1) ≡ ended (refusal_on 10 (vertex_place program witness (j + 1)) (line_at (plan program witness) d.top.vertex))
    unfolding replayed_to replay_next arrival
    exit_alone b q =
        ap (replayed_to program witness) (add-one j)
        ∙ (ap (replay_next (plan program witness) (last_next program witness j) (vertex_place program witness (j + 1)) (vertex_word program witness (j + 1))) s.came
        ∙ ap (arrival (vertex_place program witness (j + 1)) (line_at (plan program witness) d.top.vertex) (needed (plan program witness) d) s.left) (stuck (vertex_word program witness (j + 1))))
      where
        none_there : (v : ℕ) (others : List ℤ) (o : Option Configuration) → move (plan program witness) d others v ≡ o → move (plan program witness) d others v ≡ none
        none_there v others none e = e
        none_there v others (some m) e = let r = move_returns (plan program witness) d m others v q e in let z : [] ≡ r.caller ∷ r.rest = sym b ∙ (sym x.below ∙ r.waiting) in absurd (let y : ◌≡◌ {A = ℕ} 0 1 = cc in omega arith)

        stuck : (z : ℤ) → listed_move (plan program witness) (last_next program witness j) d (take (needed (plan program witness) d) s.left) z ≡ none
        stuck (pos v) = go (listed_move (plan program witness) (last_next program witness j) d (take (needed (plan program witness) d) s.left) (pos v)) refl
          where
            go : (o : Option Configuration) → listed_move (plan program witness) (last_next program witness j) d (take (needed (plan program witness) d) s.left) (pos v) ≡ o → listed_move (plan program witness) (last_next program witness j) d (take (needed (plan program witness) d) s.left) (pos v) ≡ none
            go none e = e
            go (some m) e = nowhere (sym (none_there v (take (needed (plan program witness) d) s.left) _ refl) ∙ (listed_move_lem (plan program witness) (last_next program witness j) d m (take (needed (plan program witness) d) s.left) v e).0)
        stuck (negsuc v) = unfold listed_move in refl

-- ---- where the replay stands

module _ (program witness : List ℤ) (f : ProgramForm program) (g : TraceForm program witness) where
  at_next : (i : ℕ) → vertex_word program witness (i + 1) ≡ vertex_word program witness (suc i)
  at_next i = ap (vertex_word program witness) (add-one i)

  first_listed : {p : Program} {s : State} (run : Run p s) (i : ℕ) → map (λ (s : State). pos s.top.vertex) (visited run) ≡ listed_vertices program witness i → pos s.top.vertex ≡ vertex_word program witness i
  unfolding visited listed_vertices
  first_listed (start _ _ _ _ _ _) zero e = (heads program witness f g e).0
  first_listed (start _ _ _ _ _ _) (suc i) e = (heads program witness f g e).0 ∙ at_next i
  first_listed (◌then◌ run step) zero e = (heads program witness f g e).0
  first_listed (◌then◌ run step) (suc i) e = (heads program witness f g e).0 ∙ at_next i

  pub stands_at : (i : ℕ) (c : Configuration) (left : List ℤ) → replayed_to program witness i ≡ at c left → Stands program witness i c
  stands_at i c left e =
      let x = replay_traces program witness f g i c left e in
      record { left = left; came = e; listed = sym (first_listed x.traced.run i x.traced.listed) ∙ ap (λ (d : Configuration). pos d.top.vertex) x.configured }
