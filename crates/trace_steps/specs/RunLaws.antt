-- The steps of a replay: a step from where it stands gives where it stands next; where it starts, and where it ended.
use Rattle.std.proofs.Math.Path.{◌≡◌, refl, sym, ap}
use Rattle.std.proofs.Common.{ap₂, subst, ◌∙◌, add-one, le-leb}
use Rattle.std.specs.Prelude.{Bool, true, false, cond, List, ℕ, ◌+◌, ◌≤◌, ◌<◌, leb, eqb, ℤ, pos, negsuc, Some, None, Result, Ok, Err}
use native.Mathlib.Omega.{arith}
use Rattle.std.proofs.lemmas.Bool.{lt-leb}
use Rattle.words.specs.Words.{word, within}
use Rattle.words.proofs.Ranges.{exact_word}
use Rattle.words.specs.Tests.{refusal_at}
use Rattle.programs.specs.Program.{line_at}
use Rattle.programs.specs.ProgramWords.{n, line}
use Rattle.programs.proofs.Formed.{line_is, no_line}
use Rattle.programs.specs.Moves.{Configuration}
use Rattle.programs.specs.Decode as decode
use Rattle.traces.proofs.ReplayRefusals.{stays_ended}
use Rattle.traces.specs.TraceWords.{starts_from, N, starts, vertex_place, vertex_word, start_globals, start_arguments, start_others, listed_entry_values}
use Rattle.traces.specs.Replay.{Progress, at, ended, arrival, listed_move, replay_next, initial_configuration, replayed_to}
use Rattle.reading.specs.Reading.{natural}
use Rattle.answers.specs.Answers.{refusal_of}
use Rattle.answers.specs.declared.Refusal.{Refusal}
use Rattle.run_state.specs.State as states
use Rattle.run_state.specs.State.{RunState, configuration_of, line_from, Proper, Gives, progress_from}
use Rattle.trace_steps.specs.Runs.{progress_by}

-- ---- the word that lists a vertex

module _ (words : List ℤ) (s : RunState) (last : Bool) where
  pub listed_steps : (z : ℤ) {v : ℕ} {o : Result Unit ℕ} {after : RunState} → natural z ≡ Some v → Gives words s (progress_from words s last (pos v)) o after → Gives words s (progress_from words s last z) o after
  listed_steps (pos m) {v} {o} {after} e x = let d : v ≡ m = cc in subst (λ u. Gives words s (progress_from words s last (pos u)) o after) d x
  listed_steps (negsuc m) e x = absurd (let z : ◌≡◌ {A = ℕ} 0 1 = cc in omega arith)

  pub not_listed : (z : ℤ) → natural z ≡ None → Proper words s → Gives words s (progress_from words s last z) (Err 10) s
  unfolding replay_next listed_move arrival states.progress_by
  not_listed (pos m) e q = absurd (let z : ◌≡◌ {A = ℕ} 0 1 = cc in omega arith)
  not_listed (negsuc m) e q = record { progress = λ place. refl; proper = q; kept = λ n d. refl }

-- ---- the first vertex

module _ (program witness : List ℤ) where
  -- as the code counts: where the first vertex stands, and how many steps there are
  module _ (first steps : ℕ) (f : first ≡ starts_from + starts program witness) (count : steps ≡ N program witness) where
    first_progress : (b : Bool) → within 1 1 (word witness first) ≡ b
        → replayed_to program witness 0 ≡ cond b (at (initial_configuration (start_globals program witness) (start_arguments program witness) (start_others program witness)) (listed_entry_values program witness)) (ended (refusal_at 10 first))
    unfolding replayed_to
    first_progress b e =
        let q : vertex_place program witness 0 ≡ first = omega arith in
        rw (q, sym (exact_word 1 (word witness first)) ∙ e) refl

    pub first_refused : within 1 1 (word witness first) ≡ false → replayed_to program witness steps ≡ ended (refusal_at 10 first)
    first_refused e = stays_ended program witness 0 steps _ (omega arith) (first_progress false e)

    pub first_passed : (c : Configuration) → c ≡ initial_configuration (start_globals program witness) (start_arguments program witness) (start_others program witness)
        → within 1 1 (word witness first) ≡ true → replayed_to program witness 0 ≡ at c (listed_entry_values program witness)
    first_passed c q e = first_progress true e ∙ ap (λ (d : Configuration). at d (listed_entry_values program witness)) (sym q)

    -- a step from where the replay stands after i steps
    module _ (i : ℕ) (s : RunState) (o : Result Unit ℕ) (after : RunState) (e : replayed_to program witness i ≡ at (configuration_of program s) s.left)
        (x : Gives program s (progress_from program s (eqb (i + 1) steps) (word witness (first + (i + 1)))) o after) where
      pub next_progress : replayed_to program witness (i + 1) ≡ states.progress_by program (first + (i + 1)) o after
      unfolding replayed_to
      next_progress =
          ap (replayed_to program witness) (add-one i)
          ∙ (ap (replay_next (decode.program program) (eqb (i + 1) (N program witness)) (vertex_place program witness (i + 1)) (vertex_word program witness (i + 1))) e
          ∙ (ap₂ (λ (m at₁ : ℕ). replay_next (decode.program program) (eqb (i + 1) m) (at₁ + (i + 1)) (word witness (at₁ + (i + 1))) (at (configuration_of program s) s.left)) (sym count) (sym f)
          ∙ sym (x.progress (first + (i + 1)))))

-- ---- the line of a refusal at a step

module _ (words : List ℤ) (number v : ℕ) where
  pub line_too_large : 12 < number → 0 ≡ line_from words number v
  line_too_large h = rw (lt-leb number 12 h) refl

  pub no_statement_line : (1 ≤ v → n words < v) → 0 ≡ line_from words number v
  no_statement_line h = go (leb number 12)
    where
      go : (b : Bool) → 0 ≡ cond b (line_at (decode.program words) v) 0
      go true = sym (no_line words v h)
      go false = refl

  pub statement_line : number ≤ 12 → 1 ≤ v → v ≤ n words → line words v ≡ line_from words number v
  statement_line h low high = rw (le-leb number 12 h) (sym (line_is words v low high))

-- ---- where a replay ended

module _ (words : List ℤ) (end : Result Unit Refusal) (after : RunState) {s : Progress} (e : progress_by words end after ≡ s) where
  pub ended_at : end ≡ Ok tt → s ≡ at (configuration_of words after) after.left
  unfolding progress_by
  ended_at d = sym e ∙ rw d refl

  pub ended_refused : {q : Refusal} → end ≡ Err q → s ≡ ended (refusal_of q)
  unfolding progress_by
  ended_refused d = sym e ∙ rw d refl
