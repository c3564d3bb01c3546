-- A step is determined by the state that it leaves, the vertex that it goes to and the values that it enters a procedure with: the
-- configuration is (`step_moves`), and what a state has beside it, the entry states and the globals set aside, follows from the depth of the
-- calls.
use Rattle.std.specs.Prelude.{◌≡◌, refl, suc, ◌≤◌, true, List, [], ◌∷◌, eqb, length}
use Rattle.std.proofs.Common.{sym, ◌∙◌, ap, ap₂, arith}
use Rattle.std.proofs.Math.Option.{some-injective}
use borrow.Author.Tests.{eq-eqb, ne_eqb, lt-ltb, le-ltb}
use Rattle.programs.specs.Program.{Program}
use Rattle.programs.specs.Runs.{Waiting, State, entered, entry_state, store, push, Step, on_skip, on_assign, on_true, on_false, on_pass, on_fail, on_call, on_exit, entered_with}
use Rattle.programs.specs.Moves.{configuration, frames, move}
use Rattle.programs.proofs.StepsMove.{step_moves}
use Rattle.programs.specs.Determined.{rebuilt}

pub length_frames : (ws : List Waiting) → length (frames ws) ≡ length ws
length_frames [] = refl
length_frames (w ∷ ws) = ap suc (length_frames ws)

level : (ws : List Waiting) → eqb (length (frames ws)) (length ws) ≡ true
level ws = eq-eqb (length (frames ws)) (length ws) (length_frames ws)

module _ (p : Program) where
  step_rebuilt : {s t : State} → Step p s t → t ≡ rebuilt s (configuration t)
  unfolding rebuilt store push entered entry_state
  step_rebuilt (on_skip {s} g) = simp (level s.below)
  step_rebuilt (on_assign {s} g) = simp (level s.below)
  step_rebuilt (on_true {s} g a) = simp (level s.below)
  step_rebuilt (on_false {s} g a) = simp (level s.below)
  step_rebuilt (on_pass {s} g a) = simp (level s.below)
  step_rebuilt (on_fail {s} g a) = simp (level s.below)
  step_rebuilt (on_call {s} others o g) =
      let l = length_frames s.below in
      simp (ne_eqb (suc (length (frames s.below))) (length s.below) (λ e. omega arith), lt-ltb (length s.below) (suc (length (frames s.below))) (omega arith))
  step_rebuilt (on_exit {w = w} {rest} ex g) =
      let l = length_frames rest in
      simp (ne_eqb (length (frames rest)) (suc (length rest)) (λ e. omega arith), le-ltb (suc (length rest)) (length (frames rest)) (omega arith))

  pub step_determined : {s t u : State} → 1 ≤ s.top.procedure → (x : Step p s t) (y : Step p s u) → t.top.vertex ≡ u.top.vertex → entered_with x ≡ entered_with y → t ≡ u
  step_determined {s} {t} {u} l x y e d =
      step_rebuilt x ∙ ap (rebuilt s) (some-injective (configuration t) (configuration u) (sym (step_moves p l x) ∙ ap₂ (move p (configuration s)) d e ∙ step_moves p l y)) ∙ sym (step_rebuilt y)
