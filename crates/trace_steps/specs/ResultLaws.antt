-- The answer after the last step, each way that the code can end there, and the values that the result buffer then holds.
use Rattle.std.specs.Prelude.{◌≡◌, List, ◌++◌, ℕ, ◌+◌, ◌-◌, ◌≤◌, ◌<◌, ℤ, length, take, drop}
use Rattle.std.proofs.Common.{sym, ap, ap₂, ◌∙◌, zero-add, arith, take_at, drop_at, drop-drop, length-take-le}
use borrow.Author.Tests.{ne_eqb, le-leb, lt-leb}
use Rattle.std.proofs.Math.Seq.{paste}
use Rattle.words.specs.Tests.{first_failure}
use Rattle.words.specs.Answer.{trace, refuse, answer_after}
use Rattle.programs.specs.Moves.{Configuration, current}
use Rattle.traces.specs.Replay.{at, left_test, buffer_test, replay_answer}
use Rattle.run_state.specs.ScopeValues.{values_of, width_of, Scoped}
use Rattle.run_state.specs.declared.expressions.Scope.{Scope}

-- ---- the two parts, one after the other

pub two_parts : (buffer globals frames : List ℤ) (scope : Scope) → Scoped globals frames scope
    → paste (paste buffer 0 (drop 0 globals) scope.globals) scope.globals (drop scope.from frames) scope.locals ≡ values_of globals frames scope ++ drop (width_of scope) buffer
two_parts buffer globals frames scope b =
    let g = scope.globals in
    let l = scope.locals in
    let front = take g globals in
    let size : length front ≡ g = length-take-le g globals (omega (arith, b.shared.inside)) in
    ap₂ (λ (x y : List ℤ). x ++ take l (drop scope.from frames) ++ y) (take_at front (drop (0 + g) buffer) g size)
    (sym (drop-drop l g (front ++ drop (0 + g) buffer))
    ∙ (ap (drop l) (drop_at front (drop (0 + g) buffer) g size) ∙ (ap (λ m. drop l (drop m buffer)) (zero-add g) ∙ drop-drop l g buffer)))

-- ---- at the end

module _ (steps end buffer : ℕ) (c : Configuration) (left : List ℤ) where
  pub left_over : 1 ≤ length left → refuse 14 (end - length left) ≡ replay_answer steps end buffer (at c left)
  unfolding replay_answer left_test buffer_test first_failure answer_after
  left_over h = simp (ne_eqb (length left) 0 (λ e. omega arith))

  module _ (e : length left ≡ 0) where
    pub too_short : buffer < length (current c) → refuse 13 (length (current c)) ≡ replay_answer steps end buffer (at c left)
    unfolding replay_answer left_test buffer_test first_failure answer_after
    too_short h = simp (e, lt-leb (length (current c)) buffer h)

    pub long_enough : length (current c) ≤ buffer → trace steps ≡ replay_answer steps end buffer (at c left)
    unfolding replay_answer left_test buffer_test first_failure answer_after
    long_enough h = simp (e, le-leb (length (current c)) buffer h)
