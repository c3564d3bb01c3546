-- The steps at an exit, by the rule alone, whether a run comes there or not: "exit: back to the return point of the matching call, with the
-- exit's globals and the caller's own locals". There is a step if and only if the call below waits at a call of the procedure that exits, and
-- it is the return to that call. Every other step is a statement's, and an exit is none.
use Rattle.std.specs.Prelude.{◌≡◌, refl, ◌↔◌, ℕ, ◌≤◌, List, [], get_or}
use Rattle.std.proofs.Common.{sym, ap, ◌∙◌, subst, arith}
use Rattle.std.proofs.Math.Option.{none, some, none-ne-some}
use Rattle.programs.specs.Program.{Program, call, statement_at, exit_of}
use Rattle.programs.specs.Runs.{Waiting, State, AtExit, pop, Step, on_skip, on_assign, on_true, on_false, on_pass, on_fail, on_call, on_exit}
use Rattle.programs.proofs.FormLaws.{exit_no_statement}
use Rattle.programs.specs.ExitSteps.{Returns, call_of, callers, exiting}

module _ (p : Program) where
  -- a step where there is no statement
  pub exit_returns : {s t : State} → statement_at p s.top.vertex ≡ none → Step p s t → Returns p s t
  exit_returns n (on_skip g) = absurd (none-ne-some _ (sym n ∙ g))
  exit_returns n (on_assign g) = absurd (none-ne-some _ (sym n ∙ g))
  exit_returns n (on_true g a) = absurd (none-ne-some _ (sym n ∙ g))
  exit_returns n (on_false g a) = absurd (none-ne-some _ (sym n ∙ g))
  exit_returns n (on_pass g a) = absurd (none-ne-some _ (sym n ∙ g))
  exit_returns n (on_fail g a) = absurd (none-ne-some _ (sym n ∙ g))
  exit_returns n (on_call others o g) = absurd (none-ne-some _ (sym n ∙ g))
  exit_returns n (on_exit {w = w} {rest} {return = return} {actuals = actuals} ex g) =
      record { at_exit = ex; waiting = w; rest = rest; below = refl; return = return; actuals = actuals; matching = g; after = refl }

  pub exit_matches : {s t : State} → 1 ≤ s.top.procedure → AtExit p s.top → Step p s t ↔ Returns p s t
  exit_matches {s} {t} l e = (exit_returns (ap (statement_at p) e ∙ exit_no_statement p s.top.procedure l), back)
    where
      back : Returns p s t → Step p s t
      back r =
          subst (Step p s) (sym r.after)
          (subst (λ (ws : List Waiting). Step p (record { globals = s.globals; top = s.top; below = ws }) (pop r.return r.waiting r.rest s.globals)) (sym r.below) (on_exit r.at_exit r.matching))

f_returns : Step callers (exiting 2) (record { globals = []; top = call_of 1 4; below = [] })
unfolding statement_at exit_of
f_returns = on_exit refl refl

g_has_no_step : {t : State} → Step callers (exiting 3) t → ⊥
unfolding statement_at
g_has_no_step {t} step =
    let r : Returns callers (exiting 3) t = exit_returns callers refl step in
    let main : 1 ≡ r.waiting.caller.vertex = ap (λ (ws : List Waiting). (get_or ws 0 r.waiting).caller.vertex) r.below in
    let called : some (call 4 2 []) ≡ some (call r.return 3 r.actuals) = ap (statement_at callers) main ∙ r.matching in
    let z : ◌≡◌ {A = ℕ} 2 3 = cc in omega arith
