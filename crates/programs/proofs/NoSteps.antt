-- Where there is no step: "Main's exit without a caller has no step; nor has vertex 0." Neither is a statement, and an exit's step wants a call
-- below it (`exit_returns`). So a run that came there goes no further.
use Rattle.std.specs.Prelude.{◌≡◌, List, [], T, length}
use Rattle.std.proofs.Common.{sym, ap, ◌∙◌, arith}
use Rattle.programs.specs.Program.{Program, statement_at, exit_of, formed}
use Rattle.programs.specs.Runs.{Waiting, State, AtExit, Step, Run}
use Rattle.programs.proofs.FormLaws.{exit_no_statement}
use Rattle.programs.proofs.RunWidths.{run_wide}
use Rattle.programs.specs.ExitSteps.{Returns}
use Rattle.programs.proofs.ExitSteps.{exit_returns}

module _ (p : Program) (f : T (formed p)) {s t : State} (run : Run p s) where
  pub none_from_error : s.top.vertex ≡ 0 → Step p s t → ⊥
  unfolding statement_at exit_of
  none_from_error e step = let r : Returns p s t = exit_returns p (ap (statement_at p) e) step in omega (arith, r.at_exit, (run_wide p f run).top.low)

  pub none_from_main : AtExit p s.top → s.below ≡ [] → Step p s t → ⊥
  none_from_main e b step =
      let r : Returns p s t = exit_returns p (ap (statement_at p) e ∙ exit_no_statement p s.top.procedure (run_wide p f run).top.low) step in
      let l = ap (λ (ws : List Waiting). length ws) (sym b ∙ r.below) in
      omega arith
