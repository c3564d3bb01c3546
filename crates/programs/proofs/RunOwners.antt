-- Each open call of a run stands at a vertex of its own procedure, or at 0: "Successors and return points lie in the same procedure", and a call
-- begins at its procedure's first statement.
use Rattle.std.specs.Prelude.{◌≡◌, ℕ, zero, suc, ◌≤◌, List, ◌∷◌, T, ℤ}
use Rattle.std.proofs.Common.{◌∙◌, arith}
use Rattle.std.proofs.Math.Path.{subst}
use Rattle.std.proofs.Math.Option.{some}
use Rattle.basics.proofs.Booleans.{and_l, and_r}
use Rattle.rows.specs.Rows.{Row}
use Rattle.programs.specs.Program.{Program, Statement, call, statement_at, owner, same, formed, formed_statement}
use Rattle.programs.specs.Runs.{Waiting, State, entered, store, push, pop, Step, on_skip, on_assign, on_true, on_false, on_pass, on_fail, on_call, on_exit, Run, start, ◌then◌, initial}
use Rattle.programs.specs.FormLaws.{CallFormed}
use Rattle.programs.proofs.FormLaws.{formed_statement_lem, first_one, some_procedure_lem, owner_first, same_owner, call_formed}
use Rattle.programs.specs.RunOwners.{BelowOwned, CallOwned, Owned, bottom, waits}

pub statement_vertex : (p : Program) (v : ℕ) {st : Statement} → statement_at p v ≡ some st → 1 ≤ v
unfolding statement_at
statement_vertex p zero g = absurd (let z : ◌≡◌ {A = ℕ} 0 1 = cc in omega arith)
statement_vertex p (suc v) g = omega arith

module _ (p : Program) (f : T (formed p)) where
  moves_owned : (s : State) (next : ℕ) {st : Statement} → statement_at p s.top.vertex ≡ some st → T (same p s.top.vertex next) → CallOwned p s.top → owner p next ≡ s.top.procedure
  moves_owned s next g t o = same_owner p s.top.vertex next t ∙ o (statement_vertex p s.top.vertex g)

  back_owned : (return : ℕ) {q : ℕ} {w : Waiting} {rest : List Waiting} {actuals : List Row} (globals : List ℤ) → statement_at p w.caller.vertex ≡ some (call return q actuals) → BelowOwned p (w ∷ rest)
      → Owned p (pop return w rest globals)
  back_owned return {w = w} globals g (waits o b) =
      record { top = λ l. (call_formed p f w.caller.vertex g).back ∙ o (statement_vertex p w.caller.vertex g); below = b }

  step_owned : {s t : State} → Step p s t → Owned p s → Owned p t
  unfolding store push entered formed_statement
  step_owned (on_skip {s} {next} g) i = record { top = λ l. moves_owned s next g (formed_statement_lem p f s.top.vertex g) i.top; below = i.below }
  step_owned (on_assign {s} {next} g) i = record { top = λ l. moves_owned s next g (formed_statement_lem p f s.top.vertex g) i.top; below = i.below }
  step_owned (on_true {s} {yea} {nay} g a) i =
      record { top = λ l. moves_owned s yea g (and_l (same p s.top.vertex yea) (same p s.top.vertex nay) (formed_statement_lem p f s.top.vertex g)) i.top; below = i.below }
  step_owned (on_false {s} {yea} {nay} g a) i =
      record { top = λ l. moves_owned s nay g (and_r (same p s.top.vertex yea) (same p s.top.vertex nay) (formed_statement_lem p f s.top.vertex g)) i.top; below = i.below }
  step_owned (on_pass {s} {next} g a) i = record { top = λ l. moves_owned s next g (formed_statement_lem p f s.top.vertex g) i.top; below = i.below }
  step_owned (on_fail g a) i = record { top = λ l. absurd (omega arith); below = i.below }
  step_owned (on_call {s} {return} {q} {actuals} others o g) i =
      let c : CallFormed p s.top.vertex return q actuals = call_formed p f s.top.vertex g in
      record { top = λ l. owner_first p f q c.low c.high; below = waits i.top i.below }
  step_owned (on_exit {globals} {return = return} ex g) i = back_owned return globals g i.below

  pub run_owned : {s : State} → Run p s → Owned p s
  unfolding initial entered
  run_owned (start globals arguments others _ _ _) =
      record { top = λ l. subst (λ v. owner p v ≡ 1) (first_one p f) (owner_first p f 1 (omega arith) (some_procedure_lem p f)); below = bottom }
  run_owned (◌then◌ run step) = step_owned step (run_owned run)
