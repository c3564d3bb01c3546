-- What holds of the states of a run where a certificate is accepted: the top call meets a path edge of its vertex, and so does each waiting
-- call with the globals set aside; and each entry state is the one that its caller's call made.
use Rattle.std.specs.Prelude.{◌≡◌, ℕ, List, [], ◌∷◌, ◌++◌, ℤ}
use Rattle.std.proofs.Math.Option.{some}
use Rattle.rows.specs.Rows.{Row, values}
use Rattle.programs.specs.Program.{Program, call, statement_at, owner}
use Rattle.programs.specs.Runs.{Call, Waiting, State, entry_state}
use Rattle.programs.specs.RunWidths.{CallWide}
use Rattle.certificates.specs.Certificate.{Certificate, Meets, path_edges}

-- of an open call and the globals that it is judged with
pub record CallMet (p : Program) (c : Certificate) (globals : List ℤ) (o : Call) : Type 0 where
  pub wide : CallWide p globals o
  pub owned : owner p o.vertex ≡ o.procedure
  pub meets : Meets (path_edges c o.vertex) (o.entry ++ (globals ++ o.locals))

-- of the calls below a call of procedure q with this entry state
pub data BelowMet (p : Program) (c : Certificate) : ℕ → List ℤ → List Waiting → Type 0 where
  bottom : {q : ℕ} {entry : List ℤ} → BelowMet p c q entry []
  waits : {q : ℕ} {entry : List ℤ} {w : Waiting} {rest : List Waiting} {return : ℕ} {actuals : List Row} (others : List ℤ)
      → statement_at p w.caller.vertex ≡ some (call return q actuals)
      → entry ≡ entry_state w.aside (values actuals (w.aside ++ w.caller.locals)) others
      → CallMet p c w.aside w.caller
      → BelowMet p c w.caller.procedure w.caller.entry rest
      → BelowMet p c q entry (w ∷ rest)

pub record StateMet (p : Program) (c : Certificate) (s : State) : Type 0 where
  pub top_met : CallMet p c s.globals s.top
  pub below_met : BelowMet p c s.top.procedure s.top.entry s.below
