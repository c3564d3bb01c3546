-- Table 3 by the configuration that a step leaves: whether it stays in its call, calls or returns, its label, and what becomes of the calls
-- below. A step that stays leaves them, a call puts its caller in front of them, and a return goes back to the first and takes it off.
use Rattle.std.proofs.Math.Path.{◌≡◌}
use Rattle.std.specs.Prelude.{ℕ}
use Rattle.std.proofs.Math.Option.{Option, none, some}
use mathlib.Core.List.{List, [], ◌∷◌}
use Rattle.rows.specs.Rows.{Row}
use Rattle.programs.specs.Program as statements
use Rattle.programs.specs.Program.{Program, Statement, skip, assign, branch, assert, statement_at}
use Rattle.programs.specs.Moves.{Frame, Configuration}
use Rattle.programs.specs.ValidPaths.{Label, σ, call, ret}

-- what a step does: it stays in its call, calls or returns
pub data Turn : Type 0 where
  stays calls returns : Turn

-- by its statement; an exit is none
unfoldable pub turn_of : Option Statement → Turn
turn_of none = returns
turn_of (some (skip next)) = stays
turn_of (some (assign next i e)) = stays
turn_of (some (branch yea nay g)) = stays
turn_of (some (assert next op e)) = stays
turn_of (some (statements.call return q actuals)) = calls

-- of a step from this vertex
abbrev pub turn_at : Program → ℕ → Turn
turn_at p v = turn_of (statement_at p v)

-- ---- labels

-- ⟨ret, i, δ⟩: i the return point of the call statement at which the caller waits, δ the caller's locals
unfoldable pub return_label : Option Statement → Frame → Label
return_label none f = σ
return_label (some (skip next)) f = σ
return_label (some (assign next i e)) f = σ
return_label (some (branch yea nay g)) f = σ
return_label (some (assert next op e)) f = σ
return_label (some (statements.call return q actuals)) f = ret return f.locals

-- from an exit, to the first of the calls below
unfoldable pub leave_label : Program → List Frame → Label
leave_label p [] = σ
leave_label p (f ∷ rest) = return_label (statement_at p f.vertex) f

-- Table 3, column α
unfoldable pub label_by : Program → Option Statement → Configuration → Label
label_by p none c = leave_label p c.below
label_by p (some (skip next)) c = σ
label_by p (some (assign next i e)) c = σ
label_by p (some (branch yea nay g)) c = σ
label_by p (some (assert next op e)) c = σ
label_by p (some (statements.call return q actuals)) c = call return c.top.locals

-- of a step from this configuration
abbrev pub label_from : Program → Configuration → Label
label_from p c = label_by p (statement_at p c.top.vertex) c

-- ---- the calls below

-- a call: its caller waits at the call statement, before the others
pub record Called (p : Program) (c m : Configuration) : Type 0 where
  pub return : ℕ
  pub callee : ℕ
  pub actuals : List Row
  pub statement : statement_at p c.top.vertex ≡ some (statements.call return callee actuals)
  pub labelled : label_from p c ≡ call return c.top.locals
  pub below : m.below ≡ c.top ∷ c.below

-- a return: to the call statement at which the first of them waits
pub record Returned (p : Program) (c m : Configuration) : Type 0 where
  pub caller : Frame
  pub rest : List Frame
  pub waiting : c.below ≡ caller ∷ rest
  pub return : ℕ
  pub callee : ℕ
  pub actuals : List Row
  pub statement : statement_at p caller.vertex ≡ some (statements.call return callee actuals)
  pub labelled : label_from p c ≡ ret return caller.locals
  pub below : m.below ≡ rest
