-- The widths of a run's states: G globals now and set aside, L locals and k values at entry of each open call, whose procedure is one of 1..p.
-- And an exit above another call has "the matching call": each waiting call stands at the call statement that made the call above it. A start
-- has this, and each step keeps it: an assign replaces one value, and a call has an actual for each parameter.
use Rattle.std.specs.Prelude.{◌≡◌, ℕ, ◌≤◌, ℤ}
use Rattle.std.proofs.Math.Option.{some}
use mathlib.Core.List.{List, [], ◌∷◌}
use Rattle.std.proofs.Math.ListN.{length}
use Rattle.rows.specs.Rows.{Row}
use Rattle.programs.specs.Program.{Program, call, statement_at, locals_of, width_of}
use Rattle.programs.specs.Runs.{Call, Waiting, State}

-- the values that an open call of procedure q has: k at entry, and now the globals and its locals
pub record Widths (p : Program) (q : ℕ) (entry globals locals : List ℤ) : Type 0 where
  pub entry_width : length entry ≡ width_of p q
  pub globals_width : length globals ≡ p.globals
  pub locals_width : length locals ≡ locals_of p q

-- an open call, with the globals now or those set aside
pub record CallWide (p : Program) (globals : List ℤ) (c : Call) : Type 0 where
  pub low : 1 ≤ c.procedure
  pub high : c.procedure ≤ length p.procedures
  pub widths : Widths p c.procedure c.entry globals c.locals

-- the calls below a call of procedure q: the last of them made it, at a call statement of q, and each of the others the one above it
pub data BelowWide (p : Program) : ℕ → List Waiting → Type 0 where
  bottom : {q : ℕ} → BelowWide p q []
  waits : {q : ℕ} {w : Waiting} {rest : List Waiting} {return : ℕ} {actuals : List Row} → statement_at p w.caller.vertex ≡ some (call return q actuals)
      → CallWide p w.aside w.caller → BelowWide p w.caller.procedure rest → BelowWide p q (w ∷ rest)

pub record Wide (p : Program) (s : State) : Type 0 where
  pub top : CallWide p s.globals s.top
  pub below : BelowWide p s.top.procedure s.below
