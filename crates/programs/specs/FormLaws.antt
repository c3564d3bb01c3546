-- What the form of a program gives: the procedure of a first statement, since first statements rise; of a successor and of a return point; and
-- a call's procedure and actuals.
use Rattle.std.proofs.Math.Path.{◌≡◌}
use Prim.Native.Nat.{ℕ, ◌-◌, ◌≤◌, ◌<◌}
use mathlib.Core.List.{List}
use Rattle.std.proofs.Math.ListN.{length}
use Rattle.rows.specs.Rows.{Row}
use Rattle.programs.specs.Program.{Program, Procedure, parameters_of, owner}

-- ---- first statements

pub record EntryFormed (n last : ℕ) (q : Procedure) : Type 0 where
  pub after : last < q.first
  pub within : q.first ≤ n
  pub fits : q.parameters ≤ q.locals

-- the form of a call statement at v
pub record CallFormed (p : Program) (v return q : ℕ) (actuals : List Row) : Type 0 where
  pub back : owner p return ≡ owner p v
  pub low : 1 ≤ q
  pub high : q ≤ length p.procedures
  pub count : length actuals ≡ parameters_of p q
