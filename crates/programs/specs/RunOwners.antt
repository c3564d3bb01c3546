-- Each open call of a run stands at a vertex of its own procedure, or at 0: "Successors and return points lie in the same procedure", and a call
-- begins at its procedure's first statement.
use Rattle.std.specs.Prelude.{◌≡◌, ◌≤◌, List, [], ◌∷◌}
use Rattle.programs.specs.Program.{Program, owner}
use Rattle.programs.specs.Runs.{Call, Waiting, State}

-- a call at a vertex of its procedure, or at 0
abbrev pub CallOwned : Program → Call → Type 0
CallOwned p c = 1 ≤ c.vertex → owner p c.vertex ≡ c.procedure

-- so with each of the calls that wait
pub data BelowOwned (p : Program) : List Waiting → Type 0 where
  bottom : BelowOwned p []
  waits : {w : Waiting} {rest : List Waiting} → CallOwned p w.caller → BelowOwned p rest → BelowOwned p (w ∷ rest)

-- so with all open calls of a state
pub record Owned (p : Program) (s : State) : Type 0 where
  pub top : CallOwned p s.top
  pub below : BelowOwned p s.below
