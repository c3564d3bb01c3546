-- The executable steps are the steps: a step moves the configuration to its vertex, and a move to a listed vertex is a step there.
-- So the configuration after a step is determined by the one before it, the vertex that it goes to and the values that it enters a procedure
-- with; whether there is one, and how many calls are open after it, by the first two alone.
-- An exit's step asks that the caller waits at a call of the procedure that exits, and `move` doesn't. So a move is shown to be a step only
-- from states where each caller does, and these are all that a run comes to (`run_wide`).
use Rattle.std.specs.Prelude.{◌≡◌, ℕ, ℤ}
use Rattle.std.proofs.Math.Option.{some}
use mathlib.Core.List.{List}
use Rattle.programs.specs.Program.{Program}
use Rattle.programs.specs.Runs.{State, entered, Step, entered_with}
use Rattle.programs.specs.Moves.{Configuration, configuration, move}

-- a step to the listed vertex, entered with these values, with that configuration
pub record StepTo (p : Program) (s : State) (others : List ℤ) (v : ℕ) (m : Configuration) : Type 0 where
  pub state : State
  pub step : Step p s state
  pub configured : configuration state ≡ m
  pub vertex : state.top.vertex ≡ v
  pub entered : entered_with step ≡ others

-- a move, as far as it doesn't depend on them
pub record MovesAlike (p : Program) (c : Configuration) (others : List ℤ) (v : ℕ) (m : Configuration) : Type 0 where
  pub arrives : Configuration
  pub moves : move p c others v ≡ some arrives
  pub alike : arrives.below ≡ m.below
