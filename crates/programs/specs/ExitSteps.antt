-- The steps at an exit, by the rule alone, whether a run comes there or not: "exit: back to the return point of the matching call, with the
-- exit's globals and the caller's own locals". There is a step if and only if the call below waits at a call of the procedure that exits, and
-- it is the return to that call. Every other step is a statement's, and an exit is none.
use Rattle.std.specs.Prelude.{◌≡◌, ℕ, ◌+◌, List, [], ◌∷◌}
use Rattle.std.proofs.Math.Option.{some}
use Rattle.rows.specs.Rows.{Row}
use Rattle.programs.specs.Program.{Program, unlined, skip, call, statement_at}
use Rattle.programs.specs.Runs.{Call, Waiting, State, AtExit, move_to}

-- from s, whose top call stands at its exit, back to the matching call, in t
pub record Returns (p : Program) (s t : State) : Type 0 where
  pub at_exit : AtExit p s.top
  pub waiting : Waiting
  pub rest : List Waiting
  pub below : s.below ≡ waiting ∷ rest
  pub return : ℕ
  pub actuals : List Row
  pub matching : statement_at p waiting.caller.vertex ≡ some (call return s.top.procedure actuals)
  pub after : t ≡ record { globals = s.globals; top = move_to return waiting.caller; below = rest }

-- ---- "Letting an exit return to any caller": main: 1 call f; f: 2 skip; g: 3 skip. Exits: 4 of main, 5 of f, 6 of g.

abbrev pub callers : Program
callers = record {
  globals = 0;
  statements = unlined (call 4 2 []) ∷ unlined (skip 5) ∷ unlined (skip 6) ∷ [];
  procedures = record { first = 1; locals = 0; parameters = 0 } ∷ record { first = 2; locals = 0; parameters = 0 } ∷ record { first = 3; locals = 0; parameters = 0 } ∷ [];
}

-- a call of procedure q at vertex v
abbrev pub call_of : ℕ → ℕ → Call
call_of q v = record { procedure = q; vertex = v; locals = []; entry = [] }

-- procedure q at its exit, above main, which waits for f
abbrev pub exiting : ℕ → State
exiting q = record { globals = []; top = call_of q (3 + q); below = record { caller = call_of 1 1; aside = [] } ∷ [] }
