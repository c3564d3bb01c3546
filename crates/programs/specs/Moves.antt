-- The steps as an executable function: from a configuration to the one at the next vertex, where the rules allow that vertex.
-- A configuration is what a step looks at: a state without the entry states and the globals set aside. A call is entered with given values
-- of the other locals.
use Rattle.std.specs.Prelude.{ℕ, Bool, true, false, not, cond, ◌&&◌, List, [], ◌∷◌, ◌++◌, eqb, set, take, drop, ℤ}
use Rattle.std.proofs.Math.Option.{Option, none, some}
use Rattle.rows.specs.Rows.{Row, value, values}
use Rattle.programs.specs.Program.{compares, Condition, choice, compare, Statement, skip, assign, branch, assert, call, Program, statement_at, exit_of, first_of, others_of}
use Rattle.programs.specs.Runs.{Call, Waiting, State}

pub record Frame : Type 0 where
  pub procedure : ℕ
  pub vertex : ℕ
  pub locals : List ℤ

pub record Configuration : Type 0 where
  pub globals : List ℤ
  pub top : Frame
  pub below : List Frame

-- ---- the configuration of a state

abbrev pub frame : Call → Frame
frame c = record { procedure = c.procedure; vertex = c.vertex; locals = c.locals }

abbrev pub frames : List Waiting → List Frame
frames [] = []
frames (w ∷ rest) = frame w.caller ∷ frames rest

abbrev pub configuration : State → Configuration
configuration s = record { globals = s.globals; top = frame s.top; below = frames s.below }

-- ---- what a step does

abbrev pub current : Configuration → List ℤ
current c = c.globals ++ c.top.locals

abbrev pub placed : ℕ → Frame → Frame
placed v f = record { procedure = f.procedure; vertex = v; locals = f.locals }

abbrev pub moved : ℕ → Configuration → Configuration
moved v c = record { globals = c.globals; top = placed v c.top; below = c.below }

unfoldable pub stored : Program → ℕ → List ℤ → Configuration → Configuration
stored p v values c =
    record { globals = take p.globals values; top = record { procedure = c.top.procedure; vertex = v; locals = drop p.globals values }; below = c.below }

unfoldable pub called : Program → ℕ → List Row → List ℤ → Configuration → Configuration
called p q actuals others c =
    record { globals = c.globals; top = record { procedure = q; vertex = first_of p q; locals = values actuals (current c) ++ others }; below = c.top ∷ c.below }

-- ---- which vertices a step may go to

unfoldable pub allows : Condition → Bool → List ℤ → Bool
allows choice side s = true
allows (compare op e) true s = compares op (value e s)
allows (compare op e) false s = not (compares op (value e s))

-- on to a vertex if it is the one listed and the condition allows it; else what follows
abbrev pub goes_to : ℕ → ℕ → Bool → Configuration → Option Configuration → Option Configuration
goes_to listed v allowed next other = cond (eqb listed v && allowed) (some next) other

unfoldable pub move_by : Program → Statement → Configuration → List ℤ → ℕ → Option Configuration
move_by p (skip next) c others listed = goes_to listed next true (moved next c) none
move_by p (assign next i e) c others listed = goes_to listed next true (stored p next (set (current c) i (value e (current c))) c) none
move_by p (branch yea nay g) c others listed = goes_to listed yea (allows g true (current c)) (moved yea c) (goes_to listed nay (allows g false (current c)) (moved nay c) none)
move_by p (assert next op e) c others listed = goes_to listed next (compares op (value e (current c))) (moved next c) (goes_to listed 0 (not (compares op (value e (current c)))) (moved 0 c) none)
move_by p (call return q actuals) c others listed = goes_to listed (first_of p q) true (called p q actuals others c) none

-- back to the return point of the call statement at which the caller waits; in a run that is a call of the procedure that exits
unfoldable pub return_by : Option Statement → Frame → List Frame → List ℤ → ℕ → Option Configuration
return_by none f rest globals listed = none
return_by (some (skip next)) f rest globals listed = none
return_by (some (assign next i e)) f rest globals listed = none
return_by (some (branch yea nay g)) f rest globals listed = none
return_by (some (assert next op e)) f rest globals listed = none
return_by (some (call return q actuals)) f rest globals listed = goes_to listed return true (record { globals = globals; top = placed return f; below = rest }) none

unfoldable pub leave : Program → Configuration → List Frame → ℕ → Option Configuration
leave p c [] listed = none
leave p c (f ∷ rest) listed = return_by (statement_at p f.vertex) f rest c.globals listed

-- a statement's move; where there is none, an exit's
unfoldable pub move_from : Program → Option Statement → Configuration → List ℤ → ℕ → Option Configuration
move_from p (some st) c others listed = move_by p st c others listed
move_from p none c others listed = cond (eqb c.top.vertex (exit_of p c.top.procedure)) (leave p c c.below listed) none

unfoldable pub move : Program → Configuration → List ℤ → ℕ → Option Configuration
move p c others listed = move_from p (statement_at p c.top.vertex) c others listed

-- ---- how many values a step enters a procedure with: at a call, one for each other local of its callee

unfoldable pub needed_by : Program → Option Statement → ℕ
needed_by p none = 0
needed_by p (some (skip next)) = 0
needed_by p (some (assign next i e)) = 0
needed_by p (some (branch yea nay g)) = 0
needed_by p (some (assert next op e)) = 0
needed_by p (some (call return q actuals)) = others_of p q

unfoldable pub needed : Program → Configuration → ℕ
needed p c = needed_by p (statement_at p c.top.vertex)
