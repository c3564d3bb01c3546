-- Runs, as document 01 writes them out: "a run's state is the globals now and a pile of open calls, main's at the bottom", and a run is
-- any number of steps from a start, over unbounded whole numbers, to any length and depth of calls. Document 02, CR 2: the locals that
-- aren't parameters "may now hold anything at each entry, main's too".
use Rattle.std.specs.Prelude.{◌≡◌, ℕ, Bool, true, false, not, List, [], ◌∷◌, ◌++◌, T, length, set, take, drop, ℤ}
use Rattle.std.proofs.Math.Option.{some}
use Rattle.rows.specs.Rows.{Row, value, values}
use Rattle.programs.specs.Program.{Comparison, compares, Condition, choice, compare, skip, assign, branch, assert, call, Program, statement_at, exit_of, first_of, parameters_of, others_of}

-- ---- states

-- an open call: "its procedure, its vertex, its locals, its entry state (all k values right after its entry)"
pub record Call : Type 0 where
  pub procedure : ℕ
  pub vertex : ℕ
  pub locals : List ℤ
  pub entry : List ℤ

-- an open call "while it waits for a call that it made", with "the globals as they were when it made it"
pub record Waiting : Type 0 where
  pub caller : Call
  pub aside : List ℤ

-- the globals now, the top call, and the calls that wait below it, main's last
pub record State : Type 0 where
  pub globals : List ℤ
  pub top : Call
  pub below : List Waiting

-- an open call "standing at its exit"
abbrev pub AtExit : Program → Call → Type 0
AtExit p c = c.vertex ≡ exit_of p c.procedure

-- the values of the columns now
abbrev pub values_now : State → List ℤ
values_now s = s.globals ++ s.top.locals

-- the entry state: globals, arguments and the other locals
unfoldable pub entry_state : List ℤ → List ℤ → List ℤ → List ℤ
entry_state globals arguments others = globals ++ (arguments ++ others)

-- a call of procedure q right after its entry, at vertex v
unfoldable pub entered : ℕ → ℕ → List ℤ → List ℤ → List ℤ → Call
entered q v globals arguments others = record { procedure = q; vertex = v; locals = arguments ++ others; entry = entry_state globals arguments others }

abbrev pub move_to : ℕ → Call → Call
move_to v c = record { procedure = c.procedure; vertex = v; locals = c.locals; entry = c.entry }

-- the top call moves to a vertex
abbrev pub go_to : ℕ → State → State
go_to v s = record { globals = s.globals; top = move_to v s.top; below = s.below }

-- and has these values in the columns now
unfoldable pub store : Program → ℕ → List ℤ → State → State
store p v values s =
    record {
      globals = take p.globals values;
      top = record { procedure = s.top.procedure; vertex = v; locals = drop p.globals values; entry = s.top.entry };
      below = s.below;
    }

-- a call of procedure q: its caller waits, with the globals set aside; the actuals, all worked out first, are its parameters
unfoldable pub push : Program → ℕ → List Row → List ℤ → State → State
push p q actuals others s =
    record {
      globals = s.globals;
      top = entered q (first_of p q) s.globals (values actuals (values_now s)) others;
      below = record { caller = s.top; aside = s.globals } ∷ s.below;
    }

-- the top call is taken off; the one below moves to its return point, with its own locals and the globals now
abbrev pub pop : ℕ → Waiting → List Waiting → List ℤ → State
pop return w rest globals = record { globals = globals; top = move_to return w.caller; below = rest }

-- ---- steps

-- the side of a branch that its condition allows; `?` allows either
unfoldable pub Allows : Condition → Bool → List ℤ → Type 0
Allows choice side s = Unit
Allows (compare op e) true s = T (compares op (value e s))
Allows (compare op e) false s = T (not (compares op (value e s)))

-- Table 3 of the report: skip, assign, branch, assert, call, exit. An exit goes "back to the return point of the matching call": the caller
-- waits at a call of the very procedure that exits. A call's other locals hold any values.
pub data Step (p : Program) : State → State → Type 0 where
  on_skip : {s : State} {next : ℕ} → statement_at p s.top.vertex ≡ some (skip next) → Step p s (go_to next s)
  on_assign : {s : State} {next i : ℕ} {e : Row} → statement_at p s.top.vertex ≡ some (assign next i e) → Step p s (store p next (set (values_now s) i (value e (values_now s))) s)
  on_true : {s : State} {yea nay : ℕ} {g : Condition} → statement_at p s.top.vertex ≡ some (branch yea nay g) → Allows g true (values_now s) → Step p s (go_to yea s)
  on_false : {s : State} {yea nay : ℕ} {g : Condition} → statement_at p s.top.vertex ≡ some (branch yea nay g) → Allows g false (values_now s) → Step p s (go_to nay s)
  on_pass : {s : State} {next : ℕ} {op : Comparison} {e : Row} → statement_at p s.top.vertex ≡ some (assert next op e) → T (compares op (value e (values_now s))) → Step p s (go_to next s)
  on_fail : {s : State} {next : ℕ} {op : Comparison} {e : Row} → statement_at p s.top.vertex ≡ some (assert next op e) → T (not (compares op (value e (values_now s)))) → Step p s (go_to 0 s)
  on_call : {s : State} {return q : ℕ} {actuals : List Row} (others : List ℤ) → length others ≡ others_of p q → statement_at p s.top.vertex ≡ some (call return q actuals) → Step p s (push p q actuals others s)
  on_exit : {globals : List ℤ} {c : Call} {w : Waiting} {rest : List Waiting} {return : ℕ} {actuals : List Row} → AtExit p c
      → statement_at p w.caller.vertex ≡ some (call return c.procedure actuals) → Step p (record { globals = globals; top = c; below = w ∷ rest }) (pop return w rest globals)

-- ---- runs

-- "At the start main's call is alone, at vertex 1, its entry state the values there."
unfoldable pub initial : List ℤ → List ℤ → List ℤ → State
initial globals arguments others = record { globals = globals; top = entered 1 1 globals arguments others; below = [] }

infixl 1 ◌then◌
-- a list of steps from a start to a state: "any globals and main parameters", and any other locals of main
pub data Run (p : Program) : State → Type 0 where
  start : (globals arguments others : List ℤ) → length globals ≡ p.globals → length arguments ≡ parameters_of p 1 → length others ≡ others_of p 1 → Run p (initial globals arguments others)
  ◌then◌ : {s t : State} → Run p s → Step p s t → Run p t

-- the states of a run: after its last step, after each step before it, and at its start
unfoldable pub visited : {p : Program} {s : State} → Run p s → List State
visited (start globals arguments others _ _ _) = initial globals arguments others ∷ []
visited (◌then◌ {t = t} run step) = t ∷ visited run

-- the state that a run starts from
unfoldable pub origin : {p : Program} {s : State} → Run p s → State
origin (start globals arguments others _ _ _) = initial globals arguments others
origin (◌then◌ run step) = origin run

-- ---- entry values

-- the values that the other locals hold where a step enters a procedure; only a call does
unfoldable pub entered_with : {p : Program} {s t : State} → Step p s t → List ℤ
entered_with (on_skip _) = []
entered_with (on_assign _) = []
entered_with (on_true _ _) = []
entered_with (on_false _ _) = []
entered_with (on_pass _ _) = []
entered_with (on_fail _ _) = []
entered_with (on_call others _ _) = others
entered_with (on_exit _ _) = []

-- those of a run's calls, in the order of its steps
unfoldable pub entry_values : {p : Program} {s : State} → Run p s → List ℤ
entry_values (start _ _ _ _ _ _) = []
entry_values (◌then◌ run step) = entry_values run ++ entered_with step
