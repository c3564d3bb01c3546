-- The report's own paths (section 2.3): states ⟨i, ω⟩, which know no open calls, and the steps of Table 3 with their labels, where at a return "the
-- valuation δ can be chosen arbitrarily". Runs are those paths from a start of main whose labels are a string of V: each step of such a path is a
-- step of a run, since V gives a return the return point and the locals of the call that waits.
use Rattle.std.specs.Prelude.{◌≡◌, ℕ, ◌+◌, ◌≤◌, true, false, not, T, ℤ, length, set, take, drop}
use Rattle.std.proofs.Math.Option.{some}
use mathlib.Core.List.{List, [], ◌∷◌, ◌++◌}
use Rattle.rows.specs.Rows.{Row, value, values}
use Rattle.programs.specs.Program as statements
use Rattle.programs.specs.Program.{Program, Comparison, compares, Condition, skip, assign, branch, assert, statement_at, exit_of, first_of, locals_of, others_of, parameters_of, owner, formed}
use Rattle.programs.specs.Runs.{State, Allows, Step, Run, initial, origin}
use Rattle.programs.specs.RunOwners as owners
use Rattle.programs.specs.ValidPaths.{Label, σ, call, ret, label, labels}
use Rattle.programs.specs.OpenCallStrings.{UnmatchedCall, LeftOpen}

-- ⟨i, ω⟩: a vertex, and a valuation of the globals and of the locals of its procedure
pub record ReportState : Type 0 where
  pub vertex : ℕ
  pub globals : List ℤ
  pub locals : List ℤ

-- of a run's state: the vertex of its top call, the globals now and that call's locals
abbrev pub report_state : State → ReportState
report_state s = record { vertex = s.top.vertex; globals = s.globals; locals = s.top.locals }

-- ω, in the order of the columns
abbrev pub valuation : ReportState → List ℤ
valuation x = x.globals ++ x.locals

abbrev pub moved_to : ℕ → ReportState → ReportState
moved_to v x = record { vertex = v; globals = x.globals; locals = x.locals }

-- Table 3. A call's other locals hold any values (document 02, CR 2). "Exit_pr: {Next_P(j) | s_j is a call to pr}", with any δ over the locals of
-- the procedure of j.
pub data ReportStep (p : Program) : ReportState → Label → ReportState → Type 0 where
  by_skip : {x : ReportState} {next : ℕ} → statement_at p x.vertex ≡ some (skip next) → ReportStep p x σ (moved_to next x)
  by_assign : {x : ReportState} {next i : ℕ} {e : Row} → statement_at p x.vertex ≡ some (assign next i e)
      → ReportStep p x σ (record { vertex = next; globals = take p.globals (set (valuation x) i (value e (valuation x))); locals = drop p.globals (set (valuation x) i (value e (valuation x))) })
  by_true : {x : ReportState} {yea nay : ℕ} {g : Condition} → statement_at p x.vertex ≡ some (branch yea nay g) → Allows g true (valuation x) → ReportStep p x σ (moved_to yea x)
  by_false : {x : ReportState} {yea nay : ℕ} {g : Condition} → statement_at p x.vertex ≡ some (branch yea nay g) → Allows g false (valuation x) → ReportStep p x σ (moved_to nay x)
  by_pass : {x : ReportState} {next : ℕ} {op : Comparison} {e : Row} → statement_at p x.vertex ≡ some (assert next op e) → T (compares op (value e (valuation x))) → ReportStep p x σ (moved_to next x)
  by_fail : {x : ReportState} {next : ℕ} {op : Comparison} {e : Row} → statement_at p x.vertex ≡ some (assert next op e) → T (not (compares op (value e (valuation x)))) → ReportStep p x σ (moved_to 0 x)
  by_call : {x : ReportState} {return q : ℕ} {actuals : List Row} (others : List ℤ) → length others ≡ others_of p q → statement_at p x.vertex ≡ some (statements.call return q actuals)
      → ReportStep p x (call return x.locals) (record { vertex = first_of p q; globals = x.globals; locals = values actuals (valuation x) ++ others })
  by_exit : {x : ReportState} (q : ℕ) → 1 ≤ q → q ≤ length p.procedures → x.vertex ≡ exit_of p q → (j : ℕ) {return : ℕ} {actuals : List Row} → statement_at p j ≡ some (statements.call return q actuals)
      → (δ : List ℤ) → length δ ≡ locals_of p (owner p j) → ReportStep p x (ret return δ) (record { vertex = return; globals = x.globals; locals = δ })

-- "A path is a sequence" of steps; its labels, first step first
pub data ReportPath (p : Program) (x : ReportState) : List Label → ReportState → Type 0 where
  stands : ReportPath p x [] x
  steps : {u : List Label} {l : Label} {y z : ReportState} → ReportPath p x u y → ReportStep p y l z → ReportPath p x (u ++ (l ∷ [])) z

-- a run from this start, with these labels, to this state of the report
pub record RunAs (p : Program) (first : State) (u : List Label) (y : ReportState) : Type 0 where
  pub state : State
  pub run : Run p state
  pub begins : origin run ≡ first
  pub labelled : labels run ≡ u
  pub stands : report_state state ≡ y

module _ (p : Program) (f : T (formed p)) where
  -- ---- a path of the report with labels in V is a run

  -- a step of a run's state with this label, to this state of the report, after which these calls are open
  pub record StepAs (s : State) (l : Label) (z : ReportState) (os : List UnmatchedCall) : Type 0 where
    pub state : State
    pub step : Step p s state
    pub labelled : label step ≡ l
    pub stands : report_state state ≡ z
    pub waiting : LeftOpen p state.below os

  module _ (globals arguments others : List ℤ) (hg : length globals ≡ p.globals) (ha : length arguments ≡ parameters_of p 1) (ho : length others ≡ others_of p 1) where
    abbrev pub first : State
    first = initial globals arguments others
