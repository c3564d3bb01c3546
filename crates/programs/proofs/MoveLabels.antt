-- Table 3 by the configuration that a step leaves: whether it stays in its call, calls or returns, its label, and what becomes of the calls
-- below. A step that stays leaves them, a call puts its caller in front of them, and a return goes back to the first and takes it off.
use Rattle.std.proofs.Math.Path.{◌≡◌, refl, ap}
use Rattle.std.proofs.Common.{sym, ◌∙◌, arith}
use Rattle.std.specs.Prelude.{ℕ, ◌≤◌, Bool, false, cond, eqb, ℤ}
use Rattle.std.proofs.Math.Bool.{true}
use Rattle.std.proofs.Math.Option.{Option, none, some}
use mathlib.Core.List.{List, [], ◌∷◌}
use Rattle.programs.specs.Program as statements
use Rattle.programs.specs.Program.{Program, Statement, skip, assign, branch, assert, statement_at, exit_of, first_of}
use Rattle.programs.specs.Runs.{State, Step, on_skip, on_assign, on_true, on_false, on_pass, on_fail, on_call, on_exit}
use Rattle.programs.proofs.FormLaws.{exit_no_statement}
use Rattle.programs.specs.Moves.{Frame, Configuration, configuration, stored, called, move_by, return_by, leave, move_from, move}
use Rattle.programs.proofs.StepsMove.{went, nowhere}
use Rattle.programs.specs.ValidPaths.{σ, call, label}
use Rattle.programs.specs.MoveLabels.{Called, Returned, calls, label_by, label_from, leave_label, return_label, returns, stays, turn_at, turn_of}

pub label_from_lem : (p : Program) {s t : State} → 1 ≤ s.top.procedure → (x : Step p s t) → label x ≡ label_from p (configuration s)
unfolding label label_by leave_label return_label
label_from_lem p l (on_skip g) = rw g refl
label_from_lem p l (on_assign g) = rw g refl
label_from_lem p l (on_true g a) = rw g refl
label_from_lem p l (on_false g a) = rw g refl
label_from_lem p l (on_pass g a) = rw g refl
label_from_lem p l (on_fail g a) = rw g refl
label_from_lem p l (on_call others o g) = rw g refl
label_from_lem p l (on_exit {c = c} ex g) = rw (ap (statement_at p) ex ∙ exit_no_statement p c.procedure l, g) refl

module _ (p : Program) (c m : Configuration) (others : List ℤ) (v : ℕ) where
  same_below : {k : Configuration} → k.below ≡ c.below → k ≡ m → m.below ≡ c.below
  same_below q e = ap (λ (d : Configuration). d.below) (sym e) ∙ q

  stays_by : (st : Option Statement) → turn_of st ≡ stays → move_from p st c others v ≡ some m → (m.below ≡ c.below) × (label_by p st c ≡ σ)
  unfolding turn_of move_from move_by label_by stored
  stays_by none q e = absurd (let z : ◌≡◌ {A = ℕ} 0 1 = cc in omega arith)
  stays_by (some (skip next)) q e = (went v next true _ m none e (λ _ _ d. same_below refl d) nowhere, refl)
  stays_by (some (assign next i x)) q e = (went v next true _ m none e (λ _ _ d. same_below refl d) nowhere, refl)
  stays_by (some (branch yea nay x)) q e =
      (went v yea _ _ m _ e (λ _ _ d. same_below refl d) (λ r. went v nay _ _ m none r (λ _ _ d. same_below refl d) nowhere), refl)
  stays_by (some (assert next op x)) q e =
      (went v next _ _ m _ e (λ _ _ d. same_below refl d) (λ r. went v 0 _ _ m none r (λ _ _ d. same_below refl d) nowhere), refl)
  stays_by (some (statements.call return q actuals)) t e = absurd (let z : ◌≡◌ {A = ℕ} 0 1 = cc in omega arith)

  pub move_stays : turn_at p c.top.vertex ≡ stays → move p c others v ≡ some m → (m.below ≡ c.below) × (label_from p c ≡ σ)
  unfolding move
  move_stays t e = stays_by (statement_at p c.top.vertex) t e

  calls_by : (st : Option Statement) → statement_at p c.top.vertex ≡ st → turn_of st ≡ calls → move_from p st c others v ≡ some m → Called p c m
  unfolding turn_of move_from move_by label_by called
  calls_by none g t e = absurd (let z : ◌≡◌ {A = ℕ} 0 1 = cc in omega arith)
  calls_by (some (skip next)) g t e = absurd (let z : ◌≡◌ {A = ℕ} 0 1 = cc in omega arith)
  calls_by (some (assign next i x)) g t e = absurd (let z : ◌≡◌ {A = ℕ} 0 1 = cc in omega arith)
  calls_by (some (branch yea nay x)) g t e = absurd (let z : ◌≡◌ {A = ℕ} 0 1 = cc in omega arith)
  calls_by (some (assert next op x)) g t e = absurd (let z : ◌≡◌ {A = ℕ} 0 1 = cc in omega arith)
  calls_by (some (statements.call return q actuals)) g t e =
      record {
        return = return;
        callee = q;
        actuals = actuals;
        statement = g;
        labelled = rw g refl;
        below = went v (first_of p q) true _ m none e (λ _ _ d. ap (λ (d : Configuration). d.below) (sym d)) nowhere;
      }

  pub move_calls : turn_at p c.top.vertex ≡ calls → move p c others v ≡ some m → Called p c m
  unfolding move
  move_calls t e = calls_by (statement_at p c.top.vertex) refl t e

  returns_to : (f : Frame) (rest : List Frame) → c.below ≡ f ∷ rest → statement_at p c.top.vertex ≡ none → (st : Option Statement) → statement_at p f.vertex ≡ st → return_by st f rest c.globals v ≡ some m → Returned p c m
  unfolding return_by label_by leave_label return_label
  returns_to f rest b n none g e = nowhere e
  returns_to f rest b n (some (skip next)) g e = nowhere e
  returns_to f rest b n (some (assign next i x)) g e = nowhere e
  returns_to f rest b n (some (branch yea nay x)) g e = nowhere e
  returns_to f rest b n (some (assert next op x)) g e = nowhere e
  returns_to f rest b n (some (statements.call return q actuals)) g e =
      record {
        caller = f;
        rest = rest;
        waiting = b;
        return = return;
        callee = q;
        actuals = actuals;
        statement = g;
        labelled = rw (n, b, g) refl;
        below = went v return true _ m none e (λ _ _ d. ap (λ (d : Configuration). d.below) (sym d)) nowhere;
      }

  leaves : (fs : List Frame) → c.below ≡ fs → statement_at p c.top.vertex ≡ none → leave p c fs v ≡ some m → Returned p c m
  unfolding leave
  leaves [] b n e = nowhere e
  leaves (f ∷ rest) b n e = returns_to f rest b n (statement_at p f.vertex) refl e

  at_exit : (x : Bool) → statement_at p c.top.vertex ≡ none → cond x (leave p c c.below v) none ≡ some m → Returned p c m
  at_exit true n e = leaves c.below refl n e
  at_exit false n e = nowhere e

  returns_by : (st : Option Statement) → statement_at p c.top.vertex ≡ st → turn_of st ≡ returns → move_from p st c others v ≡ some m → Returned p c m
  unfolding turn_of move_from
  returns_by none g t e = at_exit (eqb c.top.vertex (exit_of p c.top.procedure)) g e
  returns_by (some (skip next)) g t e = absurd (let z : ◌≡◌ {A = ℕ} 0 1 = cc in omega arith)
  returns_by (some (assign next i x)) g t e = absurd (let z : ◌≡◌ {A = ℕ} 0 1 = cc in omega arith)
  returns_by (some (branch yea nay x)) g t e = absurd (let z : ◌≡◌ {A = ℕ} 0 1 = cc in omega arith)
  returns_by (some (assert next op x)) g t e = absurd (let z : ◌≡◌ {A = ℕ} 0 1 = cc in omega arith)
  returns_by (some (statements.call return q actuals)) g t e = absurd (let z : ◌≡◌ {A = ℕ} 0 1 = cc in omega arith)

  pub move_returns : turn_at p c.top.vertex ≡ returns → move p c others v ≡ some m → Returned p c m
  unfolding move
  move_returns t e = returns_by (statement_at p c.top.vertex) refl t e
