-- The executable steps are the steps: a step moves the configuration to its vertex, and a move to a listed vertex is a step there.
-- So the configuration after a step is determined by the one before it, the vertex that it goes to and the values that it enters a procedure
-- with; whether there is one, and how many calls are open after it, by the first two alone.
-- An exit's step asks that the caller waits at a call of the procedure that exits, and `move` doesn't. So a move is shown to be a step only
-- from states where each caller does, and these are all that a run comes to (`run_wide`).
use Rattle.std.specs.Prelude.{◌≡◌, ℕ, ◌≤◌, Bool, not, cond, ◌&&◌, T, eqb, length, set, ℤ}
use Rattle.std.proofs.Math.Path.{refl}
use Rattle.std.proofs.Common.{sym, ◌∙◌, ap, arith, eq-eqb, eqb→eq}
use Rattle.std.proofs.Math.Bool.{true, false}
use Rattle.std.proofs.Math.Option.{Option, none, some, some-injective, none-ne-some}
use mathlib.Core.List.{List, [], ◌∷◌}
use Rattle.std.proofs.Math.Dec.{eqb_refl}
use Rattle.basics.proofs.Booleans.{and, and_l, and_r, cond_yes, holds}
use Rattle.rows.specs.Rows.{value}
use Rattle.programs.specs.Program.{compares, Condition, choice, compare, Statement, skip, assign, branch, assert, call, Program, statement_at, exit_of, first_of}
use Rattle.programs.specs.Runs.{Call, Waiting, State, AtExit, entered, values_now, store, push, pop, Allows, Step, on_skip, on_assign, on_true, on_false, on_pass, on_fail, on_call, on_exit, entered_with}
use Rattle.programs.proofs.FormLaws.{exit_no_statement}
use Rattle.programs.specs.RunWidths.{BelowWide, waits, Wide}
use Rattle.programs.specs.Moves.{Configuration, configuration, frames, moved, stored, called, allows, goes_to, move_by, return_by, leave, move_from, move, needed_by, needed}
use Rattle.programs.specs.StepsMove.{MovesAlike, StepTo}

-- ---- going to a listed vertex

goes : (v : ℕ) (a : Bool) (next : Configuration) (other : Option Configuration) → T a → goes_to v v a next other ≡ some next
goes v a next other t = cond_yes (eqb v v && a) (some next) other (and (eqb v v) a (eqb_refl v) t)

-- the second of two sides, also where both lead to one vertex
goes_second : (v u : ℕ) (a b : Bool) (c : Configuration) → T b → goes_to v u a (moved u c) (goes_to v v b (moved v c) none) ≡ some (moved v c)
goes_second v u a b c t = go (eqb v u && a) refl
  where
    go : (x : Bool) → eqb v u && a ≡ x → cond x (some (moved u c)) (goes_to v v b (moved v c) none) ≡ some (moved v c)
    go true e = ap (λ w. some (moved w c)) (sym (eqb→eq v u (and_l (eqb v u) a (holds e))))
    go false e = goes v b (moved v c) none t

-- ---- a step moves

allowed : (g : Condition) (side : Bool) (s : List ℤ) → Allows g side s → T (allows g side s)
unfolding Allows allows
allowed choice side s a = tt
allowed (compare op e) true s a = a
allowed (compare op e) false s a = a

pub step_moves : (p : Program) {s t : State} → 1 ≤ s.top.procedure → (x : Step p s t) → move p (configuration s) (entered_with x) t.top.vertex ≡ some (configuration t)
unfolding move move_from move_by store stored push called entered entered_with
step_moves p l (on_skip {s} {next} g) = rw g (goes next true (moved next (configuration s)) none tt)
step_moves p l (on_assign {s} {next} {i} {e} g) = rw g (goes next true (stored p next (set (values_now s) i (value e (values_now s))) (configuration s)) none tt)
step_moves p l (on_true {s} {yea} {nay} {g = x} g a) = rw g (goes yea (allows x true (values_now s)) (moved yea (configuration s)) _ (allowed x true (values_now s) a))
step_moves p l (on_false {s} {yea} {nay} {g = x} g a) = rw g (goes_second nay yea (allows x true (values_now s)) (allows x false (values_now s)) (configuration s) (allowed x false (values_now s) a))
step_moves p l (on_pass {s} {next} {op} {e} g t) = rw g (goes next (compares op (value e (values_now s))) (moved next (configuration s)) _ t)
step_moves p l (on_fail {s} {next} {op} {e} g t) = rw g (goes_second 0 next (compares op (value e (values_now s))) (not (compares op (value e (values_now s)))) (configuration s) t)
step_moves p l (on_call {s} {return} {q} {actuals} others o g) = rw g (goes (first_of p q) true (called p q actuals others (configuration s)) none tt)
step_moves p l (on_exit {globals} {c} {w} {rest} {return} ex g) =
    rw (ap (statement_at p) ex ∙ exit_no_statement p c.procedure l)
    (cond_yes (eqb c.vertex (exit_of p c.procedure)) _ none (holds (eq-eqb c.vertex (exit_of p c.procedure) ex))
    ∙ (unfold leave return_by in rw g (goes return true (configuration (pop return w rest globals)) none tt)))

-- ---- a move is a step

-- what going to a listed vertex says
pub went : {X : Type 0} (v u : ℕ) (a : Bool) (next m : Configuration) (other : Option Configuration) → goes_to v u a next other ≡ some m
    → (u ≡ v → T a → next ≡ m → X) → (other ≡ some m → X) → X
went {X} v u a next m other e f h = go (eqb v u && a) refl e
  where
    go : (x : Bool) → eqb v u && a ≡ x → cond x (some next) other ≡ some m → X
    go true q e = f (sym (eqb→eq v u (and_l (eqb v u) a (holds q)))) (and_r (eqb v u) a (holds q)) (some-injective next m e)
    go false q e = h e

pub nowhere : {m : Configuration} {X : Type 0} → none ≡ some m → X
nowhere {m} e = absurd (none-ne-some m e)

is_allowed : (g : Condition) (side : Bool) (s : List ℤ) → T (allows g side s) → Allows g side s
unfolding Allows allows
is_allowed choice side s a = tt
is_allowed (compare op e) true s a = a
is_allowed (compare op e) false s a = a

no_values : (others : List ℤ) → length others ≡ 0 → [] ≡ others
no_values [] e = refl
no_values (x ∷ others) e = absurd (omega arith)

module _ (p : Program) (s : State) (others : List ℤ) (v : ℕ) (m : Configuration) where
  to : {t : State} (x : Step p s t) → configuration t ≡ m → t.top.vertex ≡ v → entered_with x ≡ others → StepTo p s others v m
  to {t} x n q e = record { state = t; step = x; configured = n; vertex = q; entered = e }

  by_statement : (st : Statement) → statement_at p s.top.vertex ≡ some st → length others ≡ needed_by p (some st) → move_by p st (configuration s) others v ≡ some m → StepTo p s others v m
  unfolding move_by needed_by store stored push called entered entered_with
  by_statement (skip next) g o e =
      went v next true (moved next (configuration s)) m none e (λ q t n. to (on_skip g) n q (no_values others o)) nowhere
  by_statement (assign next i x) g o e =
      went v next true (stored p next (set (values_now s) i (value x (values_now s))) (configuration s)) m none e
      (λ q t n. to (on_assign g) n q (no_values others o)) nowhere
  by_statement (branch yea nay x) g o e =
      went v yea (allows x true (values_now s)) (moved yea (configuration s)) m (goes_to v nay (allows x false (values_now s)) (moved nay (configuration s)) none) e
      (λ q t n. to (on_true g (is_allowed x true (values_now s) t)) n q (no_values others o))
      (λ d. went v nay (allows x false (values_now s)) (moved nay (configuration s)) m none d (λ q t n. to (on_false g (is_allowed x false (values_now s) t)) n q (no_values others o)) nowhere)
  by_statement (assert next op x) g o e =
      went v next (compares op (value x (values_now s))) (moved next (configuration s)) m (goes_to v 0 (not (compares op (value x (values_now s)))) (moved 0 (configuration s)) none) e
      (λ q t n. to (on_pass g t) n q (no_values others o))
      (λ d. went v 0 (not (compares op (value x (values_now s)))) (moved 0 (configuration s)) m none d (λ q t n. to (on_fail g t) n q (no_values others o)) nowhere)
  by_statement (call return q actuals) g o e =
      went v (first_of p q) true (called p q actuals others (configuration s)) m none e
      (λ h t n. to (on_call others o g) n h refl) nowhere

module _ (p : Program) (globals : List ℤ) (c : Call) (others : List ℤ) (v : ℕ) (m : Configuration) (ex : AtExit p c) (o : length others ≡ 0) where
  -- the call below waits at a call of this one's procedure
  by_exit_lem : (below : List Waiting) → BelowWide p c.procedure below → leave p (configuration (record { globals = globals; top = c; below = below })) (frames below) v ≡ some m
      → StepTo p (record { globals = globals; top = c; below = below }) others v m
  unfolding leave return_by entered_with
  by_exit_lem [] b e = nowhere e
  by_exit_lem (w ∷ rest) (waits {return = return} g k b) e =
      went v return true (configuration (pop return w rest globals)) m none (rw g at e)
      (λ h t n. record { state = pop return w rest globals; step = on_exit ex g; configured = n; vertex = h; entered = no_values others o }) nowhere

pub move_steps : (p : Program) (s : State) (others : List ℤ) (v : ℕ) (m : Configuration) → Wide p s → length others ≡ needed p (configuration s) → move p (configuration s) others v ≡ some m → StepTo p s others v m
unfolding move needed
move_steps p s others v m w o e = go (statement_at p s.top.vertex) refl o e
  where
    at_exit : length others ≡ 0 → (b : Bool) → eqb s.top.vertex (exit_of p s.top.procedure) ≡ b → cond b (leave p (configuration s) (frames s.below) v) none ≡ some m → StepTo p s others v m
    at_exit o true q e = by_exit_lem p s.globals s.top others v m (eqb→eq s.top.vertex (exit_of p s.top.procedure) (holds q)) o s.below w.below e
    at_exit o false q e = nowhere e

    go : (st : Option Statement) → statement_at p s.top.vertex ≡ st → length others ≡ needed_by p st → move_from p st (configuration s) others v ≡ some m → StepTo p s others v m
    go (some st) g o e = by_statement p s others v m st g o (unfold move_from in e)
    go none g o e = at_exit (unfold needed_by in o) (eqb s.top.vertex (exit_of p s.top.procedure)) refl (unfold move_from in e)

-- ---- the values that a call is entered with

-- how many there are
pub entered_length : (p : Program) {s t : State} → 1 ≤ s.top.procedure → (x : Step p s t) → length (entered_with x) ≡ needed p (configuration s)
unfolding entered_with needed needed_by
entered_length p l (on_skip g) = rw g refl
entered_length p l (on_assign g) = rw g refl
entered_length p l (on_true g a) = rw g refl
entered_length p l (on_false g a) = rw g refl
entered_length p l (on_pass g a) = rw g refl
entered_length p l (on_fail g a) = rw g refl
entered_length p l (on_call others o g) = rw g o
entered_length p l (on_exit {c = c} ex g) = rw (ap (statement_at p) ex ∙ exit_no_statement p c.procedure l) refl

-- whether there is a move, and the open calls below after it, don't depend on them
pub moves_alike : (p : Program) (c m : Configuration) (some-values others : List ℤ) (v : ℕ) → move p c some-values v ≡ some m → MovesAlike p c others v m
unfolding move move_from move_by called
moves_alike p c m some-values others v e = go (statement_at p c.top.vertex) refl e
  where
    same : (st : Option Statement) → statement_at p c.top.vertex ≡ st → move_from p st c others v ≡ some m → MovesAlike p c others v m
    same st g e = record { arrives = m; moves = rw g e; alike = refl }

    go : (st : Option Statement) → statement_at p c.top.vertex ≡ st → move_from p st c some-values v ≡ some m → MovesAlike p c others v m
    go none g e = same none g e
    go (some (skip next)) g e = same (some (skip next)) g e
    go (some (assign next i x)) g e = same (some (assign next i x)) g e
    go (some (branch yea nay x)) g e = same (some (branch yea nay x)) g e
    go (some (assert next op x)) g e = same (some (assert next op x)) g e
    go (some (call return q actuals)) g e =
        went v (first_of p q) true (called p q actuals some-values c) m none e
        (λ h t n. record { arrives = called p q actuals others c; moves = rw (g, sym h) (goes (first_of p q) true (called p q actuals others c) none tt); alike = ap (λ (d : Configuration). d.below) n }) nowhere
