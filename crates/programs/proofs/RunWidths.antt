-- The widths of a run's states: G globals now and set aside, L locals and k values at entry of each open call, whose procedure is one of 1..p.
-- And an exit above another call has "the matching call": each waiting call stands at the call statement that made the call above it. A start
-- has this, and each step keeps it: an assign replaces one value, and a call has an actual for each parameter.
use Rattle.std.specs.Prelude.{◌≡◌, ℕ, ◌+◌, ◌≤◌, T, ℤ, set, take, drop}
use Rattle.std.proofs.Common.{◌∙◌, arith, length-take, length-drop, length-set}
use Rattle.std.proofs.Math.Option.{some}
use mathlib.Core.List.{List, ◌∷◌, ◌++◌}
use Rattle.std.proofs.Math.ListN.{length, length-append}
use Rattle.rows.specs.Rows.{Row, values}
use Rattle.rows.proofs.Blocks.{length_values}
use Rattle.programs.specs.Program.{Program, call, statement_at, formed, first_of, locals_of, parameters_of, others_of, width_of}
use Rattle.programs.specs.Runs.{Call, Waiting, State, values_now, entered, entry_state, move_to, store, push, pop, Step, on_skip, on_assign, on_true, on_false, on_pass, on_fail, on_call, on_exit, Run, start, ◌then◌, initial}
use Rattle.programs.specs.FormLaws.{CallFormed}
use Rattle.programs.proofs.FormLaws.{some_procedure_lem, parameters_fit, call_formed}
use Rattle.programs.specs.RunWidths.{BelowWide, CallWide, Wide, bottom, waits}

-- "With G globals, k = G + L"
pub now_width : (p : Program) (s : State) → Wide p s → length (values_now s) ≡ width_of p s.top.procedure
now_width p s w = simp length-append (omega (arith, w.top.widths.globals_width, w.top.widths.locals_width))

module _ (p : Program) where
  -- a call that moves, also with other globals
  pub moved_wide : (v : ℕ) {globals before : List ℤ} {c : Call} → length globals ≡ p.globals → CallWide p before c → CallWide p globals (move_to v c)
  moved_wide v g w = record { low = w.low; high = w.high; widths = record { entry_width = w.widths.entry_width; globals_width = g; locals_width = w.widths.locals_width } }

  pub stored_wide : (next i : ℕ) (x : ℤ) {globals : List ℤ} {c : Call} → CallWide p globals c
      → CallWide p (take p.globals (set (globals ++ c.locals) i x)) (record { procedure = c.procedure; vertex = next; locals = drop p.globals (set (globals ++ c.locals) i x); entry = c.entry })
  stored_wide next i x {globals} {c} w =
      let n : length (set (globals ++ c.locals) i x) ≡ p.globals + locals_of p c.procedure = simp (length-set, length-append) (omega (arith, w.widths.globals_width, w.widths.locals_width)) in
      record {
        low = w.low;
        high = w.high;
        widths = record { entry_width = w.widths.entry_width; globals_width = simp length-take (omega (arith, n)); locals_width = simp length-drop (omega (arith, n)) };
      }

module _ (p : Program) (f : T (formed p)) where
  pub entered_wide : (q v : ℕ) (globals arguments others : List ℤ) → 1 ≤ q → q ≤ length p.procedures → length globals ≡ p.globals → length arguments ≡ parameters_of p q → length others ≡ others_of p q
      → CallWide p globals (entered q v globals arguments others)
  unfolding entered entry_state
  entered_wide q v globals arguments others l h g a o =
      let fit : parameters_of p q ≤ locals_of p q = parameters_fit p f q l h in
      record { low = l; high = h; widths = record { entry_width = simp length-append (omega arith); globals_width = g; locals_width = simp length-append (omega arith) } }

  called_wide : {return q : ℕ} {actuals : List Row} (s : State) (others : List ℤ) → length others ≡ others_of p q → statement_at p s.top.vertex ≡ some (call return q actuals) → Wide p s
      → Wide p (push p q actuals others s)
  unfolding push entered
  called_wide {return} {q} {actuals} s others o g w =
      let c : CallFormed p s.top.vertex return q actuals = call_formed p f s.top.vertex g in
      record {
        top = entered_wide q (first_of p q) s.globals (values actuals (values_now s)) others c.low c.high w.top.widths.globals_width (length_values actuals (values_now s) ∙ c.count) o;
        below = waits g w.top w.below;
      }

  step_wide : {s t : State} → Step p s t → Wide p s → Wide p t
  unfolding store
  step_wide (on_skip g) w = record { top = moved_wide p _ w.top.widths.globals_width w.top; below = w.below }
  step_wide (on_assign g) w = record { top = stored_wide p _ _ _ w.top; below = w.below }
  step_wide (on_true g a) w = record { top = moved_wide p _ w.top.widths.globals_width w.top; below = w.below }
  step_wide (on_false g a) w = record { top = moved_wide p _ w.top.widths.globals_width w.top; below = w.below }
  step_wide (on_pass g a) w = record { top = moved_wide p _ w.top.widths.globals_width w.top; below = w.below }
  step_wide (on_fail g a) w = record { top = moved_wide p _ w.top.widths.globals_width w.top; below = w.below }
  step_wide (on_call {s} others o g) w = called_wide s others o g w
  step_wide (on_exit {globals} {return = return} ex g) w = returned globals w.top.widths.globals_width w.below
    where
      returned : (globals : List ℤ) {q : ℕ} {w : Waiting} {rest : List Waiting} → length globals ≡ p.globals → BelowWide p q (w ∷ rest) → Wide p (pop return w rest globals)
      returned globals g (waits _ c b) = record { top = moved_wide p return (omega (arith, g, c.widths.globals_width)) c; below = b }

  pub run_wide : {s : State} → Run p s → Wide p s
  unfolding initial
  run_wide (start globals arguments others g a o) = record { top = entered_wide 1 1 globals arguments others (omega arith) (some_procedure_lem p f) g a o; below = bottom }
  run_wide (◌then◌ run step) = step_wide step (run_wide run)
