-- `conclude` meets its contract: as many entry values are left as the trace has beyond those used; the columns of the top call are the values of the
-- last configuration, so k is their number, and the two parts copied one after the other are these values.
use Rattle.std.proofs.Common.{◌≡◌, List, ◌++◌, ℕ, ◌-◌, ℤ, length, drop, refl, sym, ap, ap₂, ◌∙◌, arith, length-drop}
use Rattle.std.proofs.Math.Seq.{paste}
use Rattle.words.specs.Answer.{refuse}
use Rattle.programs.specs.Moves.{current}
use Rattle.traces.specs.TraceWords.{listed_entry_values}
use Rattle.traces.proofs.StartValues.{entries_length}
use Rattle.run_state.specs.State.{configuration_of}
use Rattle.run_state.specs.ScopeValues.{width_of}
use Rattle.run_state.specs.Scopes.{current_length, values_now_lem, scoped}
use Rattle.trace_steps.specs.Runs.{standing_at, state_of}
use Rattle.trace_steps.specs.Results.{front_filled, front_count}
use Rattle.trace_steps.specs.ResultLaws.{two_parts, left_over, too_short, long_enough}
use Rattle.trace_steps.proofs.results.conclude.Goals as goal
use Rattle.trace_steps.proofs.results.conclude.Goals.{After-number_at, After-scope_of-scope}

pub overflow_sub-left : goal.overflow_sub-left
overflow_sub-left c = omega (arith, entries_length c.args.program.now c.args.witness.now c.requires.trace_form, c.requires.used_in_bounds, c.number_at.ensures.value)

-- how many entry values are left
left_length : (c : After-number_at) → length (drop c.args.ran.used (listed_entry_values c.args.program.now c.args.witness.now)) ≡ c.number_at.result - c.args.ran.used
left_length c =
    length-drop c.args.ran.used (listed_entry_values c.args.program.now c.args.witness.now)
    ∙ omega (arith, entries_length c.args.program.now c.args.witness.now c.requires.trace_form, c.number_at.ensures.value)

pub returns-then-left-ne0 : goal.returns-then-left-ne0
unfolding front_filled front_count
returns-then-left-ne0 c =
    let n = left_length (goal.at.returns-then-left-ne0 c).After-number_at in
    let w = c.args.witness.now in
    let s = (state_of c.args.program.now c.args.witness.now c.args.globals.now c.args.frames.now (standing_at c.args.ran)) in
    rw (c.refused.ensures, c.at.ensures)
    (record {
      answers =
          ap (λ (m : ℕ). refuse 14 (length w - m)) (sym n)
          ∙ left_over c.args.steps (length w) (length c.args.buffer.now) (configuration_of c.args.program.now s) s.left (omega (arith, n, c.if-left-ne0.true));
      fills = refl;
      counts = refl;
    })

-- k is the number of the columns
width : (c : After-scope_of-scope) → width_of c.scope_of-scope.result ≡ length (current (configuration_of c.args.program.now (state_of c.args.program.now c.args.witness.now c.args.globals.now c.args.frames.now (standing_at c.args.ran))))
width c = ap width_of c.scope_of-scope.ensures ∙ sym (current_length _ _ c.requires.proper)

pub overflow_add-k : goal.overflow_add-k
overflow_add-k c = let b = scoped _ _ c.requires.proper c.scope_of-scope.ensures in omega (arith, b.shared.few, b.own.few)

pub returns-then-buffer-k : goal.returns-then-buffer-k
unfolding front_filled front_count
returns-then-buffer-k c =
    let o = goal.at.returns-then-buffer-k c in
    let w = width o.After-scope_of-scope in
    let s = (state_of c.args.program.now c.args.witness.now c.args.globals.now c.args.frames.now (standing_at c.args.ran)) in
    rw (c.refused-then-buffer-k.ensures, c.at-then-buffer-k.ensures)
    (record {
      answers =
          ap (λ (m : ℕ). refuse 13 m) w
          ∙ too_short c.args.steps (length c.args.witness.now) (length c.args.buffer.now) (configuration_of c.args.program.now s) s.left (left_length o.After-number_at ∙ c.if-left-ne0.false) (omega (arith, w, c.if-buffer-k.true));
      fills = refl;
      counts = refl;
    })

pub put_values-requires-2-clause-count_in_bounds_2 : goal.put_values-requires-2-clause-count_in_bounds_2
put_values-requires-2-clause-count_in_bounds_2 c = (scoped _ _ c.requires.proper c.scope_of-scope.ensures).own.inside

pub returns : goal.returns
unfolding front_filled front_count
returns c =
    let o = goal.at.returns c in
    let w = width o.After-scope_of-scope in
    let s = (state_of c.args.program.now c.args.witness.now c.args.globals.now c.args.frames.now (standing_at c.args.ran)) in
    let x = c.scope_of-scope.result in
    let own = drop x.from c.args.frames.now in
    record {
      answers = long_enough c.args.steps (length c.args.witness.now) (length c.args.buffer.now) (configuration_of c.args.program.now s) s.left (left_length o.After-number_at ∙ c.if-left-ne0.false) (omega (arith, w, c.if-buffer-k.false));
      fills =
          c.put_values-2.ensures
          ∙ (ap (λ (b : List ℤ). paste b x.globals own x.locals) c.put_values.ensures
          ∙ (two_parts c.args.buffer.now c.args.globals.now c.args.frames.now x (scoped _ _ c.requires.proper c.scope_of-scope.ensures)
          ∙ ap₂ (λ (l : List ℤ) (m : ℕ). l ++ drop m c.args.buffer.now) (values_now_lem _ _ c.requires.proper c.scope_of-scope.ensures) w));
      counts = w;
    }
