-- `trace_tested` meets its contract: test 4 stands before the tests 9, those of the start values before those of the entry values, and the code
-- makes them in this order. Where test 4 passes, all these values are words of the trace.
use Rattle.std.proofs.Common.{◌≡◌, ℕ, ◌-◌, true, sym, ap, ◌∙◌, arith}
use Rattle.std.proofs.lemmas.Result.{err_from_is_err_and}
use Rattle.basics.proofs.Booleans.{holds}
use Rattle.basics.specs.Lists.{listed}
use Rattle.words.specs.Tests.{first_failure}
use Rattle.traces.specs.TraceWords.{starts, entry_values_from}
use Rattle.traces.specs.TraceTests.{header_passes}
use Rattle.traces.specs.TraceForm.{TraceHeader}
use Rattle.traces.proofs.TraceForm.{header_form}
use Rattle.answers.specs.Tested.{tested}
use Rattle.answers.specs.TestedLaws.{passed_none}
use Rattle.trace_steps.specs.ValueTests.{value_test}
use Rattle.trace_steps.specs.StartLaws.{header_refused, starts_refused, starts_passed}
use Rattle.trace_steps.proofs.starts.trace_tested.Goals as goal
use Rattle.trace_steps.proofs.starts.trace_tested.Goals.{After-starts_of-starts, Else-not-header_passes}

pub returns-then-not-header_passes : goal.returns-then-not-header_passes
returns-then-not-header_passes c = rw c.at.ensures (header_refused c.args.program.now c.args.witness.now (sym c.header_passes.ensures ∙ c.if-not-header_passes.true))

-- test 4 passed
header_passed : (c : Else-not-header_passes) → header_passes c.args.program.now c.args.witness.now ≡ true
header_passed c = sym c.header_passes.ensures ∙ c.if-not-header_passes.false

header : (c : Else-not-header_passes) → TraceHeader c.args.program.now c.args.witness.now
header c = (header_form c.args.program.now c.args.witness.now).0 (holds (header_passed c))

pub values_tested-requires : goal.values_tested-requires
values_tested-requires c = omega (arith, (header (goal.at.values_tested-requires c).Else-not-header_passes).total, c.starts_of-starts.ensures.value)

-- the first family, by the number of start values that the code has
first_tests : (c : After-starts_of-starts) → tested (first_failure (listed (value_test c.args.witness.now 2) c.starts_of-starts.result)) ≡ tested (first_failure (listed (value_test c.args.witness.now 2) (starts c.args.program.now c.args.witness.now)))
first_tests c = ap (λ (m : ℕ). tested (first_failure (listed (value_test c.args.witness.now 2) m))) c.starts_of-starts.ensures.value

pub returns-in_err-values_tested : goal.returns-in_err-values_tested
returns-in_err-values_tested c =
    let o = goal.at.returns-in_err-values_tested c in
    let p = err_from_is_err_and c.from_residual.result c.from_residual.ensures.1 in
    rw (p.1, p.2)
    (starts_refused c.args.program.now c.args.witness.now (header_passed o.Else-not-header_passes) (entry_values_from c.args.program.now c.args.witness.now - 1) (omega arith) _ (c.in_err-values_tested.ensures ∙ first_tests o.After-starts_of-starts))

pub values_tested-requires-2 : goal.values_tested-requires-2
values_tested-requires-2 c = omega (arith, (header (goal.at.values_tested-requires-2 c).Else-not-header_passes).total, c.entries_from-from.ensures.value, c.number_at-entries.ensures.value)

pub returns : goal.returns
returns c =
    let w = c.args.witness.now in
    let o = goal.at.returns c in
    c.values_tested-2.ensures
    ∙ (ap (λ (m : ℕ). tested (first_failure (listed (value_test w (c.entries_from-from.result - 1)) m))) c.number_at-entries.ensures.value
    ∙ starts_passed c.args.program.now w (header_passed o.Else-not-header_passes) (c.entries_from-from.result - 1) (omega (arith, c.entries_from-from.ensures.value, c.entries_from-from.ensures.lower_bound))
    (passed_none _ (sym (c.in_ok-values_tested.ensures ∙ first_tests o.After-starts_of-starts))))
