-- `assert` meets its contract: the code's test is whether the step may go to the listed vertex, as it reads the successor and the condition of
-- the statement.
use Rattle.std.proofs.Common.{List, ℤ, not, refl, ap, arith}
use Rattle.program_readers.specs.Kinds.{op_word}
use Rattle.program_readers.specs.declared.kinds.Kind.TheVariants.{Assert}
use Rattle.program_readers.specs.declared.statements.AssertRow.{AssertRow}
use Rattle.numbers.specs.Magnitudes.{back64}
use Rattle.run_state.specs.State.{state_in}
use Rattle.run_state.specs.StateLaws.{with_left}
use Rattle.run_state.specs.StatementLaws.{row_asked}
use Rattle.run_state.specs.Scopes.{readable, value_now, scoped}
use Rattle.run_state.specs.CaseLaws.{Decided, assert_form_lem, assert_decided, decided_moved, decided_refused}
use Rattle.run_state.proofs.cases.assert.Goals as goal
use Rattle.run_state.proofs.cases.assert.Goals.{After-compares-holds}

pub assert_row-row-requires : goal.assert_row-row-requires
assert_row-row-requires c = row_asked _ c.args.sizes _ Assert c.requires (omega arith)

pub value_at-compared-requires-clause-expression : goal.value_at-compared-requires-clause-expression
value_at-compared-requires-clause-expression c =
    readable _ c.args.sizes _ Assert c.requires c.scope_of-scope.ensures 2 (ap (λ (r : AssertRow). r.at) c.assert_row-row.ensures) (assert_form_lem _ c.args.sizes _ c.args.listed c.requires).here

pub value_at-compared-requires-clause-scoped : goal.value_at-compared-requires-clause-scoped
value_at-compared-requires-clause-scoped c = scoped _ _ c.requires.proper c.scope_of-scope.ensures

-- the code's test goes by the outcome of the condition
decided : (c : After-compares-holds) (left : List ℤ)
    → Decided c.args.program.now (state_in c.args.globals.now c.args.frames.now c.args.vertex c.args.depth left) c.args.listed c.assert_row-row.result.next.0 0 c.compares-holds.result (not c.compares-holds.result)
decided c left =
    let here = with_left c.args.program.now c.requires left in
    rw (
      c.compares-holds.ensures,
      back64 c.value_at-compared.type_inv,
      c.value_at-compared.ensures,
      value_now _ c.args.sizes _ Assert here c.scope_of-scope.ensures 2 (ap (λ (r : AssertRow). r.at) c.assert_row-row.ensures),
      c.assert_row-row.ensures,
      op_word,
    ) (assert_decided _ c.args.sizes _ c.args.listed here)

pub returns-then-passes-fails : goal.returns-then-passes-fails
returns-then-passes-fails c left =
    rw c.moved.ensures
    (decided_moved _ c.args.sizes _ c.args.listed (with_left _ c.requires left) (decided (goal.at.returns-then-passes-fails c).After-compares-holds left) c.if-passes-fails.true (record { 0 = c.args.listed }) refl)

pub returns : goal.returns
returns c left =
    rw c.refused.ensures (decided_refused _ c.args.sizes _ c.args.listed (with_left _ c.requires left) (decided (goal.at.returns c).After-compares-holds left) c.if-passes-fails.false)
