-- `branch` meets its contract: the code's test is whether the step may go to the listed vertex, as it reads both vertices and the condition of
-- the statement.
use Rattle.std.proofs.Common.{◌≡◌, List, ℤ, ◌||◌, not, eqb, refl, ap, arith}
use denote.Enum.Bare.{sameb}
use Rattle.program_readers.specs.Kinds.{op_number, op_word}
use Rattle.program_readers.specs.contracts.kinds.Op.{the_type}
use Rattle.program_readers.specs.declared.kinds.Op.{Op}
use Rattle.program_readers.specs.declared.kinds.Op.TheVariants.{Choice}
use Rattle.program_readers.specs.declared.kinds.Kind.TheVariants.{Branch}
use Rattle.program_readers.specs.declared.statements.BranchRow.{BranchRow}
use Rattle.numbers.specs.Magnitudes.{back64}
use Rattle.run_state.specs.State.{state_in}
use Rattle.run_state.specs.StateLaws.{with_left}
use Rattle.run_state.specs.StatementLaws.{row_asked}
use Rattle.run_state.specs.Scopes.{readable, value_now, scoped}
use Rattle.run_state.specs.CaseLaws.{Decided, branch_form_lem, branch_decided, decided_moved, decided_refused}
use Rattle.run_state.proofs.cases.branch.Goals as goal
use Rattle.run_state.proofs.cases.branch.Goals.{After-eq-choice}

pub branch_row-row-requires : goal.branch_row-row-requires
branch_row-row-requires c = row_asked _ c.args.sizes _ Branch c.requires (omega arith)

pub value_at-value-requires-clause-expression : goal.value_at-value-requires-clause-expression
value_at-value-requires-clause-expression c =
    readable _ c.args.sizes _ Branch c.requires c.scope_of-scope.ensures 3 (ap (λ (r : BranchRow). r.at) c.branch_row-row.ensures) (branch_form_lem _ c.args.sizes _ c.args.listed c.requires).here

pub value_at-value-requires-clause-scoped : goal.value_at-value-requires-clause-scoped
value_at-value-requires-clause-scoped c = scoped _ _ c.requires.proper c.scope_of-scope.ensures

-- a choice, by its number
is_choice : (op : Op) → sameb the_type op Choice ≡ eqb (op_number op) 0
is_choice Choice = refl
is_choice op = refl

-- the code's test goes by the outcome of the condition
decided : (c : After-eq-choice) (left : List ℤ) → let row = c.branch_row-row.result in
    Decided c.args.program.now (state_in c.args.globals.now c.args.frames.now c.args.vertex c.args.depth left) c.args.listed row.yea.0 row.nay.0 (c.eq-choice.result || c.compares-holds.result) (c.eq-choice.result || not c.compares-holds.result)
decided c left =
    let here = with_left c.args.program.now c.requires left in
    rw (
      c.eq-choice.ensures,
      is_choice c.branch_row-row.result.op,
      c.compares-holds.ensures,
      back64 c.value_at-value.type_inv,
      c.value_at-value.ensures,
      value_now _ c.args.sizes _ Branch here c.scope_of-scope.ensures 3 (ap (λ (r : BranchRow). r.at) c.branch_row-row.ensures),
      c.branch_row-row.ensures,
      op_word,
    ) (branch_decided _ c.args.sizes _ c.args.listed here)

pub returns-then-yes-no : goal.returns-then-yes-no
returns-then-yes-no c left =
    rw c.moved.ensures
    (decided_moved _ c.args.sizes _ c.args.listed (with_left _ c.requires left) (decided (goal.at.returns-then-yes-no c).After-eq-choice left) c.if-yes-no.true (record { 0 = c.args.listed }) refl)

pub returns : goal.returns
returns c left =
    rw c.refused.ensures (decided_refused _ c.args.sizes _ c.args.listed (with_left _ c.requires left) (decided (goal.at.returns c).After-eq-choice left) c.if-yes-no.false)
