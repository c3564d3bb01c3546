-- `assign` meets its contract: it stores the value of the statement's expression into the statement's column, a global's or a local's.
use Rattle.std.proofs.Common.{◌≡◌, List, [], ℤ, w64, to_z, of_z, refl, sym, ap, ◌∙◌, arith}
use Rattle.words.specs.Limits.{value_limit}
use Rattle.words.specs.Words.{small}
use Rattle.program_readers.specs.declared.kinds.Kind.TheVariants.{Assign}
use Rattle.program_readers.specs.declared.statements.AssignRow.{AssignRow}
use Rattle.numbers.specs.Magnitudes.{back64}
use Rattle.run_state.specs.State.{state_in}
use Rattle.run_state.specs.StateLaws.{with_left}
use Rattle.run_state.specs.StatementLaws.{row_asked}
use Rattle.run_state.specs.Scopes.{readable, value_now, scoped}
use Rattle.run_state.specs.AssignLaws.{next, column, result, assigned_expression, assign_refused, assign_large, assign_global, assign_local}
use Rattle.run_state.proofs.cases.assign.Goals as goal
use Rattle.run_state.proofs.cases.assign.Goals.{After-assign_row-row, After-value_at-value, After-is_small}

pub assign_row-row-requires : goal.assign_row-row-requires
assign_row-row-requires c = row_asked _ c.args.sizes _ Assign c.requires (omega arith)

-- the successor
next_is : (c : After-assign_row-row) → c.assign_row-row.result.next.0 ≡ next c.args.program.now (state_in c.args.globals.now c.args.frames.now c.args.vertex c.args.depth [])
next_is c = ap (λ (r : AssignRow). r.next.0) c.assign_row-row.ensures.value

pub returns-then-listed-row : goal.returns-then-listed-row
returns-then-listed-row c left =
    rw c.refused.ensures
    (assign_refused _ c.args.sizes _ c.args.listed (with_left _ c.requires left) (λ e. c.if-listed-row.true (e ∙ sym (next_is (goal.at.returns-then-listed-row c).After-assign_row-row))))

-- the column
column_is : (c : After-assign_row-row) → c.assign_row-row.result.column ≡ column c.args.program.now (state_in c.args.globals.now c.args.frames.now c.args.vertex c.args.depth [])
column_is c = ap (λ (r : AssignRow). r.column) c.assign_row-row.ensures.value

pub value_at-value-requires-clause-expression : goal.value_at-value-requires-clause-expression
value_at-value-requires-clause-expression c =
    readable _ c.args.sizes _ Assign c.requires c.scope_of-scope.ensures 2 (ap (λ (r : AssignRow). r.at) c.assign_row-row.ensures.value) (assigned_expression _ c.args.sizes _ c.args.listed c.requires)

pub value_at-value-requires-clause-scoped : goal.value_at-value-requires-clause-scoped
value_at-value-requires-clause-scoped c = scoped _ _ c.requires.proper c.scope_of-scope.ensures

-- the value that is stored
value_is : (c : After-value_at-value) (left : List ℤ) → to_z w64 (of_z w64 c.value_at-value.result) ≡ result c.args.program.now (state_in c.args.globals.now c.args.frames.now c.args.vertex c.args.depth left)
value_is c left =
    rw (back64 c.value_at-value.type_inv, c.value_at-value.ensures, value_now _ c.args.sizes _ Assign (with_left _ c.requires left) c.scope_of-scope.ensures 2 (ap (λ (r : AssignRow). r.at) c.assign_row-row.ensures.value)) refl

-- whether it is within its limit
fits : (c : After-is_small) (left : List ℤ) → c.is_small.result ≡ small value_limit (result c.args.program.now (state_in c.args.globals.now c.args.frames.now c.args.vertex c.args.depth left))
fits c left = c.is_small.ensures ∙ ap (small value_limit) (value_is c.before left)

pub returns-then-not-is_small : goal.returns-then-not-is_small
returns-then-not-is_small c left =
    let o = goal.at.returns-then-not-is_small c in
    rw c.refused-then-not-is_small.ensures
    (assign_large _ c.args.sizes _ c.args.listed (with_left _ c.requires left) (c.if-listed-row.false ∙ next_is o.After-assign_row-row) (sym (fits o.After-is_small left) ∙ c.if-not-is_small.true))

pub returns-then-row-g : goal.returns-then-row-g
returns-then-row-g c left =
    let o = goal.at.returns-then-row-g c in
    rw (c.moved.ensures, column_is o.After-assign_row-row, value_is o.After-value_at-value left)
    (assign_global _ c.args.sizes _ c.args.listed (with_left _ c.requires left) (c.if-listed-row.false ∙ next_is o.After-assign_row-row) (sym (fits o.After-is_small left) ∙ c.if-not-is_small.false)
    c.assign_row-row.result.next (next_is o.After-assign_row-row) (omega (arith, column_is o.After-assign_row-row, c.requires.formed.header.globals)))

pub returns : goal.returns
returns c left =
    let o = goal.at.returns c in
    rw (c.moved-2.ensures, c.scope_of-scope.ensures, column_is o.After-assign_row-row, value_is o.After-value_at-value left, c.requires.formed.header.globals)
    (assign_local _ c.args.sizes _ c.args.listed (with_left _ c.requires left) (c.if-listed-row.false ∙ next_is o.After-assign_row-row) (sym (fits o.After-is_small left) ∙ c.if-not-is_small.false)
    c.assign_row-row.result.next (next_is o.After-assign_row-row) (omega (arith, column_is o.After-assign_row-row, c.requires.formed.header.globals)))
