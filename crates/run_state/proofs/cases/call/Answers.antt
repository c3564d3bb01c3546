-- `call` meets its contract: the callee, its first vertex and its frame are those of the move, the entry values stand behind the arguments, and
-- the tests of depth, of entry values and of values come in the order of the rules.
use Rattle.std.proofs.Common.{◌≡◌, List, ℕ, ◌+◌, ◌-◌, ℤ, take, drop, refl, sym, subst, ap, ap₂, ◌∙◌, arith}
use Rattle.std.proofs.Math.Seq.{paste}
use Rattle.words.specs.Limits.{value_limit}
use Rattle.programs.specs.ProgramWords.{first, locals, parameters}
use Rattle.traces.specs.Replay.{all_values}
use Rattle.program_readers.specs.declared.kinds.Kind.TheVariants.{Call}
use Rattle.program_readers.specs.declared.statements.CallRow.{CallRow}
use Rattle.run_state.specs.Changes.{entered_at}
use Rattle.run_state.specs.State.{state_in, Moves}
use Rattle.run_state.specs.StatementLaws.{row_asked}
use Rattle.run_state.specs.Scopes.{values_now_lem, scope_width, scoped}
use Rattle.run_state.specs.CallLaws.{callee, arguments, others, callee_frame, arguments_in, actual_expressions, call_refused, all_locals, call_deep, call_few, call_large, call_moved}
use Rattle.run_state.proofs.cases.call.Goals as goal
use Rattle.run_state.proofs.cases.call.Goals.{After-first_of-first, After-parameters_of-count, After-locals_of, After-entered_frame-frame, After-all_small-small}

pub call_row-row-requires : goal.call_row-row-requires
call_row-row-requires c = row_asked _ c.args.sizes _ Call c.requires.at_kind (omega arith)

-- the callee
called : {r r' : CallRow} → r ≡ r' → r.callee.0 ≡ r'.callee.0
called e = ap (λ (r : CallRow). r.callee.0) e

-- where its actuals begin
at_is : {r r' : CallRow} → r ≡ r' → r.at ≡ r'.at
at_is e = ap (λ (r : CallRow). r.at) e

-- its first vertex
begins : (c : After-first_of-first) → c.first_of-first.result.0 ≡ first c.args.program.now (callee c.args.program.now (state_in c.args.globals.now c.args.frames.now c.args.vertex c.args.depth c.args.left.now))
begins c = c.first_of-first.ensures.result_value ∙ ap (first c.args.program.now) (called c.call_row-row.ensures.value)

pub returns-then-listed-first : goal.returns-then-listed-first
returns-then-listed-first c =
    rw c.refused.ensures
    (call_refused _ c.args.sizes _ c.args.listed c.requires.at_kind (λ e. c.if-listed-first.true (e ∙ sym (begins (goal.at.returns-then-listed-first c).After-first_of-first))))

-- how many arguments there are
counted : (c : After-parameters_of-count) → c.parameters_of-count.result ≡ parameters c.args.program.now (callee c.args.program.now (state_in c.args.globals.now c.args.frames.now c.args.vertex c.args.depth c.args.left.now))
counted c = c.parameters_of-count.ensures.value ∙ ap (parameters c.args.program.now) (called c.call_row-row.ensures.value)

-- how many locals
own_counted : (c : After-locals_of) → c.locals_of.result ≡ locals c.args.program.now (callee c.args.program.now (state_in c.args.globals.now c.args.frames.now c.args.vertex c.args.depth c.args.left.now))
own_counted c = c.locals_of.ensures.value ∙ ap (locals c.args.program.now) (called c.call_row-row.ensures.value)

pub overflow_sub-others : goal.overflow_sub-others
overflow_sub-others c =
    let o = goal.at.overflow_sub-others c in
    omega (arith, own_counted o.After-locals_of, counted o.After-parameters_of-count, all_locals _ c.args.sizes _ c.args.listed c.requires.at_kind)

-- how many other locals
others_counted : (c : After-locals_of) → c.locals_of.result - c.parameters_of-count.result ≡ others c.args.program.now (state_in c.args.globals.now c.args.frames.now c.args.vertex c.args.depth c.args.left.now)
others_counted c =
    ap₂ (λ (x y : ℕ). x - y) (own_counted c) (c.parameters_of-count.ensures.value ∙ ap (parameters c.args.program.now) (called c.call_row-row.ensures.value))

pub entered_frame-frame-requires-clause-expressions : goal.entered_frame-frame-requires-clause-expressions
entered_frame-frame-requires-clause-expressions c =
    rw (
      scope_width _ c.args.sizes _ Call c.requires.at_kind c.scope_of-scope.ensures,
      at_is c.call_row-row.ensures.value,
      counted (goal.at.entered_frame-frame-requires-clause-expressions c).After-parameters_of-count,
    ) (actual_expressions _ c.args.sizes _ c.args.listed c.requires.at_kind)

pub entered_frame-frame-requires-clause-scoped : goal.entered_frame-frame-requires-clause-scoped
entered_frame-frame-requires-clause-scoped c = scoped _ _ c.requires.at_kind.proper c.scope_of-scope.ensures

-- its frame
given : (c : After-entered_frame-frame) → c.entered_frame-frame.result ≡ callee_frame c.args.program.now (state_in c.args.globals.now c.args.frames.now c.args.vertex c.args.depth c.args.left.now)
given c =
    rw (
      c.entered_frame-frame.ensures,
      scope_width _ c.args.sizes _ Call c.requires.at_kind c.scope_of-scope.ensures,
      values_now_lem _ _ c.requires.at_kind.proper c.scope_of-scope.ensures,
      c.parameters_of-count.ensures.value,
      c.call_row-row.ensures.value,
    ) refl

-- whether its arguments are within their limits
fits : (c : After-all_small-small) → c.all_small-small.result ≡ all_values value_limit (arguments c.args.program.now (state_in c.args.globals.now c.args.frames.now c.args.vertex c.args.depth c.args.left.now))
fits c =
    c.all_small-small.ensures
    ∙ (ap₂ (λ (m : ℕ) (l : List ℤ). all_values value_limit (take m (drop 2 l))) (c.parameters_of-count.ensures.value ∙ ap (parameters c.args.program.now) (called c.call_row-row.ensures.value)) (given c.before.before)
    ∙ ap (all_values value_limit) (arguments_in c.args.program.now (state_in c.args.globals.now c.args.frames.now c.args.vertex c.args.depth c.args.left.now)))

pub returns-then-deep : goal.returns-then-deep
returns-then-deep c =
    rw c.refused-then-deep.ensures
    (call_deep _ c.args.sizes _ c.args.listed c.requires.at_kind (c.if-listed-first.false ∙ begins (goal.at.returns-then-deep c).After-first_of-first) c.if-deep.true)

pub returns-then-missing : goal.returns-then-missing
returns-then-missing c =
    let o = goal.at.returns-then-missing c in
    rw c.refused-then-missing.ensures
    (call_few _ c.args.sizes _ c.args.listed c.requires.at_kind (c.if-listed-first.false ∙ begins o.After-first_of-first) (omega (arith, c.requires.at_kind.proper.few)) (omega (arith, others_counted o.After-locals_of)))

pub returns-then-not-small : goal.returns-then-not-small
returns-then-not-small c =
    let o = goal.at.returns-then-not-small c in
    rw c.refused-then-not-small.ensures
    (call_large _ c.args.sizes _ c.args.listed c.requires.at_kind (c.if-listed-first.false ∙ begins o.After-first_of-first) (omega (arith, c.requires.at_kind.proper.few)) (omega (arith, others_counted o.After-locals_of))
    (sym (fits o.After-all_small-small) ∙ c.if-not-small.true))

-- frames filled with the same
filled_alike : (left : List ℤ) {frame frame' : List ℤ} {m m' n n' : ℕ} → frame ≡ frame' → m ≡ m' → n ≡ n' → paste frame (2 + m) left n ≡ paste frame' (2 + m') left n'
filled_alike left f e d = rw (f, e, d) refl

pub returns : goal.returns
returns c =
    let o = goal.at.returns c in
    let full = c.filled_frame-filled.ensures ∙ filled_alike c.args.left.now (given o.After-entered_frame-frame) (counted o.After-parameters_of-count) (others_counted o.After-locals_of) in
    subst (Moves c.args.program.now (state_in c.args.globals.now c.args.frames.now c.args.vertex c.args.depth c.args.left.now) c.args.listed) (sym (c.entered.ensures ∙ ap₂ (entered_at c.first_of-first.result c.args.depth) (others_counted o.After-locals_of) full))
    (call_moved _ c.args.sizes _ c.args.listed c.requires.at_kind (c.if-listed-first.false ∙ begins o.After-first_of-first) (omega (arith, c.requires.at_kind.proper.few)) (omega (arith, others_counted o.After-locals_of))
    (sym (fits o.After-all_small-small) ∙ c.if-not-small.false) c.requires.small c.first_of-first.result (begins o.After-first_of-first))
