-- V: a level stretch, and then the trace's end, main's exit, or a call that doesn't come back with a valid path in it, read on fewer remaining
-- vertices. One law of `PathLaws` for each.
use Rattle.std.proofs.Common.{inr, sym, ◌∙◌, arith}
use Rattle.valid_paths.specs.PathLaws as laws
use Rattle.valid_paths.proofs.paths.+valid.Goals as goal

pub returns-in-Err : goal.returns-in-Err
returns-in-Err t c = laws.level_failed _ _ _ c.args.trace c.args.from.at _ _ c.args.from.here c.requires.here _ _ c.level-stretch.result c.level-stretch.ensures _ c.in-Err.is

pub returns-then-at-trace : goal.returns-then-at-trace
returns-then-at-trace t c =
    laws.path_ended _ _ _ c.args.trace c.args.from.at _ _ c.args.from.here c.requires.here _ _ c.level-stretch.result c.level-stretch.ensures c.in_default.is c.if-at-trace.true

pub returns-then-not-is_statement : goal.returns-then-not-is_statement
returns-then-not-is_statement t c =
    rw (c.failed.ensures, c.standing-here.ensures, c.at.ensures)
    (laws.path_exit _ _ _ c.args.trace c.args.from.at _ _ c.args.from.here c.requires.here _ _ c.level-stretch.result c.level-stretch.ensures c.in_default.is c.if-at-trace.false c.requires.fact
    (sym (rw c.standing-here.ensures at c.is_statement.ensures) ∙ c.if-not-is_statement.true))

pub step_on-called-requires : goal.step_on-called-requires
step_on-called-requires t c =
    rw c.standing-here.ensures
    (laws.goes_on _ _ _ c.args.trace c.args.from.at _ _ c.args.from.here c.requires.here _ _ c.level-stretch.result c.level-stretch.ensures c.in_default.is c.if-at-trace.false)

pub returns-in-Err-entered : goal.returns-in-Err-entered
returns-in-Err-entered t c =
    laws.call_refused _ _ _ c.args.trace c.args.from.at _ _ c.args.from.here c.requires.here _ _ c.level-stretch.result c.level-stretch.ensures c.in_default.is c.if-at-trace.false
    (sym (rw c.standing-here.ensures at c.is_statement.ensures) ∙ c.if-not-is_statement.false) _ _ c.step_on-called.result c.step_on-called.ensures _ c.in-Err-entered.is

pub valid-requires : goal.valid-requires
valid-requires t c =
    let h = c.requires.here in
    let i = c.args.from.at in
    let start = c.args.from.here in
    let r = c.level-stretch.result in
    let y = c.level-stretch.ensures in
    let f = sym (rw c.standing-here.ensures at c.is_statement.ensures) ∙ c.if-not-is_statement.false in
    let before = laws.before_steps _ _ _ c.args.trace i _ _ start h _ _ r y c.in_default.is c.if-at-trace.false in
    let entered = laws.entered _ _ _ c.args.trace i _ _ start h _ _ r y c.in_default.is c.if-at-trace.false f _ _ c.step_on-called.result c.step_on-called.ensures c.in_default-entered.is in
    let never = laws.never_back _ _ _ c.args.trace i _ _ start h _ _ r y c.in_default.is c.if-at-trace.false f in
    rw (c.reached_at-inner.ensures, c.standing-callee.ensures) (omega (arith, before, y.read.more), (entered, (c.requires.table, inr never)))

pub returns : goal.returns
returns t c =
    let f = sym (rw c.standing-here.ensures at c.is_statement.ensures) ∙ c.if-not-is_statement.false in
    laws.path_on _ _ _ c.args.trace c.args.from.at _ _ c.args.from.here c.requires.here _ _ c.level-stretch.result c.level-stretch.ensures c.in_default.is c.if-at-trace.false f
    _ _ c.step_on-called.result c.step_on-called.ensures c.in_default-entered.is _ _ c.valid.result (rw c.reached_at-inner.ensures at c.valid.ensures)
