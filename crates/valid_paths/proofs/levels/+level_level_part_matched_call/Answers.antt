-- M, by the three functions that read it: `level` goes on part by part, and its loop knows a level stretch up to where it stands; `level_part` reads
-- one part or none; `matched_call` reads a level stretch inside its call, on fewer remaining vertices. One law of `LevelLaws` for each way on and
-- each end.
use Rattle.std.proofs.Common.{sym, ◌∙◌, arith}
use Rattle.valid_paths.specs.TurnLaws as turns
use Rattle.valid_paths.specs.LevelLaws as laws
use Rattle.valid_paths.proofs.levels.+level_level_part_matched_call.Goals as goal

pub level-loop-at-init : goal.level-loop-at-init
level-loop-at-init t c = laws.reading_first _ _ _ c.args.trace c.args.from.at _ _ c.args.from.here c.requires.here

pub level-loop-at-preserved : goal.level-loop-at-preserved
level-loop-at-preserved t c =
    let x = c.loop-at.invariant in
    laws.reading_on _ _ _ c.args.trace _ _ c.loop-at.at c.loop-at.globals c.loop-at.frames _ x _ _ c.level_part-part.result (rw (c.reached_at-here.ensures, c.standing.ensures) at c.level_part-part.ensures) c.in_default.is

pub level-returns : goal.level-returns
level-returns t c =
    rw (c.stretched-2.ensures, c.passed-2.ensures, c.standing-2.ensures)
    (laws.read_ended _ _ _ c.args.trace _ _ c.loop-at.at c.loop-at.globals c.loop-at.frames _ c.loop-at.invariant (λ x. omega arith))

pub level_part-returns-then-table-at-eq0 : goal.level_part-returns-then-table-at-eq0
level_part-returns-then-table-at-eq0 t c =
    let h = c.requires.here in
    let i = c.args.from.at in
    let here = c.args.from.here in
    let called = turns.calls_told c.args.program.now here.vertex.0 (sym c.in-Calls.is ∙ c.turn_of-turn.ensures) in
    rw (c.stretched-then-table-at-eq0.ensures, c.passed.ensures)
    (laws.part_empty _ _ _ c.args.trace i _ _ here h (laws.stops_before_call _ _ _ c.args.trace i _ _ here h c.args.table.now c.requires.table called c.if-table-at-eq0.true))

pub level_part-matched_call-requires : goal.level_part-matched_call-requires
level_part-matched_call-requires t c =
    let h = c.requires.here in
    let here = c.args.from.here in
    let called = turns.calls_told c.args.program.now here.vertex.0 (sym c.in-Calls.is ∙ c.turn_of-turn.ensures) in
    (omega arith, (h, (c.requires.table, laws.matched_call _ _ _ c.args.trace c.args.from.at _ _ here h c.args.table.now c.requires.table c.requires.at_lt_steps called c.if-table-at-eq0.false)))

pub level_part-returns-in-Stays : goal.level_part-returns-in-Stays
level_part-returns-in-Stays t c =
    let here = c.args.from.here in
    let stays = turns.stays_told c.args.program.now here.vertex.0 (sym c.in-Stays.is ∙ c.turn_of-turn.ensures) in
    rw c.stretched.ensures (laws.part_step _ _ _ c.args.trace c.args.from.at _ _ here c.requires.here c.requires.at_lt_steps stays _ _ c.step_on-ran.result c.step_on-ran.ensures)

pub level_part-returns-in-Returns : goal.level_part-returns-in-Returns
level_part-returns-in-Returns t c =
    let h = c.requires.here in
    let i = c.args.from.at in
    let here = c.args.from.here in
    let returns = turns.returns_told c.args.program.now here.vertex.0 (sym c.in-Returns.is ∙ c.turn_of-turn.ensures) in
    rw (c.stretched-in-Returns.ensures, c.passed-in-Returns.ensures)
    (laws.part_empty _ _ _ c.args.trace i _ _ here h (laws.stops_before_return _ _ _ c.args.trace i _ _ here h returns))

pub matched_call-level-inside-requires : goal.matched_call-level-inside-requires
matched_call-level-inside-requires t c =
    let h = c.requires.here in
    let m = c.requires.cases in
    rw (c.reached_at-inner.ensures, c.standing-callee.ensures)
    (omega (arith, m.before, h.sized.count), (laws.entered _ _ _ c.args.trace c.args.from.at _ _ c.args.from.here h m _ _ c.step_on-called.result c.step_on-called.ensures c.in_default.is, c.requires.table))

pub matched_call-step_back-back-requires-clause-returning : goal.matched_call-step_back-back-requires-clause-returning
matched_call-step_back-back-requires-clause-returning t c =
    let inside = rw (c.reached_at-inner.ensures, c.standing-callee.ensures) at c.level-inside.ensures in
    rw c.standing-exit.ensures
    (laws.returning _ _ _ c.args.trace c.args.from.at _ _ c.args.from.here c.requires.here c.requires.cases _ _ c.step_on-called.result c.step_on-called.ensures c.in_default.is _ _ c.level-inside.result inside c.in_default-end.is)

pub matched_call-returns : goal.matched_call-returns
matched_call-returns t c =
    let h = c.requires.here in
    let m = c.requires.cases in
    let i = c.args.from.at in
    let here = c.args.from.here in
    let called = c.step_on-called in
    let r = c.level-inside.result in
    let inside = rw (c.reached_at-inner.ensures, c.standing-callee.ensures) at c.level-inside.ensures in
    let exit = laws.exit_here _ _ _ c.args.trace i _ _ here h m _ _ called.result called.ensures c.in_default.is _ _ r inside c.in_default-end.is in
    let above = laws.above _ _ _ c.args.trace i _ _ here h m _ _ called.result called.ensures c.in_default.is _ _ r inside c.in_default-end.is in
    rw c.stretched-2.ensures
    (laws.part_back _ _ _ c.args.trace i _ _ here h m _ _ called.result called.ensures c.in_default.is _ _ r inside c.in_default-end.is c.step_back-back.result
    (c.step_back-back.ensures c.args.entries.now _ _ (rw c.standing-exit.ensures exit) (rw c.standing-exit.ensures above)))
