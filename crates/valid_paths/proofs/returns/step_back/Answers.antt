-- `step_back` meets its contract: from vertex 0 there is no step, and from an exit the step to the return point alone, which isn't the last.
use Rattle.std.proofs.Common.{refl, sym, ◌∙◌}
use Rattle.valid_paths.specs.ReturnLaws.{zero_failed, back_other, back_last, back_on}
use Rattle.valid_paths.proofs.returns.step_back.Goals as goal

pub returns-then-here-eq0 : goal.returns-then-here-eq0
returns-then-here-eq0 c entries globals frames h b =
    rw (c.failed.ensures, c.at.ensures) (zero_failed _ _ entries c.args.trace c.args.at globals frames c.args.here h c.args.call c.requires.returning b c.if-here-eq0.true)

pub returns-then-not-same : goal.returns-then-not-same
returns-then-not-same c entries globals frames h b =
    rw (c.failed-then-not-same.ensures, c.at-then-not-same.ensures)
    (back_other _ _ entries c.args.trace c.args.at globals frames c.args.here h c.args.call c.requires.returning b c.if-here-eq0.false c.call_row-row.result.back (rw c.call_row-row.ensures.value refl) (sym c.word_within-same.ensures ∙ c.if-not-same.true))

pub returns-then-last : goal.returns-then-last
returns-then-last c entries globals frames h b =
    rw (c.failed-then-last.ensures, c.at-then-last.ensures) (back_last _ _ entries c.args.trace c.args.at globals frames c.args.here h c.args.call c.requires.returning b c.if-here-eq0.false c.if-last.true)

pub returns : goal.returns
returns c entries globals frames h b =
    rw (c.passed.ensures, c.standing.ensures)
    (back_on _ _ entries c.args.trace c.args.at globals frames c.args.here h c.args.call c.requires.returning b c.if-here-eq0.false c.call_row-row.result.back (rw c.call_row-row.ensures.value refl) (sym c.word_within-same.ensures ∙ c.if-not-same.false) c.if-last.false)
