-- `certificate_form::row_varies` meets its contract. After i turns i coefficients are 0; one that isn't decides.
use Rattle.std.proofs.Common.{◌≡◌, arith, refl, sym}
use Rattle.words.specs.Words.{all_small}
use Rattle.certificate_form.specs.VaryingLaws.{zeros_next, row_varies, row_constant}
use Rattle.certificate_form.proofs.entries.row_varies.Goals as goal

pub loop-i-init : goal.loop-i-init
unfolding all_small
loop-i-init c = refl

pub returns-then-not-word_small : goal.returns-then-not-word_small
returns-then-not-word_small c =
    row_varies c.args.rows.now c.args.columns c.args.at c.loop-i.i (omega arith) (rw c.coefficients_from-first.ensures at (sym c.if-not-word_small.ensures))

pub loop-i-preserved : goal.loop-i-preserved
loop-i-preserved c =
    zeros_next c.args.rows.now c.args.columns c.args.at c.loop-i.i c.loop-i.invariant (rw c.coefficients_from-first.ensures at (sym c.if-not-word_small.ensures))

pub returns : goal.returns
returns c =
    let e : c.loop-i.i ≡ c.args.columns = omega arith in
    row_constant c.args.rows.now c.args.columns c.args.at (rw e at c.loop-i.invariant)
