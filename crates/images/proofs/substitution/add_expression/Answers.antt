-- A weight of 0 adds nothing; else the constant is stored, and then the coefficients one after the other; the sum's other entries are those of the
-- target, which stay.
use Rattle.std.proofs.Common.{◌≡◌, sym, ap, ◌∙◌, ℕ, ◌+◌, ◌-◌, ◌<◌, pos, get_or, take, drop, arith, rules, SFits, w32, w64, to_z, of_z, to_z-of_z, length-take, length-drop}
use mir.Facts.{sfits_widen}
use lib.Signed.{nat_abs-le}
use Rattle.words.specs.Words.{word}
use Rattle.words.specs.RowWords.{constant_at}
use Rattle.numbers.specs.Magnitudes.{back64}
use Rattle.row_buffers.proofs.Spread.{spread_none, spread_store}
use Rattle.row_buffers.proofs.RowsOfWords.{form_constant}
use Rattle.row_buffers.proofs.Adding.{part_at, unreached, unweighted}
use Rattle.images.proofs.ExpressionEntries.{expression, sum, reached, constant_added, coefficient_added, entry_fits, entry_passed, rest_passed}
use Rattle.images.proofs.substitution.add_expression.Goals as goal
use Rattle.images.proofs.substitution.add_expression.Goals.{After-wide-weight, In-loop-i}

-- the weight, as the code has it
weighs : (c : After-wide-weight) → to_z w64 (of_z w64 c.wide-weight.result) ≡ word c.args.rows.now c.args.at
weighs c = back64 c.wide-weight.type_inv ∙ c.wide-weight.ensures.is

pub returns-then-weight-eq0 : goal.returns-then-weight-eq0
returns-then-weight-eq0 c =
    let a = c.args in
    let w = word a.rows.now a.at in
    unweighted a.columns a.target.now w (expression a.words.now a.place a.k a.columns w a.target.now) c.requires.columns_in_bounds.0
    (sym (weighs (goal.at.returns-then-weight-eq0 c).After-wide-weight) ∙ ap (to_z w64) c.if-weight-eq0.true)

pub add_mul-requires : goal.add_mul-requires
add_mul-requires c =
    let a = c.args in
    let p = c.requires in
    let f : SFits w64 (get_or c.args.target.now 0 (pos 0)) = search rules in
    entry_fits a.words.now a.place a.k a.columns (word a.rows.now a.at) a.target.now 0 _ _ _ (constant_at a.words.now a.place) (omega arith)
    (to_z-of_z f) (weighs (goal.at.add_mul-requires c).After-wide-weight) (back64 c.constant_at.type_inv ∙ c.constant_at.ensures) p.columns_in_bounds.1 p.at_in_bounds.1
    (omega (arith, form_constant p.expression.form))

pub loop-i-init : goal.loop-i-init
loop-i-init c =
    let a = c.args in
    let w = word a.rows.now a.at in
    let r = sum a.words.now a.place a.k a.columns w a.target.now in
    let f : SFits w64 (get_or c.args.target.now 0 (pos 0)) = search rules in
    let e : 1 + a.k ≡ 1 + a.k + 0 = omega arith in
    spread_store r 0 a.target.now a.target.now (to_z w64 (of_z w64 c.add_mul.result)) (omega arith) (spread_none r a.target.now)
    (back64 c.add_mul.type_inv ∙ c.add_mul.ensures
    ∙ constant_added a.words.now a.place a.k a.columns w a.target.now _ _ _ (to_z-of_z f) (weighs (goal.at.loop-i-init c).After-wide-weight) (back64 c.constant_at.type_inv ∙ c.constant_at.ensures))
    ∙ entry_passed a.words.now a.place a.k a.columns w a.target.now (omega arith) (omega arith)
    ∙ ap (reached a.words.now a.place a.k a.columns w a.target.now) e

inside : (c : In-loop-i) → c.loop-i.i < c.args.k
inside c =
    let from = c.coefficients_from-coefficients.result in
    omega (arith, length-take (from + c.args.k - from) (drop from c.args.words.now))

pub add_mul-requires-in-loop-i : goal.add_mul-requires-in-loop-i
add_mul-requires-in-loop-i c =
    let a = c.args in
    let l = c.loop-i in
    let p = c.requires in
    let w = word a.rows.now a.at in
    let from = c.coefficients_from-coefficients.result in
    let k = inside (goal.at.add_mul-requires-in-loop-i c).In-loop-i in
    let g : SFits w32 (get_or (take (from + a.k - from) (drop from a.words.now)) l.i (pos 0)) = search rules in
    let h : SFits w64 (get_or (take (from + a.k - from) (drop from a.words.now)) l.i (pos 0)) = sfits_widen tt g in
    let x : to_z w64 (of_z w64 (to_z w32 (of_z w32 (get_or (take (from + a.k - from) (drop from a.words.now)) l.i (pos 0))))) ≡ word a.words.now (from + l.i) =
    rw (to_z-of_z g) (to_z-of_z h ∙ part_at a.words.now from a.k l.i k) in
    let small = rw (part_at a.words.now from a.k l.i k) at (nat_abs-le (get_or (take (from + a.k - from) (drop from a.words.now)) l.i (pos 0)) g.sfits) in
    let f : SFits w64 (get_or c.loop-i.target (1 + c.args.k + c.loop-i.i) (pos 0)) = search rules in
    entry_fits a.words.now a.place a.k a.columns w a.target.now (1 + a.k + l.i) _ _ _ (word a.words.now (from + l.i)) (omega arith)
    (to_z-of_z f ∙ unreached (1 + a.k + l.i) (sum a.words.now a.place a.k a.columns w a.target.now) a.target.now l.target l.invariant)
    (weighs (goal.at.add_mul-requires-in-loop-i c).After-wide-weight) x p.columns_in_bounds.1 p.at_in_bounds.1 (omega (arith, small))

pub loop-i-preserved : goal.loop-i-preserved
loop-i-preserved c =
    let a = c.args in
    let l = c.loop-i in
    let w = word a.rows.now a.at in
    let r = sum a.words.now a.place a.k a.columns w a.target.now in
    let p = 1 + a.k + l.i in
    let next : p + 1 ≡ 1 + a.k + (l.i + 1) = omega arith in
    let f : SFits w64 (get_or c.loop-i.target (1 + c.args.k + c.loop-i.i) (pos 0)) = search rules in
    let from = c.coefficients_from-coefficients.result in
    let k = inside (goal.at.loop-i-preserved c).In-loop-i in
    let g : SFits w32 (get_or (take (from + a.k - from) (drop from a.words.now)) l.i (pos 0)) = search rules in
    let h : SFits w64 (get_or (take (from + a.k - from) (drop from a.words.now)) l.i (pos 0)) = sfits_widen tt g in
    let x : to_z w64 (of_z w64 (to_z w32 (of_z w32 (get_or (take (from + a.k - from) (drop from a.words.now)) l.i (pos 0))))) ≡ word a.words.now (from + l.i) =
    rw (to_z-of_z g) (to_z-of_z h ∙ part_at a.words.now from a.k l.i k) in
    let y = c.add_mul-in-loop-i in
    spread_store r p a.target.now l.target (to_z w64 (of_z w64 y.result)) (omega arith) l.invariant
    (back64 y.type_inv ∙ y.ensures
    ∙ coefficient_added a.words.now a.place a.k a.columns w a.target.now l.i _ _ _ (omega arith) c.requires.k_bound
    (to_z-of_z f ∙ unreached p r a.target.now l.target l.invariant) (weighs (goal.at.loop-i-preserved c).After-wide-weight)
    (x ∙ ap (λ (from : ℕ). word a.words.now (from + l.i)) c.coefficients_from-coefficients.ensures))
    ∙ ap (reached a.words.now a.place a.k a.columns w a.target.now) next

pub returns : goal.returns
returns c =
    let a = c.args in
    let w = word a.rows.now a.at in
    let from = c.coefficients_from-coefficients.result in
    let e : 1 + a.k + c.loop-i.i ≡ 1 + a.k + a.k = omega (arith, length-take (from + a.k - from) (drop from a.words.now), length-drop from a.words.now) in
    c.loop-i.invariant ∙ ap (reached a.words.now a.place a.k a.columns w a.target.now) e
    ∙ rest_passed a.words.now a.place a.k a.columns w a.target.now c.requires.k_bound c.requires.columns_in_bounds.0
