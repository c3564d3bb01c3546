-- The coefficients before entry i are those of the multiple; one that is not decides at once.
use Rattle.std.proofs.Common.{◌≡◌, ◌+◌, slice_index_or, pos, w64, SFits, ◌∙◌, arith, rules, refl}
use Rattle.std.proofs.lemmas.Int.{to_z-of_z}
use Rattle.basics.proofs.Booleans.{holds}
use Rattle.basics.specs.Integers.{eq_z}
use Rattle.basics.proofs.Integers.{eq_z→eq}
use Rattle.row_buffers.specs.HeldRows.{held_row}
use Rattle.row_buffers.specs.Entries.{entry}
use Rattle.row_buffers.proofs.Spread.{entry_held}
use Rattle.entailment_judge.proofs.Sums.{same_more, multiple, yielded_tested, not_yielded, yielded_constant}
use Rattle.entailment_judge.proofs.is_yielded.Goals.{After-is_multiple}
use Rattle.entailment_judge.proofs.is_yielded.Goals as goal

-- the test of one coefficient
tested : (c : After-is_multiple) → let a = c.args in eq_z (entry c.loop-i.i (held_row a.columns a.sum.now)) (multiple a.columns a.sum.now a.target.now a.divisor c.loop-i.i) ≡ c.is_multiple.result
tested c =
    let a = c.args in
    let x = slice_index_or a.sum.now c.loop-i.i (pos 0) in
    let y = slice_index_or a.target.now c.loop-i.i (pos 0) in
    let f : SFits w64 x = search rules in
    let g : SFits w64 y = search rules in
    yielded_tested a.columns a.sum.now a.target.now a.divisor c.loop-i.i x y c.is_multiple.result (omega arith) refl refl (simp to_z-of_z at c.is_multiple.ensures)

pub is_multiple-requires : goal.is_multiple-requires
is_multiple-requires c =
    let a = c.args in
    let f : SFits w64 (slice_index_or a.target.now c.loop-i.i (pos 0)) = search rules in
    let p = c.requires.divisor_le_most_divisor in
    (p.0, simp to_z-of_z (rw (← entry_held a.columns c.loop-i.i a.target.now (omega arith)) (p.1.bound c.loop-i.i)))

pub returns-then-not-is_multiple : goal.returns-then-not-is_multiple
returns-then-not-is_multiple c =
    let a = c.args in
    not_yielded a.columns a.sum.now a.target.now a.divisor c.loop-i.i (omega arith) (tested (goal.at.returns-then-not-is_multiple c).After-is_multiple ∙ c.if-not-is_multiple.true)

pub loop-i-preserved : goal.loop-i-preserved
loop-i-preserved c =
    let a = c.args in
    same_more a.columns a.sum.now (multiple a.columns a.sum.now a.target.now a.divisor) c.loop-i.i c.loop-i.invariant
    (eq_z→eq _ _ (holds (tested (goal.at.loop-i-preserved c).After-is_multiple ∙ c.if-not-is_multiple.false)))

pub constant_fits-requires : goal.constant_fits-requires
constant_fits-requires c =
    let a = c.args in
    let f : SFits w64 (slice_index_or a.target.now 0 (pos 0)) = search rules in
    let p = c.requires.divisor_le_most_divisor in
    (p.0, simp to_z-of_z (rw (← entry_held a.columns 0 a.target.now (omega arith)) (p.1.bound 0)))

pub returns : goal.returns
returns c =
    let a = c.args in
    let x = slice_index_or a.sum.now 0 (pos 0) in
    let y = slice_index_or a.target.now 0 (pos 0) in
    let f : SFits w64 x = search rules in
    let g : SFits w64 y = search rules in
    let e : c.loop-i.i ≡ 1 + a.columns = omega arith in
    yielded_constant a.columns a.sum.now a.target.now a.divisor x y c.constant_fits.result (rw e at c.loop-i.invariant) refl refl (simp to_z-of_z at c.constant_fits.ensures)
