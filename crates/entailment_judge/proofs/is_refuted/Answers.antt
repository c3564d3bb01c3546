-- The coefficients before entry k are 0; one that is not decides at once.
use Rattle.std.proofs.Common.{◌≡◌, ◌+◌, slice_index_or, pos, w64, SFits, ◌∙◌, arith, rules, refl}
use Rattle.std.proofs.lemmas.Int.{to_z-of_z}
use Rattle.basics.proofs.Booleans.{holds}
use Rattle.basics.specs.Integers.{eq_z}
use Rattle.basics.proofs.Integers.{eq_z→eq}
use Rattle.row_buffers.specs.HeldRows.{held_row}
use Rattle.row_buffers.specs.Entries.{entry}
use Rattle.entailment_judge.proofs.Sums.{same_more, zeros, refuted_tested, not_refuted, refuted_constant}
use Rattle.entailment_judge.proofs.is_refuted.Goals.{After-same64}
use Rattle.entailment_judge.proofs.is_refuted.Goals as goal

-- the test of one coefficient
tested : (c : After-same64) → eq_z (entry c.loop-k.k (held_row c.args.columns c.args.sum.now)) (pos 0) ≡ c.same64.result
tested c =
    let a = c.args in
    let x = slice_index_or a.sum.now c.loop-k.k (pos 0) in
    let f : SFits w64 x = search rules in
    refuted_tested a.columns a.sum.now c.loop-k.k x c.same64.result (omega arith) refl (simp to_z-of_z at c.same64.ensures)

pub returns-then-not-same64 : goal.returns-then-not-same64
returns-then-not-same64 c =
    let a = c.args in
    not_refuted a.columns a.sum.now c.loop-k.k (omega arith) (tested (goal.at.returns-then-not-same64 c).After-same64 ∙ c.if-not-same64.true)

pub loop-k-preserved : goal.loop-k-preserved
loop-k-preserved c =
    let a = c.args in
    same_more a.columns a.sum.now (zeros a.columns a.sum.now) c.loop-k.k c.loop-k.invariant
    (eq_z→eq _ (pos 0) (holds (tested (goal.at.loop-k-preserved c).After-same64 ∙ c.if-not-same64.false)))

pub returns : goal.returns
returns c =
    let a = c.args in
    let x = slice_index_or a.sum.now 0 (pos 0) in
    let f : SFits w64 x = search rules in
    let e : c.loop-k.k ≡ 1 + a.columns = omega arith in
    refuted_constant a.columns a.sum.now x c.le64.result (rw e at c.loop-k.invariant) refl (simp to_z-of_z at c.le64.ensures)
