-- The place after the coefficients that are left is the place after the row.
use Rattle.std.proofs.Common.{◌≡◌, suc, ◌+◌, ◌-◌, sym, ◌∙◌, arith}
use Rattle.entailment_judge.proofs.SplitWords.{constant_to, coefficient_to, none_more, coefficient_read, coefficient_missing, constant_read, constant_missing}
use Rattle.entailment_judge.proofs.reader.row_in.Goals as goal

pub returns-in_err-first : goal.returns-in_err-first
returns-in_err-first c =
    let a = c.args in
    rw c.from_residual.ensures (sym (constant_missing a.w.now a.at a.columns (sym c.constant_in.ensures ∙ c.in_err-first.was)))

pub loop-i-init : goal.loop-i-init
loop-i-init c =
    let a = c.args in
    let e : a.columns - 0 ≡ a.columns = omega arith in
    let k = constant_to a.w.now a.at c.requires (sym c.constant_in.ensures ∙ c.in_ok-first.was) in
    (k.inside, rw e (sym (constant_read a.w.now a.at a.columns k)))

pub returns-in_err-past : goal.returns-in_err-past
returns-in_err-past c =
    let a = c.args in
    let l = c.loop-i in
    let left : a.columns - l.i ≡ suc (a.columns - (l.i + 1)) = omega arith in
    rw c.from_residual-in_err-past.ensures
    (sym (sym l.invariant.1 ∙ rw left (coefficient_missing a.w.now l.next (a.columns - (l.i + 1)) (sym c.coefficient_in.ensures ∙ c.in_err-past.was))))

pub loop-i-preserved : goal.loop-i-preserved
loop-i-preserved c =
    let a = c.args in
    let l = c.loop-i in
    let left : a.columns - l.i ≡ suc (a.columns - (l.i + 1)) = omega arith in
    let t = coefficient_to a.w.now l.next l.invariant.0 (sym c.coefficient_in.ensures ∙ c.in_ok-past.was) in
    (t.inside, rw (← coefficient_read a.w.now l.next (a.columns - (l.i + 1)) t, ← left) l.invariant.1)

pub returns : goal.returns
returns c =
    let a = c.args in
    let l = c.loop-i in
    let e : a.columns - l.i ≡ 0 = omega arith in
    sym (none_more a.w.now l.next a.columns l.invariant.0) ∙ rw e at l.invariant.1
