-- `used_from` meets its contract: after j turns it has the count of the first j coefficients, to which one that isn't 0 adds one.
use Rattle.std.proofs.Common.{◌≡◌, ◌+◌, ◌-◌, ◌<◌, pos, get_or, length, take, drop, arith, rules, refl, sym, ap, ◌∙◌, w32, SFits, length-take, length-drop}
use Rattle.basics.specs.Integers.{eq_z}
use Rattle.words.specs.UsedColumns.{used_coefficients}
use Rattle.row_writers.specs.Arrays.{used_most, next_zero, count_used, tested_zero, tested_used, coefficient_at}
use Rattle.row_writers.proofs.used_from.Goals as goal
use Rattle.row_writers.proofs.used_from.Goals.{In-loop-coefficient, then-coefficient-ne0, else-coefficient-ne0}

pub loop-coefficient-init : goal.loop-coefficient-init
unfolding used_coefficients
loop-coefficient-init c = refl

pub overflow_add-used : goal.overflow_add-used
overflow_add-used c = omega (arith, c.loop-coefficient.invariant, used_most c.args.rows.now c.args.from c.loop-coefficient.coefficient-index, length-take (c.args.from + c.args.columns - c.args.from) (drop c.args.from c.args.rows.now))

pub loop-coefficient-preserved : goal.loop-coefficient-preserved
loop-coefficient-preserved c =
    let a = c.args in
    let l = c.loop-coefficient in
    let j = l.coefficient-index in
    let n = a.from + a.columns - a.from in
    let k : j < a.columns = omega (arith, length-take n (drop a.from a.rows.now)) in
    let x = get_or (take n (drop a.from a.rows.now)) j (pos 0) in
    let f : SFits w32 (get_or (take (a.from + a.columns - a.from) (drop a.from a.rows.now)) c.loop-coefficient.coefficient-index (pos 0)) = search rules in
    let e = ap (λ z. eq_z z (pos 0)) (coefficient_at a.rows.now a.from a.columns j k) in
    elim c.if-coefficient-ne0.branch [
      | then-coefficient-ne0 w ↦ w.used-is ∙ (ap (λ n. n + 1) l.invariant ∙ sym (count_used a.rows.now a.from j (omega arith) (sym e ∙ tested_used x w.if-coefficient-ne0.true)))
      | else-coefficient-ne0 w ↦ w.used-is ∙ (l.invariant ∙ sym (ap length (next_zero a.rows.now a.from j (omega arith) (sym e ∙ tested_zero x f w.if-coefficient-ne0.false)).1))
    ]

pub returns-clause-value : goal.returns-clause-value
returns-clause-value c =
    let a = c.args in
    let n = a.from + a.columns - a.from in
    let e : c.loop-coefficient.coefficient-index ≡ a.columns = omega (arith, length-take n (drop a.from a.rows.now), length-drop a.from a.rows.now) in
    rw e at c.loop-coefficient.invariant

pub returns-clause-upper_bound : goal.returns-clause-upper_bound
returns-clause-upper_bound c =
    let a = c.args in
    omega (arith, c.loop-coefficient.invariant, used_most a.rows.now a.from c.loop-coefficient.coefficient-index, length-take (a.from + a.columns - a.from) (drop a.from a.rows.now))
