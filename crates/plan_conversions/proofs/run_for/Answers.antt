-- What is saved is what was made, four bytes for each word that is written, and the result's buffer holds it.
use Rattle.std.proofs.Common.{ℕ, ◌≤◌, ◌*◌, length, length-take-le, sym, arith}
use Rattle.std.proofs.Math.ListN.{length-replicate}
use Rattle.plan_conversions.proofs.PlanConversions.{new_file}
use Rattle.plan_conversions.proofs.run_for.Goals as goal

pub overflow_mul-end : goal.overflow_mul-end
overflow_mul-end g c =
    let p = c.plan_conversion-writing in
    let placed : c.in-Ok.count * 4 ≤ length p.new.res = (new_file p.ensures c.in-Ok.count c.in-Ok.is).3 in
    record { fits = omega (arith, placed, p.auto.res, length-replicate {A = ℕ} 65536 0) }

pub slice_bounds-result-end : goal.slice_bounds-result-end
slice_bounds-result-end g c = (new_file c.plan_conversion-writing.ensures c.in-Ok.count c.in-Ok.is).3

pub slice_bounds-save_converted-end : goal.slice_bounds-save_converted-end
slice_bounds-save_converted-end g c =
    sym (length-take-le (c.in-Ok.count * 4) c.plan_conversion-writing.new.res (new_file c.plan_conversion-writing.ensures c.in-Ok.count c.in-Ok.is).3)
