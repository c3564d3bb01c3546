-- Only after a trace are values printed, and then there is a place for each in the buffer, since the buffer sufficed.
use Rattle.std.proofs.Common.{◌≤◌, List, ℕ, ◌++◌, length, drop, refl, sym, ap, ◌∙◌, arith, length-take-le}
use Rattle.plan_files.specs.PlanLines.{count_placed, line_told}
use Rattle.plan_files.proofs.check_line.Goals as goal
use Rattle.plan_files.proofs.check_line.Goals.{After-check_counted-checked}

few : (c : After-check_counted-checked) → c.check_counted-checked.result.count ≤ 16
few c = let r = c.check_counted-checked in count_placed refl r.result.answer r.ensures.checked r.ensures.count_value

placed : (c : After-check_counted-checked) → c.check_counted-checked.result.count ≤ length c.check_counted-checked.new.buffer
placed c = omega (arith, few c, c.check_counted-checked.auto.buffer)

pub slice_bounds-values-end : goal.slice_bounds-values-end
slice_bounds-values-end c = placed (goal.at.slice_bounds-values-end c).After-check_counted-checked

pub slice_bounds-answer_line-end : goal.slice_bounds-answer_line-end
slice_bounds-answer_line-end c =
    let r = c.check_counted-checked in
    sym (length-take-le r.result.count r.new.buffer (placed (goal.at.slice_bounds-answer_line-end c).After-check_counted-checked))

pub returns : goal.returns
returns c =
    let a = c.answer_line in
    let r = c.check_counted-checked in
    let e = line_told refl r.result.answer r.ensures.checked r.ensures.count_value in
    record { value = a.ensures.value ∙ ap length e; line_after = a.ensures.line_after ∙ ap (λ (l : List ℕ). l ++ drop a.result c.args.line.now) e }
