-- `sides_count` meets its contract: the number of an op's cases doesn't depend on the expression, and is 2 at most.
use Rattle.std.proofs.Common.{◌≡◌, ℕ, ◌+◌, ap, ◌∙◌, arith}
use Rattle.std.proofs.Math.Path.{ap₂}
use Rattle.entailments.specs.OpCases.{opposite_op, case_count}
use Rattle.entailments.proofs.OpCases.{case_most}
use Rattle.vertex_entailments.specs.Sides.{counted}
use Rattle.vertex_entailments.proofs.sides.sides_count.Goals as goal
use Rattle.vertex_entailments.proofs.sides.sides_count.Goals.{After-cases_count-2}

counts : (c : After-cases_count-2) → (c.cases_count.result ≡ case_count c.args.op) × (c.cases_count-2.result ≡ case_count (opposite_op c.args.op))
counts c = (counted c.args.op c.cases_count.ensures, counted c.opposite-opposite.result c.cases_count-2.ensures ∙ ap case_count c.opposite-opposite.ensures)

pub overflow_add-result : goal.overflow_add-result
overflow_add-result c =
    let op = c.args.op in
    omega (arith, counts (goal.at.overflow_add-result c).After-cases_count-2, case_most op, case_most (opposite_op op))

pub returns-clause-value : goal.returns-clause-value
returns-clause-value c = let f = counts (goal.at.returns-clause-value c).After-cases_count-2 in ap₂ (λ (x y : ℕ). x + y) f.0 f.1

pub returns-clause-upper_bound : goal.returns-clause-upper_bound
returns-clause-upper_bound c =
    let op = c.args.op in
    omega (arith, counts (goal.at.returns-clause-upper_bound c).After-cases_count-2, case_most op, case_most (opposite_op op))
