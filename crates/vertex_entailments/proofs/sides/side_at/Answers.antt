-- `side_at` meets its contract: the cases below the op's number are the op's, and those behind them the opposite op's.
use Rattle.std.proofs.Common.{ℕ, ◌-◌, sym, ◌∙◌, arith}
use Rattle.std.proofs.Math.Path.{ap₂}
use Rattle.program_readers.specs.declared.kinds.Op.{Op}
use Rattle.vertex_entailments.specs.Sides.{true_side_lem, false_side_lem, counted}
use Rattle.vertex_entailments.proofs.sides.side_at.Goals as goal

pub returns-then-case-yeas : goal.returns-then-case-yeas
returns-then-case-yeas c =
    let a = c.args in
    let yeas = counted a.op c.cases_count-yeas.ensures in
    sym (true_side_lem a.yea a.nay a.op a.case (omega (arith, yeas, c.if-case-yeas.true)))

pub returns : goal.returns
returns c =
    let a = c.args in
    let yeas = counted a.op c.cases_count-yeas.ensures in
    ap₂ (λ (x : Op) (y : ℕ). record { op = x; case = a.case - y; next = a.nay }) c.opposite-opposite.ensures yeas
    ∙ sym (false_side_lem a.yea a.nay a.op a.case (omega (arith, yeas, c.if-case-yeas.false)))
