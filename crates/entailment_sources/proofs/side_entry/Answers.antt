-- `side_entry` meets its contract: the cases below the op's number lead to the one vertex, and those behind them to the other.
use Rattle.std.proofs.Common.{sym, ap, arith}
use Rattle.vertex_entailments.specs.declared.sides.Side.{Side}
use Rattle.vertex_entailments.specs.Sides.{true_side_lem, false_side_lem, counted}
use Rattle.entailment_sources.proofs.side_entry.Goals as goal

pub returns-then-case-cases_count : goal.returns-then-case-cases_count
returns-then-case-cases_count c =
    let a = c.args in
    let yeas = counted a.op c.cases_count.ensures in
    ap (λ (s : Side). s.next.0) (sym (true_side_lem a.yea a.nay a.op a.case (omega (arith, yeas, c.if-case-cases_count.true))))

pub returns : goal.returns
returns c =
    let a = c.args in
    let yeas = counted a.op c.cases_count.ensures in
    ap (λ (s : Side). s.next.0) (sym (false_side_lem a.yea a.nay a.op a.case (omega (arith, yeas, c.if-case-cases_count.false))))
