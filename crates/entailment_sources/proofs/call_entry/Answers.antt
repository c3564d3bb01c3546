-- `call_entry` meets its contract, by the number of the entailment.
use Rattle.std.proofs.Common.{sym, ap, ◌∙◌}
use Rattle.entailment_sources.specs.CaseLaws.{call_entry, call_later}
use Rattle.entailment_sources.proofs.call_entry.Goals as goal

pub returns-then-case-eq0 : goal.returns-then-case-eq0
unfolding call_entry
returns-then-case-eq0 c =
    let a = c.args in
    c.first_of-start.ensures.result_value ∙ ap (call_entry a.program.now a.row.back.0 a.row.callee.0) (sym c.if-case-eq0.true)

pub returns : goal.returns
returns c = let a = c.args in call_later a.program.now a.row.back.0 a.row.callee.0 a.case c.if-case-eq0.false
