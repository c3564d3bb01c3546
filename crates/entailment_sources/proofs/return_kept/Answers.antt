-- `return_kept` meets its contract, by the number of the entailment.
use Rattle.std.proofs.Common.{ℕ, ◌+◌, ◌-◌, sym, ap, ◌∙◌}
use Rattle.entailment_sources.specs.KeptBytes.{byte_is_one}
use Rattle.entailment_sources.specs.WayLaws.{return_kept, return_later}
use Rattle.entailment_sources.proofs.return_kept.Goals as goal

pub returns-then-case-eq0 : goal.returns-then-case-eq0
unfolding return_kept
returns-then-case-eq0 c = let a = c.args in ap (return_kept a.kept.now (a.sizes.statements + a.sizes.procedures + a.callee.0)) (sym c.if-case-eq0.true)

pub returns : goal.returns
returns c =
    let a = c.args in
    c.is_kept.ensures ∙ ap (λ (summary : ℕ). byte_is_one a.kept.now summary (a.case - 1)) c.summary_entry-summary.ensures ∙ return_later a.kept.now (a.sizes.statements + a.sizes.procedures + a.callee.0) a.case c.if-case-eq0.false
