-- A leaf: once the buffer's rows are the premises, its verdict is the judgement's.
use Rattle.std.proofs.Common.{ap, ◌∙◌}
use Rattle.premises.specs.FilledPremises.{filled_all}
use Rattle.entailment_judge.specs.Answers.{verdict_from}
use Rattle.entailment_judge.specs.Buffers.{filled_premises}
use Rattle.entailment_judge.proofs.Whole.{filled_leaf}
use Rattle.entailment_judge.proofs.leaf_verdict.Goals as goal

pub judge_at-requires-clause-premises : goal.judge_at-requires-clause-premises
judge_at-requires-clause-premises c = filled_premises c.requires.entailment_form (filled_all _ _ _ c.fill_premises-n.ensures)

pub returns : goal.returns
returns c =
    λ j h q.
    let a = c.args in
    let f = c.fill_premises-n in
    let l = c.judge_at in
    c.verdict_of.ensures ∙ ap verdict_from (filled_leaf a.words.now a.rows.now a.e a.w.now f.result f.new.premises (filled_all a.words.now a.rows.now a.e f.ensures) j a.next l.result (l.ensures j h q))
