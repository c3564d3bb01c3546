-- A witness, leaf or split: once the buffer's rows are the premises, its verdict is the judgement's, and the buffer has places for every split.
use Rattle.std.proofs.Common.{ap, ◌∙◌, arith}
use Rattle.entailments.proofs.ImageSizes.{columns_most}
use Rattle.premises.specs.FilledPremises.{capacity, filled_all}
use Rattle.entailment_judge.specs.Answers.{verdict_from}
use Rattle.entailment_judge.specs.Buffers.{filled_few, filled_premises}
use Rattle.entailment_judge.proofs.Whole.{filled_tree}
use Rattle.entailment_judge.proofs.tree_verdict.Goals as goal

pub judge_tree-requires-clause-premises : goal.judge_tree-requires-clause-premises
judge_tree-requires-clause-premises c = filled_premises c.requires.entailment_form (filled_all _ _ _ c.fill_premises-n.ensures)

pub judge_tree-requires-clause-capacity : goal.judge_tree-requires-clause-capacity
judge_tree-requires-clause-capacity c =
    let form = c.requires.entailment_form in
    capacity (columns_most form.image_here) (filled_few form (filled_all _ _ _ c.fill_premises-n.ensures)) (omega arith)

pub returns : goal.returns
returns c =
    let a = c.args in
    let f = c.fill_premises-n in
    let l = c.judge_tree in
    c.verdict_of.ensures ∙ ap verdict_from (filled_tree a.words.now a.rows.now a.e a.w.now f.result f.new.premises (filled_all a.words.now a.rows.now a.e f.ensures) a.at l.result l.ensures.answer)
