-- A leaf, by its target's place: the disjunct that stands there, or a contradiction. Both parts together are the premises, so the verdict is the judgement's.
use Rattle.std.proofs.Common.{refl, sym, ap, ◌∙◌}
use Rattle.entailments.proofs.ImageSizes.{columns_most}
use Rattle.entailment_judge.specs.Answers.{verdict_from}
use Rattle.entailment_judge.specs.Parted.{parted, parted_alike}
use Rattle.entailment_judge.specs.TrueTargets.{names_none, names_some}
use Rattle.entailment_judge.proofs.PartSums.{length_parted}
use Rattle.entailment_judge.proofs.Whole.{leaf_zero, leaf_target, premised_leaf}
use Rattle.entailment_judge.proofs.in_place.leaf_verdict.Goals as goal

pub judge_rows-requires-clause-parted : goal.judge_rows-requires-clause-parted
judge_rows-requires-clause-parted c = (parted c.requires.entailment_form c.requires.disjunct_placed c.fill_premises-added.ensures, refl)

pub judge_contradiction-requires-clause-columns_le_most_columns :
    goal.judge_contradiction-requires-clause-columns_le_most_columns
judge_contradiction-requires-clause-columns_le_most_columns c = columns_most c.requires.entailment_form.image_here

pub judge_contradiction-requires-clause-parted : goal.judge_contradiction-requires-clause-parted
judge_contradiction-requires-clause-parted c = parted c.requires.entailment_form c.requires.disjunct_placed c.fill_premises-added.ensures

pub returns-in-Some : goal.returns-in-Some
returns-in-Some c =
    λ j h q.
    let a = c.args in
    let p = c.requires in
    let f = c.fill_premises-added.ensures in
    let t = c.in-Some in
    let l = c.judge_rows in
    let (o, is) = names_some a.rows.now a.e j t.p (sym t.is ∙ q) in
    c.verdict_of.ensures
    ∙ ap verdict_from
    (premised_leaf a.words.now a.rows.now a.e a.w.now (parted_alike p.entailment_form p.disjunct_placed f) j a.next l.result
    (leaf_target a.words.now a.rows.now a.e a.w.now _ _ (length_parted (parted p.entailment_form p.disjunct_placed f)) a.next l.result t.p p.entailment_form.targets_form o h is l.ensures))

pub returns-in-None : goal.returns-in-None
returns-in-None c =
    λ j h q.
    let a = c.args in
    let p = c.requires in
    let f = c.fill_premises-added.ensures in
    let l = c.judge_contradiction in
    c.verdict_of-in-None.ensures
    ∙ ap verdict_from
    (premised_leaf a.words.now a.rows.now a.e a.w.now (parted_alike p.entailment_form p.disjunct_placed f) j a.next l.result
    (leaf_zero a.words.now a.rows.now a.e a.w.now _ _ (length_parted (parted p.entailment_form p.disjunct_placed f)) a.next l.result (names_none a.rows.now a.e j (sym c.in-None.is ∙ q)) l.ensures))
