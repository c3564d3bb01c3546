-- A leaf, by the place of the target disjunct that its first word names.
use Rattle.entailments.proofs.ImageSizes.{width_most}
use Rattle.entailment_judge.specs.TrueTargets.{target_here}
use Rattle.entailment_judge.proofs.trees.judge_leaf.Goals as goal

pub named-target-requires-clause-width_le_most_image :
    goal.named-target-requires-clause-width_le_most_image
named-target-requires-clause-width_le_most_image c =
    let f = c.requires.entailment_form in
    (width_most f.image_here, f.near_targets)

pub judge_at-requires-clause-target_here : goal.judge_at-requires-clause-target_here
judge_at-requires-clause-target_here c =
    let a = c.args in
    rw c.named-target.ensures (target_here a.rows.now a.e c.requires.entailment_form a.j c.requires.j_le_count.0)
