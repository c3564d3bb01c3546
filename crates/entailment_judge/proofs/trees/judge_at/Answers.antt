-- By the place: the target disjunct that stands there, or a contradiction.
use Rattle.std.proofs.Common.{sym, ◌∙◌}
use Rattle.row_buffers.specs.HeldRows.{held_rows}
use Rattle.row_buffers.proofs.HeldRows.{length_held}
use Rattle.entailments.specs.Meaning.{meaning_of}
use Rattle.entailments.proofs.ImageSizes.{columns_most}
use Rattle.entailment_judge.specs.TrueTargets.{names_none, names_some}
use Rattle.entailment_judge.proofs.Whole.{leaf_zero, leaf_target}
use Rattle.entailment_judge.proofs.trees.judge_at.Goals as goal

pub judge_contradiction-requires-clause-columns_le_most_columns :
    goal.judge_contradiction-requires-clause-columns_le_most_columns
judge_contradiction-requires-clause-columns_le_most_columns c = columns_most c.requires.entailment_form.image_here

pub returns-in-Some : goal.returns-in-Some
unfolding meaning_of
returns-in-Some c =
    λ j h q.
    let a = c.args in
    let t = c.in-Some in
    let (o, is) = names_some a.rows.now a.e j t.p (sym t.is ∙ q) in
    leaf_target a.words.now a.rows.now a.e a.w.now a.n (held_rows a.e.columns a.n a.premises.now) (length_held a.e.columns a.n a.premises.now) a.next c.judge_rows.result t.p c.requires.entailment_form.targets_form o h is c.judge_rows.ensures

pub returns-in-None : goal.returns-in-None
unfolding meaning_of
returns-in-None c =
    λ j h q.
    let a = c.args in
    leaf_zero a.words.now a.rows.now a.e a.w.now a.n (held_rows a.e.columns a.n a.premises.now) (length_held a.e.columns a.n a.premises.now) a.next c.judge_contradiction.result (names_none a.rows.now a.e j (sym c.in-None.is ∙ q)) c.judge_contradiction.ensures
