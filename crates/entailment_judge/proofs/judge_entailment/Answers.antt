-- One entailment, by its witness's first word. A target without rows is shown by its name; else the verdict is that of the leaf which the word
-- begins, with its premises in place or filled in, or that of the witness that splits.
use Rattle.std.specs.Prelude.{Some}
use Rattle.std.proofs.Common.{◌≡◌, sym, ap, ◌∙◌}
use Rattle.entailment_judge.specs.WitnessReader.{word_in}
use Rattle.entailments.proofs.ImageSizes.{width_most}
use Rattle.entailment_judge.specs.Answers.{verdict_from, verdict_of}
use Rattle.entailment_judge.specs.TrueTargets.{is_true, TargetHere, target_here}
use Rattle.entailment_judge.proofs.Words.{Found, found}
use Rattle.entailment_judge.proofs.Whole.{true_fits, first_leaf}
use Rattle.entailment_judge.proofs.judge_entailment.Goals.{In-Some, After-named-target}
use Rattle.entailment_judge.proofs.judge_entailment.Goals as goal

-- the first word of a leaf
first : (c : In-Some) → let a = c.args in word_in a.w.now a.at 0 a.e.count ≡ Some c.in-Some.first
first c = sym c.word_in-x.ensures ∙ c.in-Some.is

-- what is known of it
known : (c : In-Some) → let a = c.args in Found a.w.now a.at 0 a.e.count c.in-Some.first.number c.in-Some.first.at
known c = found c.args.w.now c.args.at 0 c.args.e.count (first c)

-- the target's rows stand in the row words
here : (c : After-named-target) → let a = c.args in Found a.w.now a.at 0 a.e.count c.in-Some.first.number c.in-Some.first.at → TargetHere a.rows.now a.e c.named-target.result
here c k = let a = c.args in rw c.named-target.ensures (target_here a.rows.now a.e c.requires.entailment_form c.in-Some.first.number k.most)

pub named-target-requires-clause-width_le_most_image :
    goal.named-target-requires-clause-width_le_most_image
named-target-requires-clause-width_le_most_image c =
    let f = c.requires.entailment_form in
    (width_most f.image_here, f.near_targets)

pub named-target-requires-clause-j_le_count : goal.named-target-requires-clause-j_le_count
named-target-requires-clause-j_le_count c =
    ((known (goal.at.named-target-requires-clause-j_le_count c).In-Some).most, c.requires.entailment_form.few_targets)

pub returns-then-is_true : goal.returns-then-is_true
returns-then-is_true c =
    let a = c.args in
    ap verdict_from
    (true_fits a.words.now a.rows.now a.e a.w.now a.at c.requires.entailment_form.targets_form (first (goal.at.returns-then-is_true c).In-Some)
    (ap (is_true a.rows.now) (sym c.named-target.ensures) ∙ (sym c.is_true.ensures ∙ c.if-is_true.true)))

pub leaf_verdict-requires-clause-target_here : goal.leaf_verdict-requires-clause-target_here
leaf_verdict-requires-clause-target_here c =
    let at = goal.at.leaf_verdict-requires-clause-target_here c in
    here at.After-named-target (known at.In-Some)

pub leaf_verdict-requires-clause-next_in_bounds : goal.leaf_verdict-requires-clause-next_in_bounds
leaf_verdict-requires-clause-next_in_bounds c = (known (goal.at.leaf_verdict-requires-clause-next_in_bounds c).In-Some).inside

pub returns-then-rows_placed : goal.returns-then-rows_placed
returns-then-rows_placed c =
    let a = c.args in
    let i = (goal.at.returns-then-rows_placed c).In-Some in
    c.leaf_verdict.ensures c.in-Some.first.number (known i).most c.named-target.ensures ∙ ap (verdict_of a.w.now) (sym (first_leaf a.words.now a.rows.now a.e a.w.now a.at (first i)))

pub leaf_verdict-requires-in-Some-clause-target_here :
    goal.leaf_verdict-requires-in-Some-clause-target_here
leaf_verdict-requires-in-Some-clause-target_here c =
    let at = goal.at.leaf_verdict-requires-in-Some-clause-target_here c in
    here at.After-named-target (known at.In-Some)

pub leaf_verdict-requires-in-Some-clause-next_in_bounds :
    goal.leaf_verdict-requires-in-Some-clause-next_in_bounds
leaf_verdict-requires-in-Some-clause-next_in_bounds c = (known (goal.at.leaf_verdict-requires-in-Some-clause-next_in_bounds c).In-Some).inside

pub returns-else-rows_placed : goal.returns-else-rows_placed
returns-else-rows_placed c =
    let a = c.args in
    let i = (goal.at.returns-else-rows_placed c).In-Some in
    c.leaf_verdict-in-Some.ensures c.in-Some.first.number (known i).most c.named-target.ensures ∙ ap (verdict_of a.w.now) (sym (first_leaf a.words.now a.rows.now a.e a.w.now a.at (first i)))
