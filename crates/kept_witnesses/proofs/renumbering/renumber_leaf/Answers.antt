-- A contradiction has as many multipliers as there are premises, and stays; a target's first word becomes the new number, and behind it stand as many
-- shares as the disjunct that it names has rows.
use Rattle.std.proofs.Common.{◌≡◌, ◌+◌, ◌*◌, ◌-◌, ◌≤◌, ◌<◌, ℕ, pos, length, arith, sym, ap, ◌∙◌, w32, to_z}
use Prim.Native.Nat.{suc}
use native.Mathlib.Nat.{mul-le-mul_right}
use mir.Facts.{to_z_pos}
use Rattle.words.specs.Limits.{most_rows}
use Rattle.words.specs.Words.{word}
use Rattle.words.proofs.Ranges.{number_most}
use Rattle.certificate_readers.specs.Disjuncts.{first_formed}
use Rattle.entailment_sources.specs.NewNumbers.{flagged}
use Rattle.witness_walks.specs.Marks.{targets_of}
use Rattle.witness_walks.specs.WalkSteps.{targets_count, target_here}
use Rattle.kept_witnesses.specs.Renumbering.{stands_inside, leaf_inside, contradiction_stays, target_renumbered}
use Rattle.kept_witnesses.proofs.renumbering.renumber_leaf.Goals as goal
use Rattle.kept_witnesses.proofs.renumbering.renumber_leaf.Goals.{Start, Else-j-eq0, After-row_count-m}

-- the witness is inside the words
there : (c : Start) → c.args.at < length c.args.words.now
there c = let a = c.args in stands_inside 0 a.e.columns a.n (targets_of a.rows.now a.e) a.words.now a.at c.requires.stands

pub overflow_add-next : goal.overflow_add-next
overflow_add-next c = omega (arith, there (goal.at.overflow_add-next c).Start)

pub overflow_add-result : goal.overflow_add-result
overflow_add-result c = omega (arith, there (goal.at.overflow_add-result c).Start)

pub returns-then-j-eq0 : goal.returns-then-j-eq0
returns-then-j-eq0 c =
    let a = c.args in
    contradiction_stays 0 a.e.columns a.n (targets_of a.rows.now a.e) a.words.now a.at (flagged a.flags.now) a.j c.if-j-eq0.true c.requires.at_value

-- the target is one of those of the entailment
present : (c : Else-j-eq0) → c.args.j - 1 < c.args.e.count
present c =
    let a = c.args in
    let s = c.requires.stands in
    let e : suc (a.j - 1) ≡ a.j = omega arith in
    omega (arith, targets_count a.rows.now a.e, leaf_inside 0 a.e.columns a.n (targets_of a.rows.now a.e) a.words.now a.at (a.j - 1) s.witness s.rest (c.requires.at_value ∙ ap pos (sym e)) s.begins)

pub new_number-number-requires : goal.new_number-number-requires
new_number-number-requires c = omega (arith, present (goal.at.new_number-number-requires c).Else-j-eq0, c.requires.walkable.1)

pub overflow_cast-words : goal.overflow_cast-words
overflow_cast-words c = omega (arith, present (goal.at.overflow_cast-words c).Else-j-eq0, c.requires.walkable.0.few_targets)

pub disjunct_place-p-requires-clause-j_le_most_disjuncts : goal.disjunct_place-p-requires-clause-j_le_most_disjuncts
disjunct_place-p-requires-clause-j_le_most_disjuncts c = omega (arith, present (goal.at.disjunct_place-p-requires-clause-j_le_most_disjuncts c).Else-j-eq0, c.requires.walkable.0.few_targets)

pub disjunct_place-p-requires-clause-disjuncts_form : goal.disjunct_place-p-requires-clause-disjuncts_form
disjunct_place-p-requires-clause-disjuncts_form c =
    let a = c.args in
    let h = present (goal.at.disjunct_place-p-requires-clause-disjuncts_form c).Else-j-eq0 in
    first_formed a.e.form a.rows.now a.e.width (a.j - 1) (omega arith) c.requires.walkable.0.targets_form

-- how many words follow
rows_few : (c : After-row_count-m) → c.row_count-m.result * (1 + c.args.n) ≤ most_rows * (1 + c.args.n)
rows_few c = mul-le-mul_right (1 + c.args.n) (rw c.row_count-m.ensures (number_most most_rows (word c.args.rows.now c.disjunct_place-p.result)))

pub overflow_mul-result : goal.overflow_mul-result
overflow_mul-result c = omega (arith, rows_few (goal.at.overflow_mul-result c).After-row_count-m)

pub overflow_add-result-3 : goal.overflow_add-result-3
overflow_add-result-3 c =
    let g = goal.at.overflow_add-result-3 c in
    omega (arith, rows_few g.After-row_count-m, there g.Start)

pub returns : goal.returns
returns c =
    let a = c.args in
    let h = present (goal.at.returns c).Else-j-eq0 in
    let e : suc (a.j - 1) ≡ a.j = omega arith in
    let n : ℕ = c.new_number-number.result in
    let x : to_z w32 (n + 1) ≡ pos (n + 1) = to_z_pos w32 (omega (arith, h, c.requires.walkable.0.few_targets)) in
    let (t, g, m) = target_here a.rows.now a.e (a.j - 1) c.requires.walkable.0 h in
    let count : c.row_count-m.result ≡ length t = rw c.disjunct_place-p.ensures at c.row_count-m.ensures ∙ sym m in
    rw (x, count, c.new_number-number.ensures.value)
    (target_renumbered 0 a.e.columns a.n (targets_of a.rows.now a.e) a.words.now a.at (flagged a.flags.now) (a.j - 1) t (c.requires.at_value ∙ ap pos (sym e)) g)
