-- A witness renumbered from its first word: a number is a leaf's; else it is a split's, whose two witnesses are renumbered one after the other, behind
-- its row, with one split less left.
use Rattle.std.proofs.Common.{arith, sym, ◌∙◌}
use Rattle.words.specs.Words.{word}
use Rattle.entailment_sources.specs.NewNumbers.{flagged}
use Rattle.witness_walks.specs.Marks.{targets_of}
use Rattle.witness_walks.specs.WalkSteps.{a_number}
use Rattle.kept_witnesses.specs.Renumbering.{leaf_stands, leaf_renumbered, split_here, second_stands, split_renumbered}
use Rattle.kept_witnesses.proofs.renumbering.+renumber_tree.Goals as goal

-- ---- a leaf

pub renumber_leaf-requires-clause-stands : goal.renumber_leaf-requires-clause-stands
renumber_leaf-requires-clause-stands t c =
    let a = c.args in
    leaf_stands a.depth a.e.columns a.n c.in-Some.j (targets_of a.rows.now a.e) a.words.now a.at (a_number (word a.words.now a.at) c.in-Some.j (sym c.natural_at-first.ensures ∙ c.in-Some.is)) c.requires.stands

pub returns-in-Some : goal.returns-in-Some
returns-in-Some t c =
    let a = c.args in
    leaf_renumbered a.depth a.e.columns a.n c.in-Some.j (targets_of a.rows.now a.e) a.words.now a.at (a_number (word a.words.now a.at) c.in-Some.j (sym c.natural_at-first.ensures ∙ c.in-Some.is)) (flagged a.flags.now) c.renumber_leaf.result c.renumber_leaf.new.words c.renumber_leaf.ensures

-- ---- a split

pub overflow_sub-left : goal.overflow_sub-left
overflow_sub-left t c =
    let a = c.args in
    let s = c.requires.stands in
    (split_here a.depth a.e.columns a.n (targets_of a.rows.now a.e) a.words.now a.at s.witness s.rest (sym c.natural_at-first.ensures ∙ c.in-None.is) s.begins).some_left

pub renumber_tree-second-requires : goal.renumber_tree-second-requires
renumber_tree-second-requires t c =
    let a = c.args in
    let s = c.requires.stands in
    let h = split_here a.depth a.e.columns a.n (targets_of a.rows.now a.e) a.words.now a.at s.witness s.rest (sym c.natural_at-first.ensures ∙ c.in-None.is) s.begins in
    let l = h.some_left in
    (omega arith, (c.requires.walkable, (omega arith, rw c.row_words.ensures (record { witness = h.one; rest = _; begins = h.first }))))

pub renumber_tree-requires : goal.renumber_tree-requires
renumber_tree-requires t c =
    let a = c.args in
    let s = c.requires.stands in
    let h = split_here a.depth a.e.columns a.n (targets_of a.rows.now a.e) a.words.now a.at s.witness s.rest (sym c.natural_at-first.ensures ∙ c.in-None.is) s.begins in
    let l = h.some_left in
    let one = c.renumber_tree-second in
    (omega arith, (c.requires.walkable, (omega arith, second_stands a.depth a.e.columns a.n (targets_of a.rows.now a.e) a.words.now a.at (flagged a.flags.now) one.new.words one.result (rw c.row_words.ensures at one.ensures) h)))

pub returns-in-None : goal.returns-in-None
returns-in-None t c =
    let a = c.args in
    let one = c.renumber_tree-second in
    let other = c.renumber_tree in
    split_renumbered a.depth a.e.columns a.n (targets_of a.rows.now a.e) a.words.now a.at (flagged a.flags.now) one.new.words one.result (rw c.row_words.ensures at one.ensures) other.new.words other.result other.ensures (sym c.natural_at-first.ensures ∙ c.in-None.is)
