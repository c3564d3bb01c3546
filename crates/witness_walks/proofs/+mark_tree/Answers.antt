-- A witness walked from its first word: a number is a leaf's; a number below 0 that isn't −1, or a split where none is left, is passed by nothing; and a
-- split's two witnesses are walked one after the other, behind its row, with one split less left.
use Rattle.std.proofs.Common.{◌≡◌, ◌≤◌, true, sym, arith}
use Rattle.words.specs.Words.{word, small}
use Rattle.witness_walks.specs.Marks.{targets_of}
use Rattle.witness_walks.specs.WalkSteps.{tree_end, tree_leaf, tree_bottom, tree_other, tree_split}
use Rattle.witness_walks.proofs.+mark_tree.Goals as goal

-- ---- no word is left

pub returns-then-w-at : goal.returns-then-w-at
returns-then-w-at t c =
    let a = c.args in
    tree_end a.w.now a.at a.e.columns a.n (targets_of a.rows.now a.e) a.depth a.named.now c.if-w-at.true c.requires.at_in_bounds

-- ---- a number

pub returns-in-Some : goal.returns-in-Some
returns-in-Some t c =
    let a = c.args in
    tree_leaf a.w.now a.at a.e.columns a.n (targets_of a.rows.now a.e) (omega arith) a.depth c.in-Some.j c.mark_leaf.result (sym c.in-Some.ensures) c.mark_leaf.ensures

-- ---- a number below 0, and no split

pub returns-then-depth-eq0 : goal.returns-then-depth-eq0
returns-then-depth-eq0 t c =
    let a = c.args in
    tree_bottom a.w.now a.at a.e.columns a.n (targets_of a.rows.now a.e) (omega arith) a.depth a.named.now (sym c.in-None.ensures) c.if-depth-eq0.true

pub returns-then-not-one : goal.returns-then-not-one
returns-then-not-one t c =
    let a = c.args in
    tree_other a.w.now a.at a.e.columns a.n (targets_of a.rows.now a.e) (omega arith) a.depth a.named.now (sym c.in-None.ensures) (sym c.if-not-one.ensures)

-- ---- a split

pub returns-else-not-one : goal.returns-else-not-one
returns-else-not-one t c =
    let a = c.args in
    let one : small 1 (word a.w.now a.at) ≡ true = sym c.if-not-one.ensures in
    let left : 1 ≤ a.depth = omega (arith, c.if-depth-eq0.false) in
    let q = rw c.row_words.ensures at c.past-begin.ensures.0 in
    tree_split a.w.now a.at a.e.columns a.n (targets_of a.rows.now a.e) (omega arith) a.depth c.past-begin.result c.mark_tree-second.result c.mark_tree.result (sym c.in-None.ensures) one left q c.mark_tree-second.ensures c.mark_tree.ensures
