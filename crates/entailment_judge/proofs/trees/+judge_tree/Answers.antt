-- A witness followed from its first word: a leaf is judged as one; a split where none is left, or whose row isn't read, is missing; and else its
-- row and the row's other side are put behind the premises, one after the other, and each of its witnesses is judged with one split less left.
use Rattle.std.proofs.Common.{◌≡◌, true, false, ℕ, ◌+◌, ◌-◌, ◌<◌, length, drop, refl, sym, ◌∙◌, arith}
use Rattle.std.specs.Prelude.{Some}
use Rattle.words.specs.RowWords.{row_of}
use Rattle.row_buffers.specs.HeldRows.{held_rows}
use Rattle.row_buffers.specs.EntryLimits.{Capacity}
use Rattle.entailments.specs.Meaning.{meaning_of}
use Rattle.entailment_judge.specs.WitnessReader.{word_in}
use Rattle.entailment_judge.specs.Sides.{splits_at, side_of}
use Rattle.entailment_judge.specs.Answers.{leaf_of}
use Rattle.entailment_judge.specs.Buffers.{held}
use Rattle.entailment_judge.specs.Judging.{judged_tree}
use Rattle.entailment_judge.proofs.Words.{found}
use Rattle.entailment_judge.proofs.Whole.{tree_leaf, tree_out, tree_bottom}
use Rattle.entailment_judge.proofs.Splits.{SplitRow, More, split_row, one_more, one_less_left, more_kept, side_pushed, side_premises, split_inside, split_no_row, first_missing, second_inside, second_missing, both_whole}
use Rattle.entailment_judge.proofs.trees.+judge_tree.Goals.{In-Some, Else-not-splits, In_ok-first, After-push_side, After-judge_tree, In_ok-under, After-push_side-2, After-judge_tree-2}
use Rattle.entailment_judge.proofs.trees.+judge_tree.Goals as goal

-- ---- a leaf

first_word : (t : ℕ) (c : In-Some t) → let a = c.args in word_in a.w.now a.at 0 a.e.count ≡ Some c.in-Some.word
first_word t c = sym c.word_in-x.ensures ∙ c.in-Some.is

pub judge_leaf-requires-clause-j_le_count : goal.judge_leaf-requires-clause-j_le_count
judge_leaf-requires-clause-j_le_count t c =
    let a = c.args in
    let k = found a.w.now a.at 0 a.e.count (first_word t (goal.at.judge_leaf-requires-clause-j_le_count t c).In-Some) in
    (k.most, k.inside)

pub returns-in-Some-clause-answer : goal.returns-in-Some-clause-answer
returns-in-Some-clause-answer t c =
    let a = c.args in
    tree_leaf a.words.now a.rows.now a.e a.w.now a.n a.premises.now a.at a.depth c.judge_leaf.result (first_word t (goal.at.returns-in-Some-clause-answer t c).In-Some) c.judge_leaf.ensures

-- ---- neither a leaf nor a split, or no split left

pub returns-then-not-splits-clause-answer : goal.returns-then-not-splits-clause-answer
returns-then-not-splits-clause-answer t c =
    let a = c.args in
    tree_out a.words.now a.rows.now a.e a.w.now a.n a.premises.now a.at a.depth (sym c.word_in-x.ensures ∙ c.in_default.is) (sym c.splits.ensures ∙ c.if-not-splits.true)

pub returns-then-depth-eq0-clause-answer : goal.returns-then-depth-eq0-clause-answer
returns-then-depth-eq0-clause-answer t c =
    let a = c.args in
    tree_bottom a.words.now a.rows.now a.e a.w.now a.n a.premises.now a.at a.depth (sym c.word_in-x.ensures ∙ c.in_default.is) c.if-depth-eq0.true

-- ---- a split: it has a word, and one split is left

begins : (t : ℕ) (c : Else-not-splits t) → splits_at (drop c.args.at c.args.w.now) ≡ true
begins t c = sym c.splits.ensures ∙ c.if-not-splits.false

inside : (t : ℕ) (c : Else-not-splits t) → c.args.at < length c.args.w.now
inside t c = split_inside c.args.w.now c.args.at (begins t c)

pub row_in-requires : goal.row_in-requires
row_in-requires t c = omega (arith, inside t (goal.at.row_in-requires t c).Else-not-splits)

pub returns-in_err-first-clause-answer : goal.returns-in_err-first-clause-answer
unfolding meaning_of
returns-in_err-first-clause-answer t c =
    let a = c.args in
    let b = begins t (goal.at.returns-in_err-first-clause-answer t c).Else-not-splits in
    rw c.from_residual.ensures (split_no_row a.w.now a.at b (meaning_of a.words.now a.rows.now a.e) a.n a.premises.now a.depth (omega arith) (sym c.row_in.ensures ∙ c.in_err-first.was))

-- ---- its row

row_read : (t : ℕ) (c : In_ok-first t) → c.args.at < length c.args.w.now → SplitRow c.args.e.columns c.args.w.now (c.args.at + 1) c.in_ok-first.first
row_read t c h = split_row c.args.e.columns c.args.w.now (c.args.at + 1) c.in_ok-first.first (omega arith) (sym c.row_in.ensures ∙ c.in_ok-first.was)

enough : (t : ℕ) (c : In_ok-first t) → Capacity c.args.e.columns (c.args.n + 1) (length c.args.premises.now)
enough t c = let a = c.args in one_more a.e.columns a.n a.depth (length a.premises.now) (omega arith) c.requires.capacity

pub push_side-requires-clause-columns_in_bounds : goal.push_side-requires-clause-columns_in_bounds
push_side-requires-clause-columns_in_bounds t c =
    let at = goal.at.push_side-requires-clause-columns_in_bounds t c in
    let r = row_read t at.In_ok-first (inside t at.Else-not-splits) in
    (r.inside, r.shaped)

-- ---- its first witness: the premises are those that came, and the row behind them

module _ (t : ℕ) (c : After-push_side t) (r : SplitRow c.args.e.columns c.args.w.now (c.args.at + 1) c.in_ok-first.first) (k : Capacity c.args.e.columns (c.args.n + 1) (length c.args.premises.now)) where
  first_more : let a = c.args in More a.e.columns a.n a.premises.now (side_of false (row_of a.e.columns (drop (a.at + 1) a.w.now))) c.push_side.new.premises
  first_more =
      let a = c.args in
      side_pushed a.e.columns a.n a.premises.now false (row_of a.e.columns (drop (a.at + 1) a.w.now)) r.shaped a.premises.now c.push_side.new.premises refl k c.push_side.ensures

pub judge_tree-requires : goal.judge_tree-requires
judge_tree-requires t c =
    let at = goal.at.judge_tree-requires t c in
    let a = c.args in
    let r = row_read t at.In_ok-first (inside t at.Else-not-splits) in
    let k = enough t at.In_ok-first in
    let b = c.push_side.new.premises in
    let long : length b ≡ length a.premises.now = omega arith in
    let p = side_premises a.e.columns a.n a.premises.now false (row_of a.e.columns (drop (a.at + 1) a.w.now)) r.shaped b c.requires.premises (rw long k) (first_more t at.After-push_side r k) in
    (omega arith, (c.requires.entailment_form, (p, (rw long (one_less_left a.e.columns a.n a.depth (length a.premises.now) (omega arith) c.requires.capacity), r.ends))))

left_kept : (t : ℕ) (c : After-judge_tree t) → let a = c.args in More a.e.columns a.n a.premises.now (side_of false (row_of a.e.columns (drop (a.at + 1) a.w.now))) c.push_side.new.premises
    → held_rows a.e.columns a.n c.judge_tree.new.premises ≡ held_rows a.e.columns a.n a.premises.now
left_kept t c m =
    let a = c.args in
    more_kept a.e.columns a.n a.premises.now (side_of false (row_of a.e.columns (drop (a.at + 1) a.w.now))) c.judge_tree.new.premises (c.judge_tree.ensures.kept ∙ m)

pub returns-in_err-under-clause-answer : goal.returns-in_err-under-clause-answer
unfolding meaning_of
returns-in_err-under-clause-answer t c =
    let at = goal.at.returns-in_err-under-clause-answer t c in
    let a = c.args in
    let r = row_read t at.In_ok-first (inside t at.Else-not-splits) in
    rw c.from_residual-in_err-under.ensures
    (first_missing a.w.now a.at (begins t at.Else-not-splits) (meaning_of a.words.now a.rows.now a.e) a.n a.premises.now a.depth (omega arith) r c.push_side.new.premises (first_more t at.After-push_side r (enough t at.In_ok-first)) (sym c.in_err-under.was ∙ c.judge_tree.ensures.answer))

pub returns-in_err-under-clause-kept : goal.returns-in_err-under-clause-kept
returns-in_err-under-clause-kept t c =
    let at = goal.at.returns-in_err-under-clause-kept t c in
    left_kept t at.After-judge_tree (first_more t at.After-push_side (row_read t at.In_ok-first (inside t at.Else-not-splits)) (enough t at.In_ok-first))

-- ---- its second witness: the premises are those that came, and the row's other side behind them

first_whole : (t : ℕ) (c : In_ok-under t) → let a = c.args in
    Some c.in_ok-under.under ≡ leaf_of a.w.now (judged_tree (a.depth - 1) (held (meaning_of a.words.now a.rows.now a.e) (a.n + 1) c.push_side.new.premises) (drop c.in_ok-first.first a.w.now))
first_whole t c = sym c.in_ok-under.was ∙ c.judge_tree.ensures.answer

pub push_side-requires-2-clause-columns_in_bounds :
    goal.push_side-requires-2-clause-columns_in_bounds
push_side-requires-2-clause-columns_in_bounds t c =
    let at = goal.at.push_side-requires-2-clause-columns_in_bounds t c in
    let r = row_read t at.In_ok-first (inside t at.Else-not-splits) in
    (r.inside, r.shaped)

second_more : (t : ℕ) (c : After-push_side-2 t) → let a = c.args in let row = row_of a.e.columns (drop (a.at + 1) a.w.now) in
    SplitRow a.e.columns a.w.now (a.at + 1) c.in_ok-first.first → Capacity a.e.columns (a.n + 1) (length a.premises.now) → held_rows a.e.columns a.n c.judge_tree.new.premises ≡ held_rows a.e.columns a.n a.premises.now
    → More a.e.columns a.n a.premises.now (side_of true row) c.push_side-2.new.premises
second_more t c r k m =
    let a = c.args in
    let l = c.judge_tree.new.premises in
    let long : length l ≡ length a.premises.now = omega arith in
    side_pushed a.e.columns a.n a.premises.now true (row_of a.e.columns (drop (a.at + 1) a.w.now)) r.shaped l c.push_side-2.new.premises m (rw long k) c.push_side-2.ensures

pub judge_tree-requires-2 : goal.judge_tree-requires-2
unfolding meaning_of
judge_tree-requires-2 t c =
    let at = goal.at.judge_tree-requires-2 t c in
    let a = c.args in
    let r = row_read t at.In_ok-first (inside t at.Else-not-splits) in
    let k = enough t at.In_ok-first in
    let f = first_more t at.After-push_side r k in
    let b = c.push_side-2.new.premises in
    let long : length b ≡ length a.premises.now = omega arith in
    let m = second_more t at.After-push_side-2 r k (left_kept t at.After-judge_tree f) in
    let p = side_premises a.e.columns a.n a.premises.now true (row_of a.e.columns (drop (a.at + 1) a.w.now)) r.shaped b c.requires.premises (rw long k) m in
    let s = second_inside a.w.now a.at (begins t at.Else-not-splits) (meaning_of a.words.now a.rows.now a.e) a.n a.premises.now a.depth (omega arith) r c.push_side.new.premises f c.in_ok-under.under (first_whole t at.In_ok-under) in
    (omega arith, (c.requires.entailment_form, (p, (rw long (one_less_left a.e.columns a.n a.depth (length a.premises.now) (omega arith) c.requires.capacity), s))))

-- ---- both: the premises that came still stand

last_kept : (t : ℕ) (c : After-judge_tree-2 t) → let a = c.args in More a.e.columns a.n a.premises.now (side_of true (row_of a.e.columns (drop (a.at + 1) a.w.now))) c.push_side-2.new.premises
    → held_rows a.e.columns a.n c.judge_tree-2.new.premises ≡ held_rows a.e.columns a.n a.premises.now
last_kept t c m =
    let a = c.args in
    more_kept a.e.columns a.n a.premises.now (side_of true (row_of a.e.columns (drop (a.at + 1) a.w.now))) c.judge_tree-2.new.premises (c.judge_tree-2.ensures.kept ∙ m)

pub returns-in_err-over-clause-answer : goal.returns-in_err-over-clause-answer
unfolding meaning_of
returns-in_err-over-clause-answer t c =
    let at = goal.at.returns-in_err-over-clause-answer t c in
    let a = c.args in
    let r = row_read t at.In_ok-first (inside t at.Else-not-splits) in
    let k = enough t at.In_ok-first in
    let f = first_more t at.After-push_side r k in
    let m = second_more t at.After-push_side-2 r k (left_kept t at.After-judge_tree f) in
    rw c.from_residual-in_err-over.ensures
    (second_missing a.w.now a.at (begins t at.Else-not-splits) (meaning_of a.words.now a.rows.now a.e) a.n a.premises.now a.depth (omega arith) r c.push_side.new.premises f c.in_ok-under.under (first_whole t at.In_ok-under) c.push_side-2.new.premises m (sym c.in_err-over.was ∙ c.judge_tree-2.ensures.answer))

pub returns-in_err-over-clause-kept : goal.returns-in_err-over-clause-kept
returns-in_err-over-clause-kept t c =
    let at = goal.at.returns-in_err-over-clause-kept t c in
    let r = row_read t at.In_ok-first (inside t at.Else-not-splits) in
    let k = enough t at.In_ok-first in
    let f = first_more t at.After-push_side r k in
    last_kept t at.After-judge_tree-2 (second_more t at.After-push_side-2 r k (left_kept t at.After-judge_tree f))

pub returns-clause-answer : goal.returns-clause-answer
unfolding meaning_of
returns-clause-answer t c =
    let at = goal.at.returns-clause-answer t c in
    let a = c.args in
    let r = row_read t at.In_ok-first (inside t at.Else-not-splits) in
    let k = enough t at.In_ok-first in
    let f = first_more t at.After-push_side r k in
    let m = second_more t at.After-push_side-2 r k (left_kept t at.After-judge_tree f) in
    both_whole a.w.now a.at (begins t at.Else-not-splits) (meaning_of a.words.now a.rows.now a.e) a.n a.premises.now a.depth (omega arith) r c.push_side.new.premises f c.in_ok-under.under (first_whole t at.In_ok-under) c.push_side-2.new.premises m c.in_ok-over.over (sym c.in_ok-over.was ∙ c.judge_tree-2.ensures.answer)

pub returns-clause-kept : goal.returns-clause-kept
returns-clause-kept t c =
    let at = goal.at.returns-clause-kept t c in
    let r = row_read t at.In_ok-first (inside t at.Else-not-splits) in
    let k = enough t at.In_ok-first in
    let f = first_more t at.After-push_side r k in
    last_kept t at.After-judge_tree-2 (second_more t at.After-push_side-2 r k (left_kept t at.After-judge_tree f))
