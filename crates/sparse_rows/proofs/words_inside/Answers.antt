-- The rows that are left begin where those before them end, and are all there.
use Rattle.std.proofs.Common.{◌≡◌, ℕ, ◌+◌, ◌*◌, ◌-◌, ◌≤◌, List, ℤ, length, drop, arith}
use Rattle.words.specs.declared.StoredForm.TheVariants.{Sparse}
use Rattle.words.specs.SparseRows.{used_of, sparse_size, sparse_words}
use Rattle.words.specs.SparseForm.{SparseRowForm, SparseRowsForm}
use Rattle.words.proofs.StoredRows.{take_none, take_fewer}
use Rattle.sparse_rows.specs.SparseLoops.{take_one, take_later, form_later}
use Rattle.sparse_rows.proofs.words_inside.Goals as goal
use Rattle.sparse_rows.proofs.words_inside.Goals.{In-loop-left, After-alike-like}

-- rows that are all there, and have their form
record Left (columns : ℕ) (words : List ℤ) (from left : ℕ) : Type 0 where
  inside : from + sparse_words columns left (drop from words) ≤ length words
  formed : SparseRowsForm columns left (drop from words)

module _ (columns : ℕ) (words : List ℤ) where
  -- those behind others of them
  behind : (at count from left : ℕ) → Left columns words at count → left ≤ count → from ≡ at + sparse_words columns (count - left) (drop at words) → Left columns words from left
  behind at count from left all h e =
      let both : (count - left) + left ≡ count = omega arith in
      rw e
      (record { inside = omega (arith, rw both at (take_later columns (count - left) left at words), all.inside); formed = form_later columns (count - left) left at words (rw both all.formed) })

  -- the first of them
  first_inside : (from left : ℕ) → Left columns words from left → 1 ≤ left → from + sparse_size (used_of columns (drop from words)) ≤ length words
  first_inside from left r h = omega (arith, take_one columns from words, take_fewer Sparse columns 1 left (drop from words) h, r.inside)

  first_formed : (from left : ℕ) → Left columns words from left → 1 ≤ left → SparseRowForm columns (drop from words)
  unfolding SparseRowsForm sparse_words
  first_formed from left r h = r.formed 0 (omega arith)

-- those that are left
rest : (c : In-loop-left) → Left c.args.columns c.args.words.now c.loop-left.from c.loop-left.left
rest c =
    let a = c.args in
    let l = c.loop-left in
    behind a.columns a.words.now a.at a.count l.from l.left (record { inside = c.requires.words_in_bounds; formed = c.requires.sparse_rows_form }) l.invariant.0 l.invariant.1

module _ (c : After-alike-like) (r : Left c.args.columns c.args.words.now c.loop-left.from c.loop-left.left) where
  -- the words of those that are alike
  alike_inside : c.loop-left.from + c.alike-like.result * sparse_size c.used_inside-many.result ≤ length c.args.words.now
  alike_inside = omega (arith, c.alike-like.ensures.words, take_fewer Sparse c.args.columns c.alike-like.result c.loop-left.left (drop c.loop-left.from c.args.words.now) c.alike-like.ensures.few.1, r.inside)

  -- one row's are no more
  row_inside : c.loop-left.from + sparse_size c.used_inside-many.result ≤ length c.args.words.now
  row_inside = rw c.used_inside-many.ensures (first_inside c.args.columns c.args.words.now c.loop-left.from c.loop-left.left r c.loop-left-test.true)

-- and the others begin behind them
on : (columns at count from left like size : ℕ) (words : List ℤ) → left ≤ count → like ≤ left → from ≡ at + sparse_words columns (count - left) (drop at words) → sparse_words columns like (drop from words) ≡ size
    → from + size ≡ at + sparse_words columns (count - (left - like)) (drop at words)
on columns at count from left like size words h k e f =
    let more : count - (left - like) ≡ (count - left) + like = omega arith in
    rw more (omega (arith, rw (← e) at (take_later columns (count - left) like at words), e, f))

pub loop-left-init : goal.loop-left-init
loop-left-init c =
    let none : c.args.count - c.args.count ≡ 0 = omega arith in
    (omega arith, rw none (omega (arith, take_none Sparse c.args.columns (drop c.args.at c.args.words.now))))

pub used_inside-many-requires-clause-words_in_bounds : goal.used_inside-many-requires-clause-words_in_bounds
used_inside-many-requires-clause-words_in_bounds c = first_inside c.args.columns c.args.words.now c.loop-left.from c.loop-left.left (rest c) c.loop-left-test.true

pub used_inside-many-requires-clause-sparse_row_form : goal.used_inside-many-requires-clause-sparse_row_form
used_inside-many-requires-clause-sparse_row_form c = first_formed c.args.columns c.args.words.now c.loop-left.from c.loop-left.left (rest c) c.loop-left-test.true

pub alike-like-requires-clause-words_in_bounds : goal.alike-like-requires-clause-words_in_bounds
alike-like-requires-clause-words_in_bounds c = (rest (goal.at.alike-like-requires-clause-words_in_bounds c).In-loop-left).inside

pub alike-like-requires-clause-sparse_rows_form : goal.alike-like-requires-clause-sparse_rows_form
alike-like-requires-clause-sparse_rows_form c = (rest (goal.at.alike-like-requires-clause-sparse_rows_form c).In-loop-left).formed

pub overflow_add-from : goal.overflow_add-from
overflow_add-from c = omega (arith, row_inside c (rest (goal.at.overflow_add-from c).In-loop-left))

pub overflow_add-from-in-loop-left : goal.overflow_add-from-in-loop-left
overflow_add-from-in-loop-left c = omega (arith, row_inside c (rest (goal.at.overflow_add-from-in-loop-left c).In-loop-left))

pub overflow_mul-from : goal.overflow_mul-from
overflow_mul-from c = omega (arith, alike_inside c (rest (goal.at.overflow_mul-from c).In-loop-left))

pub overflow_add-from-in-loop-left-2 : goal.overflow_add-from-in-loop-left-2
overflow_add-from-in-loop-left-2 c = omega (arith, alike_inside c (rest (goal.at.overflow_add-from-in-loop-left-2 c).In-loop-left))

pub loop-left-preserved : goal.loop-left-preserved
loop-left-preserved c =
    let a = c.args in
    let l = c.loop-left in
    let k = c.alike-like in
    (omega (arith, l.invariant.0), on a.columns a.at a.count l.from l.left k.result (k.result * sparse_size c.used_inside-many.result) a.words.now l.invariant.0 k.ensures.few.1 l.invariant.1 k.ensures.words)
