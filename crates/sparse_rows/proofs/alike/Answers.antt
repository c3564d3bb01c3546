-- Each row that is alike takes as many words as the first, and is all there, since all are.
use Rattle.std.proofs.Common.{◌≡◌, ℕ, ◌+◌, ◌*◌, ◌≤◌, length, drop, sym, ap, ◌∙◌, arith, add-one, suc-mul, drop-drop}
use Rattle.words.specs.declared.StoredForm.TheVariants.{Sparse}
use Rattle.words.specs.SparseRows.{used_of, sparse_size, sparse_words}
use Rattle.words.specs.SparseForm.{SparseRowForm, SparseRowsForm}
use Rattle.words.proofs.StoredRows.{take_fewer}
use Rattle.sparse_rows.specs.SparseLoops.{take_next, take_one}
use Rattle.sparse_rows.proofs.alike.Goals as goal
use Rattle.sparse_rows.proofs.alike.Goals.{Start, In-loop-i, After-used_inside-here}

-- the first row
module _ (s : Start) where
  one : sparse_words s.args.columns 1 (drop s.args.at s.args.words.now) ≡ sparse_size s.args.many
  one = take_one s.args.columns s.args.at s.args.words.now ∙ ap sparse_size (sym s.requires.le_count.1)

  first_inside : s.args.at + sparse_size s.args.many ≤ length s.args.words.now
  first_inside = omega (arith, one, take_fewer Sparse s.args.columns 1 s.args.count (drop s.args.at s.args.words.now) s.requires.le_count.0, s.requires.words_in_bounds)

pub overflow_add-size : goal.overflow_add-size
overflow_add-size c = omega (arith, first_inside c)

pub overflow_add-size-2 : goal.overflow_add-size-2
overflow_add-size-2 c = omega (arith, first_inside c)

pub overflow_add-from : goal.overflow_add-from
overflow_add-from c = omega (arith, first_inside c)

pub loop-i-init : goal.loop-i-init
loop-i-init c = (omega (arith, one c), omega (arith, one c))

module _ (c : In-loop-i) where
  -- the row at hand is all there
  inside : c.loop-i.from + sparse_size (used_of c.args.columns (drop c.loop-i.from c.args.words.now)) ≤ length c.args.words.now
  inside =
      let a = c.args in
      let l = c.loop-i in
      rw l.invariant.0
      (omega (arith, take_next Sparse a.columns l.i a.at a.words.now, take_fewer Sparse a.columns (l.i + 1) a.count (drop a.at a.words.now) (omega arith), c.requires.words_in_bounds))

  -- and has its form
  formed : SparseRowForm c.args.columns (drop c.loop-i.from c.args.words.now)
  unfolding SparseRowsForm
  formed =
      let a = c.args in
      let l = c.loop-i in
      rw l.invariant.0 (rw (drop-drop (sparse_words a.columns l.i (drop a.at a.words.now)) a.at a.words.now) at (c.requires.sparse_rows_form l.i c.loop-i-test.true))

pub used_inside-here-requires-clause-words_in_bounds : goal.used_inside-here-requires-clause-words_in_bounds
used_inside-here-requires-clause-words_in_bounds c = inside c

pub used_inside-here-requires-clause-sparse_row_form : goal.used_inside-here-requires-clause-sparse_row_form
used_inside-here-requires-clause-sparse_row_form c = formed c

-- it takes as many words as the first
module _ (c : After-used_inside-here) (same : c.used_inside-here.result ≡ c.args.many) where
  abbrev next : ℕ
  next = sparse_words c.args.columns (c.loop-i.i + 1) (drop c.args.at c.args.words.now)

  counted : next ≡ sparse_words c.args.columns c.loop-i.i (drop c.args.at c.args.words.now) + sparse_size c.args.many
  counted = take_next Sparse c.args.columns c.loop-i.i c.args.at c.args.words.now ∙ rw (← c.loop-i.invariant.0, ← c.used_inside-here.ensures, same)

  product : next ≡ (c.loop-i.i + 1) * sparse_size c.args.many
  product = counted ∙ rw (c.loop-i.invariant.1, add-one c.loop-i.i) (sym (suc-mul c.loop-i.i (sparse_size c.args.many)))

pub overflow_add-from-in-loop-i : goal.overflow_add-from-in-loop-i
overflow_add-from-in-loop-i c =
    let u = (goal.at.overflow_add-from-in-loop-i c).After-used_inside-here in
    omega (arith, counted u c.if-here-many.false, inside (goal.at.overflow_add-from-in-loop-i c).In-loop-i, c.used_inside-here.ensures)

pub loop-i-preserved : goal.loop-i-preserved
loop-i-preserved c =
    let u = (goal.at.loop-i-preserved c).After-used_inside-here in
    (omega (arith, counted u c.if-here-many.false, c.loop-i.invariant.0), product u c.if-here-many.false)
