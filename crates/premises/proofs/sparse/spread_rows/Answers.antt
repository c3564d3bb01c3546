-- The row that is next stands in the row words, and is written into the part of the buffer behind the rows before.
use Rattle.std.proofs.Common.{◌≡◌, ◌+◌, ◌*◌, ◌≤◌, length, drop, arith}
use Rattle.words.specs.declared.StoredForm.TheVariants.{Sparse}
use Rattle.words.specs.SparseRows.{used_of, sparse_size, sparse_row_of, sparse_words}
use Rattle.words.proofs.StoredRows.{take_none}
use Rattle.sparse_rows.specs.SparseLoops.{take_next}
use Rattle.certificate_readers.specs.Disjuncts.{RowStands, row_stands}
use Rattle.row_buffers.specs.HeldRows.{stride}
use Rattle.row_buffers.proofs.Parts.{part_back}
use Rattle.premises.proofs.Copying.{copied_none, copied_next, next_inside}
use Rattle.premises.proofs.sparse.spread_rows.Goals as goal
use Rattle.premises.proofs.sparse.spread_rows.Goals.{In-loop-j}

pub loop-j-init : goal.loop-j-init
loop-j-init c =
    let a = c.args in
    record { next = omega (arith, take_none Sparse a.m (drop a.from a.rows.now)); is = copied_none Sparse a.columns a.m (drop a.from a.rows.now) a.premises.now }

-- the row that is next
stands : (c : In-loop-j) → RowStands Sparse c.args.m c.args.rows.now c.loop-j.place
stands c = rw (← c.loop-j.invariant.next) at (row_stands c.requires.disjunct_here c.loop-j.j c.loop-j-test.true)

pub spread_row-size-requires-clause-words_in_bounds : goal.spread_row-size-requires-clause-words_in_bounds
spread_row-size-requires-clause-words_in_bounds c = (stands (goal.at.spread_row-size-requires-clause-words_in_bounds c).In-loop-j).inside

pub spread_row-size-requires-clause-sparse_row_form : goal.spread_row-size-requires-clause-sparse_row_form
spread_row-size-requires-clause-sparse_row_form c = (stands (goal.at.spread_row-size-requires-clause-sparse_row_form c).In-loop-j).formed

pub overflow_add-place : goal.overflow_add-place
overflow_add-place c = omega (arith, (stands (goal.at.overflow_add-place c).In-loop-j).inside, c.spread_row-size.ensures.value)

pub loop-j-preserved : goal.loop-j-preserved
loop-j-preserved c =
    let l = c.loop-j in
    let a = c.args in
    let w = c.spread_row-size in
    let at = a.from + sparse_words a.m l.j (drop a.from a.rows.now) in
    let r = sparse_row_of a.m (drop at a.rows.now) in
    let size : w.result ≡ sparse_size (used_of a.m (drop at a.rows.now)) = rw l.invariant.next at w.ensures.value in
    let places : l.j * stride a.columns + stride a.columns ≤ length l.premises = omega (arith, next_inside (stride a.columns) c.loop-j-test.true) in
    record {
      next = omega (arith, size, l.invariant.next, take_next Sparse a.m l.j a.from a.rows.now);
      is =
          copied_next Sparse a.columns a.m a.from l.j a.rows.now a.premises.now l.premises _ l.invariant.is
          (part_back l.premises a.columns l.j places r _ (rw l.invariant.next at w.ensures.target_after));
    }
