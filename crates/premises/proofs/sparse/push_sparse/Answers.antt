-- The row that is next stands in the row words, and is written into the part of the buffer behind the rows before.
use Rattle.std.proofs.Common.{◌≡◌, ℕ, ◌+◌, ◌*◌, ◌≤◌, ◌<◌, length, drop, arith}
use Rattle.rows.specs.Rows.{substitute}
use Rattle.words.specs.declared.StoredForm.TheVariants.{Sparse}
use Rattle.words.specs.SparseRows.{used_of, sparse_size, sparse_row_of, sparse_words}
use Rattle.words.proofs.StoredRows.{take_none}
use Rattle.sparse_rows.specs.SparseLoops.{take_next}
use Rattle.certificate_readers.specs.Disjuncts.{RowStands, row_stands}
use Rattle.row_buffers.specs.HeldRows.{stride}
use Rattle.row_buffers.proofs.Parts.{part_back}
use Rattle.entailments.specs.declared.Image.TheVariants.{Called}
use Rattle.entailments.specs.Meaning.{image_rows}
use Rattle.premises.specs.PushedRows.{pushed_none, pushed_next}
use Rattle.premises.proofs.Copying.{next_inside}
use Rattle.premises.proofs.sparse.push_sparse.Goals as goal
use Rattle.premises.proofs.sparse.push_sparse.Goals.{Start, In-loop-i}

abbrev wide : Start → ℕ
wide s = s.args.s.k + s.args.s.k + s.args.s.globals

abbrev many : Start → ℕ
many s = s.args.s.globals + s.args.s.parameters + s.args.s.globals

pub loop-i-init : goal.loop-i-init
loop-i-init c =
    let s = (goal.at.loop-i-init c).Start in
    let a = c.args in
    record {
      next = omega (arith, take_none Sparse (many s) (drop a.from a.rows.now));
      is = pushed_none Sparse (wide s) a.n (many s) a.from (image_rows a.words.now a.s (Called a.at)) a.rows.now a.premises.now;
    }

-- the row that is next
stands : (c : In-loop-i) → RowStands Sparse (c.args.s.globals + c.args.s.parameters + c.args.s.globals) c.args.rows.now c.loop-i.place
stands c = rw (← c.loop-i.invariant.next) at (row_stands c.requires.disjunct_here c.loop-i.i c.loop-i-test.true)

pub substitute_sparse-size-requires-clause-row_stands : goal.substitute_sparse-size-requires-clause-row_stands
substitute_sparse-size-requires-clause-row_stands c = stands (goal.at.substitute_sparse-size-requires-clause-row_stands c).In-loop-i

pub overflow_add-place : goal.overflow_add-place
overflow_add-place c = omega (arith, (stands (goal.at.overflow_add-place c).In-loop-i).inside, c.substitute_sparse-size.ensures.value)

pub loop-i-preserved : goal.loop-i-preserved
loop-i-preserved c =
    let s = (goal.at.loop-i-preserved c).Start in
    let l = c.loop-i in
    let a = c.args in
    let w = c.substitute_sparse-size in
    let image = image_rows a.words.now a.s (Called a.at) in
    let at = a.from + sparse_words (many s) l.i (drop a.from a.rows.now) in
    let r = substitute image (sparse_row_of (many s) (drop at a.rows.now)) in
    let size : w.result ≡ sparse_size (used_of (many s) (drop at a.rows.now)) = rw l.invariant.next at w.ensures.value in
    let h : a.n + l.i < a.n + a.count = omega arith in
    let places : (a.n + l.i) * stride (wide s) + stride (wide s) ≤ length l.premises = omega (arith, next_inside (stride (wide s)) h) in
    record {
      next = omega (arith, size, l.invariant.next, take_next Sparse (many s) l.i a.from a.rows.now);
      is =
          pushed_next Sparse (wide s) a.n (many s) a.from image a.rows.now a.premises.now l.i l.premises _ l.invariant.is
          (part_back l.premises (wide s) (a.n + l.i) places r _ (rw l.invariant.next at w.ensures.target_after));
    }
