-- A row is written into the part of the buffer behind the rows before.
use Rattle.std.proofs.Common.{◌+◌, ◌*◌, ◌≤◌, ◌<◌, ℕ, length, drop, arith}
use Rattle.rows.specs.Rows.{substitute}
use Rattle.words.specs.declared.StoredForm.TheVariants.{Dense}
use Rattle.words.specs.RowWords.{row_size, row_of}
use Rattle.words.specs.RowForm.{RowsForm}
use Rattle.row_buffers.specs.HeldRows.{stride}
use Rattle.row_buffers.proofs.Parts.{part_back}
use Rattle.entailments.specs.declared.Image.TheVariants.{Called}
use Rattle.entailments.specs.Meaning.{image_rows}
use Rattle.premises.specs.PushedRows.{pushed_none, pushed_next}
use Rattle.premises.proofs.Copying.{next_inside}
use Rattle.premises.proofs.push_dense.Goals as goal
use Rattle.premises.proofs.push_dense.Goals.{Start}

abbrev wide : Start → ℕ
wide s = s.args.s.k + s.args.s.k + s.args.s.globals

abbrev many : Start → ℕ
many s = s.args.s.globals + s.args.s.parameters + s.args.s.globals

pub loop-i-init : goal.loop-i-init
loop-i-init c =
    let s = (goal.at.loop-i-init c).Start in
    let a = c.args in
    pushed_none Dense (wide s) a.n (many s) a.from (image_rows a.words.now a.s (Called a.at)) a.rows.now a.premises.now

pub substitute_image-requires-clause-m_in_bounds : goal.substitute_image-requires-clause-m_in_bounds
unfolding RowsForm
substitute_image-requires-clause-m_in_bounds c =
    let s = (goal.at.substitute_image-requires-clause-m_in_bounds c).Start in
    let d = c.requires.disjunct_here.stand in
    rw c.row_words-size.ensures (omega (arith, d.inside, next_inside (row_size (many s)) c.loop-i-test.true), d.formed c.loop-i.i (omega arith))

pub loop-i-preserved : goal.loop-i-preserved
loop-i-preserved c =
    let s = (goal.at.loop-i-preserved c).Start in
    let l = c.loop-i in
    let a = c.args in
    let image = image_rows a.words.now a.s (Called a.at) in
    let r = substitute image (row_of (many s) (drop (a.from + l.i * row_size (many s)) a.rows.now)) in
    let h : a.n + l.i < a.n + a.count = omega arith in
    let places : (a.n + l.i) * stride (wide s) + stride (wide s) ≤ length l.premises = omega (arith, next_inside (stride (wide s)) h) in
    pushed_next Dense (wide s) a.n (many s) a.from image a.rows.now a.premises.now l.i l.premises _ l.invariant
    (part_back l.premises (wide s) (a.n + l.i) places r _ (rw c.row_words-size.ensures at c.substitute_image.ensures))
