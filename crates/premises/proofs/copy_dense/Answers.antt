-- A row is written into the part of the buffer behind the rows before.
use Rattle.std.proofs.Common.{◌+◌, ◌*◌, ◌≤◌, length, drop, arith}
use Rattle.words.specs.declared.StoredForm.TheVariants.{Dense}
use Rattle.words.specs.RowWords.{row_size, row_of}
use Rattle.row_buffers.specs.HeldRows.{stride}
use Rattle.row_buffers.proofs.Parts.{part_back}
use Rattle.premises.proofs.Copying.{copied_none, copied_next, next_inside}
use Rattle.premises.proofs.copy_dense.Goals as goal

pub loop-j-init : goal.loop-j-init
loop-j-init c = let a = c.args in copied_none Dense a.columns a.m (drop a.from a.rows.now) a.premises.now

pub loop-j-preserved : goal.loop-j-preserved
loop-j-preserved c =
    let l = c.loop-j in
    let a = c.args in
    let r = row_of a.m (drop (a.from + l.j * row_size a.m) a.rows.now) in
    let places : l.j * stride a.columns + stride a.columns ≤ length l.premises = omega (arith, next_inside (stride a.columns) c.loop-j-test.true) in
    copied_next Dense a.columns a.m a.from l.j a.rows.now a.premises.now l.premises _ l.invariant
    (part_back l.premises a.columns l.j places r _ (rw c.row_words-size.ensures at c.copy_row.ensures))
