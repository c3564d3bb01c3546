-- An entry of the row is stored behind those before it.
use Rattle.std.proofs.Common.{◌≡◌, arith, w64, to_z, of_z}
use Rattle.rows.specs.Rows.{Row}
use Rattle.numbers.specs.Magnitudes.{back64}
use Rattle.row_buffers.specs.HeldRows.{stride}
use Rattle.row_buffers.specs.FlatRows.{pushed}
use Rattle.premises.proofs.Copying.{part_none, part_more}
use Rattle.premises.proofs.MovedEntries.{moved}
use Rattle.premises.proofs.push_row.Goals as goal
use Rattle.premises.proofs.push_row.Goals.{Start}

abbrev row : Start → Row
row s = let a = s.args in moved a.words.now a.place a.k a.variant.negative a.shift a.variant.plus

pub loop-i-init : goal.loop-i-init
loop-i-init c = part_none c.args.columns c.args.n (row (goal.at.loop-i-init c).Start) c.args.premises.now

pub loop-i-preserved : goal.loop-i-preserved
loop-i-preserved c =
    let a = c.args in
    let l = c.loop-i in
    part_more a.columns a.n (row (goal.at.loop-i-preserved c).Start) a.premises.now l.i l.premises (to_z w64 (of_z w64 c.moved_entry.result)) (omega arith) l.invariant (rw (back64 c.moved_entry.type_inv) c.moved_entry.ensures)

pub returns : goal.returns
unfolding pushed
returns c = let e : c.loop-i.i ≡ stride c.args.columns = omega arith in rw e at c.loop-i.invariant
