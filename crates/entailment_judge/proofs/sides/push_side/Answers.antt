-- A guard's row over all columns is the row on that side: its columns stay where they are.
use Rattle.std.proofs.Common.{◌≡◌, Bool, true, false, ℕ, T, drop, refl, ap, ◌∙◌, arith}
use Rattle.rows.specs.Rows.{Row, substitute}
use Rattle.rows.specs.Columns.{columns as columns_from}
use Rattle.words.specs.RowWords.{row_of}
use Rattle.certificates.specs.Witnesses.{other_side, shaped_row}
use Rattle.row_buffers.specs.FlatRows.{pushed}
use Rattle.row_buffers.proofs.MovedColumns.{same_row}
use Rattle.row_buffers.proofs.RowsOfWords.{constant_at_lem}
use Rattle.entailments.specs.GuardRows.{signed_row, guard_row}
use Rattle.entailments.proofs.Bounds.{shaped_limited}
use Rattle.entailment_judge.specs.Sides.{side_of, side_width}
use Rattle.entailment_judge.proofs.sides.push_side.Goals as goal

-- the side, as a guard's row
guard_side : (other : Bool) (r : Row) → guard_row other other r ≡ side_of other r
unfolding guard_row signed_row side_of other_side
guard_side true r = refl
guard_side false r = refl

side_is : (columns : ℕ) (other : Bool) (r : Row) → T (shaped_row columns r) → substitute (columns_from 0 columns) (guard_row other other r) ≡ side_of other r
side_is columns other r t = rw guard_side (same_row columns (side_of other r) (omega (arith, side_width columns other r t)))

pub push_row-requires-clause-k_in_bounds : goal.push_row-requires-clause-k_in_bounds
push_row-requires-clause-k_in_bounds c =
    let a = c.args in
    let limited = shaped_limited a.columns (row_of a.columns (drop a.at a.w.now)) c.requires.columns_in_bounds.1 in
    (c.requires.columns_in_bounds.0, rw (constant_at_lem a.columns a.at a.w.now) at limited.constant)

pub returns : goal.returns
returns c =
    let a = c.args in
    c.push_row.ensures ∙ ap (λ (r : Row). pushed a.columns a.n r a.premises.now) (side_is a.columns a.other (row_of a.columns (drop a.at a.w.now)) c.requires.columns_in_bounds.1)
