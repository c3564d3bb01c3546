-- The weight that is read is the word of its row, and the sum so far is small enough for one row more.
use Rattle.std.proofs.Common.{◌≡◌, ◌∙◌, ◌+◌, pos, arith, w64, to_z, of_z}
use Rattle.words.specs.Limits.{most_rows}
use Rattle.words.specs.Words.{word}
use Rattle.rows.specs.Rows.{constant_row}
use Rattle.numbers.specs.Magnitudes.{back64}
use Rattle.row_buffers.specs.HeldRows.{held_rows}
use Rattle.row_buffers.proofs.HeldRows.{held_at}
use Rattle.row_buffers.proofs.Naturals.{weight_natural}
use Rattle.row_buffers.specs.EntryLimits.{disjunct_limit}
use Rattle.row_buffers.proofs.EntryLimits.{small_row_at}
use Rattle.row_buffers.proofs.FlatRows.{narrow_held_rows}
use Rattle.row_buffers.proofs.Adding.{none_added, one_more, weight_small, sum_small}
use Rattle.row_buffers.proofs.add_rows.Goals as goal
use Rattle.row_buffers.proofs.add_rows.Goals.{After-multiplier-weight}

pub loop-j-init : goal.loop-j-init
loop-j-init c =
    let a = c.args in
    none_added a.columns (held_rows a.columns a.n a.rows.now) a.words.now a.from a.target.now c.requires.columns_in_bounds.0

pub multiplier-weight-requires-clause-i_value : goal.multiplier-weight-requires-clause-i_value
multiplier-weight-requires-clause-i_value c = weight_natural c.args.words.now c.args.from c.args.n c.loop-j.j c.requires.natural (omega arith)

-- the weight, as the code has it
weighs : (c : After-multiplier-weight) → to_z w64 (of_z w64 c.multiplier-weight.result) ≡ word c.args.words.now (c.args.from + c.loop-j.j)
weighs c = back64 c.multiplier-weight.type_inv ∙ c.multiplier-weight.ensures

pub add_row-requires-clause-small_row : goal.add_row-requires-clause-small_row
add_row-requires-clause-small_row c =
    let a = c.args in
    rw (held_at a.columns a.n c.loop-j.j a.rows.now (constant_row (pos 0)) (omega arith)) at (small_row_at c.requires.small_rows c.loop-j.j)

pub add_row-requires-clause-weight_bound : goal.add_row-requires-clause-weight_bound
add_row-requires-clause-weight_bound c =
    let a = c.args in
    rw (weighs (goal.at.add_row-requires-clause-weight_bound c).After-multiplier-weight) (weight_small a.words.now a.from a.n c.loop-j.j c.requires.n_in_bounds.1 (omega arith))

pub add_row-requires-clause-columns_in_bounds : goal.add_row-requires-clause-columns_in_bounds
add_row-requires-clause-columns_in_bounds c =
    let a = c.args in
    let l = c.loop-j in
    let p = c.requires in (
      omega (arith, p.columns_in_bounds.0),
      sum_small a.columns (held_rows a.columns a.n a.rows.now) a.words.now a.from a.target.now (narrow_held_rows a.columns a.n a.rows.now) l.j l.target l.invariant
          disjunct_limit most_rows a.n (omega arith) (omega (arith, p.capacity.1)) (omega arith) p.small_rows p.n_in_bounds.1 p.columns_in_bounds.1,
    )

pub loop-j-preserved : goal.loop-j-preserved
loop-j-preserved c =
    let a = c.args in
    let l = c.loop-j in
    one_more a.columns (held_rows a.columns a.n a.rows.now) a.words.now a.from a.target.now (narrow_held_rows a.columns a.n a.rows.now) l.j l.target l.invariant
    _ _ (held_at a.columns a.n l.j a.rows.now (constant_row (pos 0)) (omega arith)) (rw (weighs (goal.at.loop-j-preserved c).After-multiplier-weight) at c.add_row.ensures)

pub returns : goal.returns
returns c = let e : c.loop-j.j ≡ c.args.n = omega arith in rw e at c.loop-j.invariant
