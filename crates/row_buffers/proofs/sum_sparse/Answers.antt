-- The weight that is read is the word of its row, and the sum so far is small enough for one row more.
use Rattle.std.proofs.Common.{◌≡◌, ◌∙◌, ◌+◌, pos, take, drop, zero-le, arith, w64, to_z, of_z}
use Rattle.words.specs.Limits.{most_rows}
use Rattle.words.specs.Words.{word}
use Rattle.rows.specs.Rows.{combine}
use Rattle.numbers.specs.Magnitudes.{back64}
use Rattle.row_buffers.proofs.Naturals.{weight_natural}
use Rattle.row_buffers.specs.PlacedRows.{placed_rows}
use Rattle.row_buffers.proofs.PlacedRows.{placed_at, placed_small, placed_narrow}
use Rattle.row_buffers.proofs.Adding.{none_added, one_more, weight_small, sum_small}
use Rattle.row_buffers.proofs.Starting.{start_small, added_to, added_to_zeros}
use Rattle.row_buffers.proofs.sum_sparse.Goals as goal
use Rattle.row_buffers.proofs.sum_sparse.Goals.{After-multiplier-weight}

pub loop-j-init : goal.loop-j-init
loop-j-init c =
    let a = c.args in
    none_added a.columns (placed_rows a.m a.stored.now a.n a.places.now) a.words.now a.from c.clear_row.new.target (omega arith)

pub multiplier-weight-requires-clause-i_value : goal.multiplier-weight-requires-clause-i_value
multiplier-weight-requires-clause-i_value c = weight_natural c.args.words.now c.args.from c.args.n c.loop-j.j c.requires.natural (omega arith)

-- the weight, as the code has it
weighs : (c : After-multiplier-weight) → to_z w64 (of_z w64 c.multiplier-weight.result) ≡ word c.args.words.now (c.args.from + c.loop-j.j)
weighs c = back64 c.multiplier-weight.type_inv ∙ c.multiplier-weight.ensures

pub add_sparse-requires-clause-weight_bound : goal.add_sparse-requires-clause-weight_bound
add_sparse-requires-clause-weight_bound c =
    let a = c.args in
    rw (weighs (goal.at.add_sparse-requires-clause-weight_bound c).After-multiplier-weight) (weight_small a.words.now a.from a.n c.loop-j.j c.requires.n_in_bounds.1 (omega arith))

pub add_sparse-requires-clause-small_row : goal.add_sparse-requires-clause-small_row
add_sparse-requires-clause-small_row c =
    let a = c.args in
    let l = c.loop-j in
    let p = c.requires in
    let f = c.clear_row in
    let v = f.new.target in
    sum_small a.columns (placed_rows a.m a.stored.now a.n a.places.now) a.words.now a.from v (placed_narrow p.placed_here p.m_le_columns.0) l.j l.target l.invariant
    0 most_rows a.n (omega arith) (omega (arith, p.placed_here.few)) (omega arith) (placed_small p.placed_here) p.n_in_bounds.1 (start_small a.columns (pos 0) a.target.now v f.ensures zero-le)

pub loop-j-preserved : goal.loop-j-preserved
loop-j-preserved c =
    let a = c.args in
    let l = c.loop-j in
    let p = c.requires in
    let v = c.clear_row.new.target in
    one_more a.columns (placed_rows a.m a.stored.now a.n a.places.now) a.words.now a.from v (placed_narrow p.placed_here p.m_le_columns.0) l.j l.target l.invariant
    _ _ (placed_at a.m a.stored.now a.n l.j a.places.now (omega arith) p.placed_here.many) (rw (weighs (goal.at.loop-j-preserved c).After-multiplier-weight) at c.add_sparse.ensures)

pub returns : goal.returns
returns c =
    let a = c.args in
    let f = c.clear_row in
    let e : c.loop-j.j ≡ a.n = omega arith in
    let s = combine (take a.n (drop a.from a.words.now)) (placed_rows a.m a.stored.now a.n a.places.now) in
    added_to_zeros a.columns s a.target.now _ (added_to a.columns (pos 0) a.target.now f.new.target f.ensures s _ (rw e at c.loop-j.invariant))
