-- The weight that is read is the word of its row, and the sum so far is small enough for one row more.
use Rattle.std.proofs.Common.{◌≡◌, refl, ◌∙◌, ◌+◌, ◌-◌, ◌*◌, ◌<◌, pos, length, get_or, take, drop, zero-le, arith, w64, to_z, of_z}
use Rattle.words.specs.Words.{word}
use Rattle.rows.specs.Rows.{constant_row, scale, combine}
use Rattle.numbers.specs.Magnitudes.{back64}
use Rattle.row_buffers.specs.HeldRows.{stride, held_row, held_rows}
use Rattle.row_buffers.proofs.HeldRows.{held_at}
use Rattle.row_buffers.proofs.Naturals.{weight_natural}
use Rattle.row_buffers.specs.EntryLimits.{most_buffer_rows}
use Rattle.row_buffers.proofs.EntryLimits.{small_row_at}
use Rattle.row_buffers.proofs.FlatRows.{narrow_held_rows}
use Rattle.row_buffers.proofs.Adding.{none_added, one_more, weight_small, sum_small}
use Rattle.row_buffers.proofs.Starting.{start_small, added_to, added_to_zeros, cleared, length_cleared, over_it, stored_added}
use Rattle.row_buffers.proofs.sum_rows.Goals as goal
use Rattle.row_buffers.proofs.sum_rows.Goals.{After-multiplier, After-multiplier-in-loop-j}

pub returns-then-n-eq0 : goal.returns-then-n-eq0
unfolding combine
returns-then-n-eq0 c = rw c.if-n-eq0.true c.clear_row.ensures

-- ---- the first row

pub multiplier-requires-clause-i_value : goal.multiplier-requires-clause-i_value
multiplier-requires-clause-i_value c =
    let a = c.args in
    let z : a.from + 0 ≡ a.from = omega arith in
    rw z at (weight_natural a.words.now a.from a.n 0 c.requires.natural (omega arith))

module _ (c : After-multiplier) where
  -- the weight, as the code has it
  first_weighs : to_z w64 (of_z w64 c.multiplier.result) ≡ word c.args.words.now c.args.from
  first_weighs = back64 c.multiplier.type_inv ∙ c.multiplier.ensures

  first_held : let a = c.args in get_or (held_rows a.columns a.n a.rows.now) 0 (constant_row (pos 0)) ≡ held_row a.columns a.rows.now
  first_held =
      let a = c.args in
      let z : 0 * stride a.columns ≡ 0 = omega arith in
      rw z at (held_at a.columns a.n 0 a.rows.now (constant_row (pos 0)) (omega arith))

pub first_row-requires-clause-small_row : goal.first_row-requires-clause-small_row
first_row-requires-clause-small_row c = rw (first_held (goal.at.first_row-requires-clause-small_row c).After-multiplier) at (small_row_at c.requires.small_rows 0)

pub first_row-requires-clause-weight_bound : goal.first_row-requires-clause-weight_bound
first_row-requires-clause-weight_bound c =
    let a = c.args in
    let z : a.from + 0 ≡ a.from = omega arith in
    rw (first_weighs (goal.at.first_row-requires-clause-weight_bound c).After-multiplier) (rw z at (weight_small a.words.now a.from a.n 0 c.requires.n_in_bounds.1 (omega arith)))

pub loop-j-init : goal.loop-j-init
loop-j-init c =
    let m = (goal.at.loop-j-init c).After-multiplier in
    let f = c.first_row in
    let a = c.args in
    let v = f.new.target in
    let rs = held_rows a.columns a.n a.rows.now in
    let z : a.from ≡ a.from + 0 = omega arith in
    let r = held_row a.columns a.rows.now in
    let stored = stored_added a.columns (scale (word a.words.now a.from) r) a.target.now v (rw (first_weighs m) at f.ensures) in
    let long : a.columns < length (cleared a.columns v) = rw (length_cleared a.columns v (omega arith)) (omega arith) in
    one_more a.columns rs a.words.now a.from (cleared a.columns v) (narrow_held_rows a.columns a.n a.rows.now) 0 (cleared a.columns v)
    (none_added a.columns rs a.words.now a.from (cleared a.columns v) long) r v (first_held m) (rw z at stored)

-- ---- the others

-- the weight, as the code has it
weighs : (c : After-multiplier-in-loop-j) → to_z w64 (of_z w64 c.multiplier-in-loop-j.result) ≡ word c.args.words.now (c.args.from + c.loop-j.j)
weighs c = back64 c.multiplier-in-loop-j.type_inv ∙ c.multiplier-in-loop-j.ensures

pub multiplier-requires-in-loop-j-clause-i_value : goal.multiplier-requires-in-loop-j-clause-i_value
multiplier-requires-in-loop-j-clause-i_value c = weight_natural c.args.words.now c.args.from c.args.n c.loop-j.j c.requires.natural (omega arith)

pub add_row-requires-clause-small_row : goal.add_row-requires-clause-small_row
add_row-requires-clause-small_row c =
    let a = c.args in
    rw (held_at a.columns a.n c.loop-j.j a.rows.now (constant_row (pos 0)) (omega arith)) at (small_row_at c.requires.small_rows c.loop-j.j)

pub add_row-requires-clause-weight_bound : goal.add_row-requires-clause-weight_bound
add_row-requires-clause-weight_bound c =
    let a = c.args in
    rw (weighs (goal.at.add_row-requires-clause-weight_bound c).After-multiplier-in-loop-j) (weight_small a.words.now a.from a.n c.loop-j.j c.requires.n_in_bounds.1 (omega arith))

pub add_row-requires-clause-columns_in_bounds : goal.add_row-requires-clause-columns_in_bounds
add_row-requires-clause-columns_in_bounds c =
    let a = c.args in
    let l = c.loop-j in
    let p = c.requires in
    let v = c.first_row.new.target in (
      omega arith,
      sum_small a.columns (held_rows a.columns a.n a.rows.now) a.words.now a.from (cleared a.columns v) (narrow_held_rows a.columns a.n a.rows.now) l.j l.target l.invariant
          0 (most_buffer_rows - 1) a.n (omega arith) (omega arith) (omega arith) p.small_rows p.n_in_bounds.1 (start_small a.columns (pos 0) v (cleared a.columns v) refl zero-le),
    )

pub loop-j-preserved : goal.loop-j-preserved
loop-j-preserved c =
    let a = c.args in
    let l = c.loop-j in
    let v = c.first_row.new.target in
    one_more a.columns (held_rows a.columns a.n a.rows.now) a.words.now a.from (cleared a.columns v) (narrow_held_rows a.columns a.n a.rows.now) l.j l.target l.invariant
    _ _ (held_at a.columns a.n l.j a.rows.now (constant_row (pos 0)) (omega arith)) (rw (weighs (goal.at.loop-j-preserved c).After-multiplier-in-loop-j) at c.add_row.ensures)

pub returns : goal.returns
returns c =
    let a = c.args in
    let f = c.first_row in
    let v = f.new.target in
    let e : c.loop-j.j ≡ a.n = omega arith in
    let s = combine (take a.n (drop a.from a.words.now)) (held_rows a.columns a.n a.rows.now) in
    added_to_zeros a.columns s v _ (added_to a.columns (pos 0) v (cleared a.columns v) refl s _ (rw e at c.loop-j.invariant)) ∙ over_it a.columns _ a.target.now v f.ensures s
