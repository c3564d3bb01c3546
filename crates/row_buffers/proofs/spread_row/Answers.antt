-- The column that is read is one of the row's, and its coefficient is stored there.
use Rattle.std.proofs.Common.{◌≡◌, ap, ◌∙◌, ℕ, ◌+◌, ◌<◌, drop, arith, w64, to_z, of_z}
use Rattle.rows.specs.Rows.{Row}
use Rattle.words.specs.Words.{word, number}
use Rattle.words.specs.SparseRows.{used_of, arrays_from}
use Rattle.numbers.specs.Magnitudes.{back64}
use Rattle.sparse_rows.specs.SparsePlaces.{column_natural, column_read, column_low}
use Rattle.row_buffers.specs.Spread.{written}
use Rattle.row_buffers.specs.Scattered.{part_row}
use Rattle.row_buffers.proofs.Scattered.{part_none, part_stored, part_all}
use Rattle.row_buffers.proofs.spread_row.Goals as goal
use Rattle.row_buffers.proofs.spread_row.Goals.{In-loop-j, After-natural_inside-c}

pub loop-j-init : goal.loop-j-init
loop-j-init c =
    let a = c.args in
    c.start_row.ensures ∙ part_none a.m a.words.now a.place a.columns a.target.now

few : (c : In-loop-j) → c.loop-j.j < used_of c.args.m (drop c.args.place c.args.words.now)
few c = omega (arith, c.used_inside-used.ensures)

pub natural_inside-c-requires : goal.natural_inside-c-requires
natural_inside-c-requires c =
    let a = c.args in
    (omega arith, column_natural a.m a.words.now a.place c.loop-j.j (few (goal.at.natural_inside-c-requires c).In-loop-j) c.requires.sparse_row_form)

-- the column that was read
module _ (c : After-natural_inside-c) where
  column : let a = c.args in c.natural_inside-c.result ≡ number a.m (word a.words.now (a.place + arrays_from + c.loop-j.j))
  column = let a = c.args in column_read a.m a.words.now a.place c.loop-j.j (omega (arith, c.used_inside-used.ensures)) c.requires.sparse_row_form c.natural_inside-c.result c.natural_inside-c.ensures

  column_few : c.natural_inside-c.result < c.args.m
  column_few = let a = c.args in omega (arith, column, column_low a.m a.words.now a.place c.loop-j.j (omega (arith, c.used_inside-used.ensures)) c.requires.sparse_row_form)

pub overflow_add-c : goal.overflow_add-c
overflow_add-c c = omega (arith, column_few (goal.at.overflow_add-c c).After-natural_inside-c)

pub offset_bounds-target-c : goal.offset_bounds-target-c
offset_bounds-target-c c = omega (arith, column_few (goal.at.offset_bounds-target-c c).After-natural_inside-c)

pub bounds-target-c : goal.bounds-target-c
bounds-target-c c = omega (arith, column_few (goal.at.bounds-target-c c).After-natural_inside-c)

pub loop-j-preserved : goal.loop-j-preserved
loop-j-preserved c =
    let i = (goal.at.loop-j-preserved c).After-natural_inside-c in
    let l = c.loop-j in
    let a = c.args in
    let p = c.requires in
    let x = to_z w64 (of_z w64 c.wide.result) in
    let u = c.used_inside-used in
    let e : a.place + 3 + u.result + l.j ≡ a.place + arrays_from + used_of a.m (drop a.place a.words.now) + l.j = omega (arith, u.ensures) in
    part_stored a.m a.words.now a.place a.columns a.target.now l.target l.j c.natural_inside-c.result x p.words_in_bounds (omega (arith, u.ensures)) p.m_le_columns.0 p.sparse_row_form l.invariant (column i)
    (back64 c.wide.type_inv ∙ c.wide.ensures.is ∙ ap (λ (q : ℕ). word a.words.now q) e)

pub returns-clause-target_after : goal.returns-clause-target_after
returns-clause-target_after c =
    let l = c.loop-j in
    let a = c.args in
    let e : l.j ≡ used_of a.m (drop a.place a.words.now) = omega (arith, c.used_inside-used.ensures) in
    l.invariant ∙ ap (λ (r : Row). written a.columns r a.target.now) (ap (part_row a.m a.words.now a.place) e ∙ part_all a.m a.words.now a.place c.requires.words_in_bounds)
