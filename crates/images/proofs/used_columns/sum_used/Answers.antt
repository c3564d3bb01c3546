-- The column that is read is one of the row's, and what it becomes is added with its coefficient.
use Rattle.std.proofs.Common.{◌≡◌, sym, ap, ap₂, ◌∙◌, ℕ, ◌+◌, ◌<◌, ℤ, pos, get_or, drop, arith}
use Rattle.rows.specs.Rows.{Row, constant_row, add, scale, substitute}
use Rattle.words.specs.Words.{word, number}
use Rattle.words.specs.Limits.{coefficient_limit}
use Rattle.words.specs.SparseRows.{used_of, arrays_from}
use Rattle.sparse_rows.specs.SparsePlaces.{column_natural, column_read, column_low, coefficient_low}
use Rattle.row_buffers.specs.HeldRows.{held_row}
use Rattle.row_buffers.specs.Spread.{written}
use Rattle.row_buffers.proofs.RowsOfWords.{size}
use Rattle.row_buffers.proofs.Scattered.{part_all}
use Rattle.entailments.specs.Meaning.{image_rows}
use Rattle.entailments.proofs.ImageSizes.{path_inside, image_narrow, image_small}
use Rattle.images.proofs.UsedSums.{part_put, none_put, part_small, more_put}
use Rattle.images.proofs.used_columns.sum_used.Goals as goal
use Rattle.images.proofs.used_columns.sum_used.Goals.{In-loop-j, After-natural_inside-c}

pub loop-j-init : goal.loop-j-init
loop-j-init c =
    let a = c.args in
    c.start_row.ensures ∙ none_put (image_rows a.words.now a.s a.image) a.m a.rows.now a.from a.columns a.target.now

-- a turn of the loop
module _ (c : In-loop-j) where
  few : c.loop-j.j < used_of c.args.m (drop c.args.from c.args.rows.now)
  few = omega (arith, c.used_inside-used.ensures)

  -- where its coefficient stands
  place : let a = c.args in a.from + 3 + c.used_inside-used.result + c.loop-j.j ≡ a.from + arrays_from + used_of a.m (drop a.from a.rows.now) + c.loop-j.j
  place = omega (arith, c.used_inside-used.ensures)

pub natural_inside-c-requires : goal.natural_inside-c-requires
natural_inside-c-requires c =
    let a = c.args in
    (omega arith, column_natural a.m a.rows.now a.from c.loop-j.j (few (goal.at.natural_inside-c-requires c).In-loop-j) c.requires.row_stands.formed)

-- the column that was read
column : (c : After-natural_inside-c) → let a = c.args in c.natural_inside-c.result ≡ number a.m (word a.rows.now (a.from + arrays_from + c.loop-j.j))
column c = let a = c.args in column_read a.m a.rows.now a.from c.loop-j.j (omega (arith, c.used_inside-used.ensures)) c.requires.row_stands.formed c.natural_inside-c.result c.natural_inside-c.ensures

pub image_of-b-requires-clause-c_bound : goal.image_of-b-requires-clause-c_bound
image_of-b-requires-clause-c_bound c =
    let a = c.args in
    let n = few (goal.at.image_of-b-requires-clause-c_bound c).In-loop-j in
    omega (arith, column (goal.at.image_of-b-requires-clause-c_bound c).After-natural_inside-c, column_low a.m a.rows.now a.from c.loop-j.j n c.requires.row_stands.formed, c.requires.image_here.wide)

pub add_used-requires-clause-k_bound : goal.add_used-requires-clause-k_bound
add_used-requires-clause-k_bound c = path_inside c.requires.image_here

pub add_used-requires-clause-at_in_bounds : goal.add_used-requires-clause-at_in_bounds
add_used-requires-clause-at_in_bounds c =
    let n = (goal.at.add_used-requires-clause-at_in_bounds c).In-loop-j in
    let a = c.args in
    let l = c.loop-j in
    let coefficient = word a.rows.now (a.from + arrays_from + used_of a.m (drop a.from a.rows.now) + l.j) in
    (omega arith, rw (place n) (size coefficient_limit coefficient (coefficient_low a.m a.rows.now a.from l.j (few n) c.requires.row_stands.formed)))

pub add_used-requires-clause-columns_in_bounds : goal.add_used-requires-clause-columns_in_bounds
add_used-requires-clause-columns_in_bounds c =
    let a = c.args in
    let h = c.requires.image_here in
    let p = c.requires.row_stands in (
      omega arith,
      part_small (image_rows a.words.now a.s a.image) a.m a.rows.now a.from p.inside p.formed p.strict a.columns (image_narrow h) (image_small h) c.loop-j.j a.target.now c.loop-j.target c.loop-j.invariant,
    )

pub loop-j-preserved : goal.loop-j-preserved
loop-j-preserved c =
    let n = (goal.at.loop-j-preserved c).In-loop-j in
    let a = c.args in
    let l = c.loop-j in
    let h = c.requires.image_here in
    let p = c.requires.row_stands in
    let image = image_rows a.words.now a.s a.image in
    let added =
    c.add_used.ensures
    ∙ ap₂ (λ (x : ℤ) (r : Row). written a.columns (add (held_row a.columns l.target) (scale x r)) l.target) (ap (word a.rows.now) (place n))
    (sym c.image_of-b.ensures.is ∙ ap (λ (d : ℕ). get_or image d (constant_row (pos 0))) (column (goal.at.loop-j-preserved c).After-natural_inside-c)) in
    more_put image a.m a.rows.now a.from p.inside p.formed p.strict a.columns (image_narrow h) (image_small h) l.j (few n) a.target.now l.target _ l.invariant added

pub returns-clause-target_after : goal.returns-clause-target_after
returns-clause-target_after c =
    let a = c.args in
    let l = c.loop-j in
    let image = image_rows a.words.now a.s a.image in
    let e : l.j ≡ used_of a.m (drop a.from a.rows.now) = omega (arith, c.used_inside-used.ensures) in
    l.invariant ∙ (ap (λ (n : ℕ). written a.columns (part_put image a.m a.rows.now a.from n) a.target.now) e
    ∙ ap (λ (r : Row). written a.columns (substitute image r) a.target.now) (part_all a.m a.rows.now a.from c.requires.row_stands.inside))
