-- The column that is read is one of the row's, and the target has its own entry there yet.
use Rattle.std.proofs.Common.{◌≡◌, ap, ◌∙◌, ℕ, ◌+◌, ◌<◌, ℤ, pos, get_or, drop, length-set, arith, rules, SFits, w64, to_z, of_z, to_z-of_z}
use Rattle.words.specs.Words.{word, number}
use Rattle.words.specs.SparseRows.{used_of, arrays_from, sparse_row_of}
use Rattle.numbers.specs.Magnitudes.{back64}
use Rattle.sparse_rows.specs.SparsePlaces.{column_natural, column_read, column_low}
use Rattle.row_buffers.proofs.Adding.{unweighted}
use Rattle.row_buffers.proofs.AddedSparse.{constant_added, constant_fits, coefficient_added, coefficient_fits, sparse_added}
use Rattle.row_buffers.proofs.add_sparse.Goals as goal
use Rattle.row_buffers.proofs.add_sparse.Goals.{Start, In-loop-j, After-natural_inside-c, After-wide-x}

-- the weight, as the code has it
weighs : (c : Start) → to_z w64 (of_z w64 c.args.weight) ≡ c.args.weight
weighs c = to_z-of_z c.ranges.weight

pub returns-then-skipped : goal.returns-then-skipped
returns-then-skipped c =
    let a = c.args in
    unweighted a.columns a.target.now a.weight (sparse_row_of a.m (drop a.place a.words.now)) c.requires.m_le_columns.1 (search rules)

pub add_mul-requires : goal.add_mul-requires
add_mul-requires c =
    let a = c.args in
    let k = c.constant_at-constant in
    let f : SFits w64 (get_or c.args.target.now 0 (pos 0)) = search rules in
    constant_fits a.m a.words.now a.place a.columns (to_z w64 (of_z w64 a.weight)) a.target.now c.requires.sparse_here _ _ (to_z-of_z f) (back64 k.type_inv ∙ k.ensures) c.requires.small_row
    (rw (weighs (goal.at.add_mul-requires c).Start) c.requires.weight_bound)

-- the constant is added
pub loop-j-init : goal.loop-j-init
loop-j-init c =
    let a = c.args in
    let k = c.constant_at-constant in
    let f : SFits w64 (get_or c.args.target.now 0 (pos 0)) = search rules in
    constant_added a.m a.words.now a.place a.columns (to_z w64 (of_z w64 a.weight)) a.target.now _ _ _ c.requires.m_le_columns.1 (back64 c.add_mul.type_inv ∙ c.add_mul.ensures) (to_z-of_z f) (back64 k.type_inv ∙ k.ensures)

-- a turn of the loop
few : (c : In-loop-j) → c.loop-j.j < used_of c.args.m (drop c.args.place c.args.words.now)
few c = omega (arith, c.used_inside-used.ensures)

pub natural_inside-c-requires : goal.natural_inside-c-requires
natural_inside-c-requires c =
    let a = c.args in
    (omega arith, column_natural a.m a.words.now a.place c.loop-j.j (few (goal.at.natural_inside-c-requires c).In-loop-j) c.requires.sparse_here.formed)

-- the column that was read
module _ (c : After-natural_inside-c) where
  low : c.loop-j.j < used_of c.args.m (drop c.args.place c.args.words.now)
  low = omega (arith, c.used_inside-used.ensures)

  column : let a = c.args in c.natural_inside-c.result ≡ number a.m (word a.words.now (a.place + arrays_from + c.loop-j.j))
  column = let a = c.args in column_read a.m a.words.now a.place c.loop-j.j low c.requires.sparse_here.formed c.natural_inside-c.result c.natural_inside-c.ensures

  column_few : c.natural_inside-c.result < c.args.m
  column_few = let a = c.args in omega (arith, column, column_low a.m a.words.now a.place c.loop-j.j low c.requires.sparse_here.formed)

-- the coefficient that was read
value : (c : After-wide-x) → let a = c.args in to_z w64 (of_z w64 c.wide-x.result) ≡ word a.words.now (a.place + arrays_from + used_of a.m (drop a.place a.words.now) + c.loop-j.j)
value c =
    let a = c.args in
    let u = c.used_inside-used in
    let e : a.place + 3 + u.result + c.loop-j.j ≡ a.place + arrays_from + used_of a.m (drop a.place a.words.now) + c.loop-j.j = omega (arith, u.ensures) in
    back64 c.wide-x.type_inv ∙ c.wide-x.ensures.is ∙ ap (λ (q : ℕ). word a.words.now q) e

pub overflow_add-entry : goal.overflow_add-entry
overflow_add-entry c = omega (arith, column_few (goal.at.overflow_add-entry c).After-natural_inside-c)

pub offset_bounds-target-entry : goal.offset_bounds-target-entry
offset_bounds-target-entry c = omega (arith, length-set {A = ℤ}, column_few (goal.at.offset_bounds-target-entry c).After-natural_inside-c)

pub slice_copy_out-add_mul-in-loop-j : goal.slice_copy_out-add_mul-in-loop-j
slice_copy_out-add_mul-in-loop-j c = omega (arith, length-set {A = ℤ}, column_few (goal.at.slice_copy_out-add_mul-in-loop-j c).After-natural_inside-c)

pub add_mul-requires-in-loop-j : goal.add_mul-requires-in-loop-j
add_mul-requires-in-loop-j c =
    let i = (goal.at.add_mul-requires-in-loop-j c).After-natural_inside-c in
    let a = c.args in
    let l = c.loop-j in
    let p = c.requires in
    let f : SFits w64 (get_or c.loop-j.target (1 + c.natural_inside-c.result) (pos 0)) = search rules in
    coefficient_fits a.m a.words.now a.place a.columns (to_z w64 (of_z w64 a.weight)) a.target.now p.sparse_here p.m_le_columns.0 l.j (low i) c.natural_inside-c.result (column i)
    l.target l.invariant _ _ (to_z-of_z f) (value (goal.at.add_mul-requires-in-loop-j c).After-wide-x) p.small_row (rw (weighs (goal.at.add_mul-requires-in-loop-j c).Start) p.weight_bound)

pub offset_bounds-target-entry-in-loop-j : goal.offset_bounds-target-entry-in-loop-j
offset_bounds-target-entry-in-loop-j c = omega (arith, column_few (goal.at.offset_bounds-target-entry-in-loop-j c).After-natural_inside-c)

pub bounds-target-entry : goal.bounds-target-entry
bounds-target-entry c = omega (arith, length-set {A = ℤ}, column_few (goal.at.bounds-target-entry c).After-natural_inside-c)

pub loop-j-preserved : goal.loop-j-preserved
loop-j-preserved c =
    let i = (goal.at.loop-j-preserved c).After-natural_inside-c in
    let a = c.args in
    let l = c.loop-j in
    let p = c.requires in
    let f : SFits w64 (get_or c.loop-j.target (1 + c.natural_inside-c.result) (pos 0)) = search rules in
    let r = c.add_mul-in-loop-j in
    coefficient_added a.m a.words.now a.place a.columns (to_z w64 (of_z w64 a.weight)) a.target.now p.sparse_here p.m_le_columns.0 l.j (low i) c.natural_inside-c.result (column i)
    l.target l.invariant (to_z w64 (of_z w64 r.result)) _ _ (back64 r.type_inv ∙ r.ensures) (to_z-of_z f) (value (goal.at.loop-j-preserved c).After-wide-x)

pub returns : goal.returns
returns c =
    let a = c.args in
    let l = c.loop-j in
    rw (weighs (goal.at.returns c).Start) at
    (sparse_added a.m a.words.now a.place a.columns (to_z w64 (of_z w64 a.weight)) a.target.now l.j c.requires.sparse_here (omega (arith, c.used_inside-used.ensures)) l.target l.invariant)
