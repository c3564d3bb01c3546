-- `write_coefficients` meets its contract: after j turns the first j coefficients stand in their columns, over the zeros. The count and the columns
-- are as the words say, since the row has its form, and so each place is one of the row's.
use Rattle.std.proofs.Common.{◌≡◌, ◌+◌, pos, drop, arith, rules, sym, ap, ◌∙◌, w32, SFits, to_z-of_z}
use Rattle.std.proofs.lemmas.Int.{ints}
use Rattle.std.proofs.lemmas.List.Edits.{sets}
use Rattle.words.specs.Words.{word}
use Rattle.words.specs.SparseRows.{used_of, arrays_from}
use Rattle.row_writers.specs.DenseRows.{part_of, part_none, count_here, column_there, column_few, part_stored, part_all}
use Rattle.row_writers.proofs.write_coefficients.Goals as goal
use Rattle.row_writers.proofs.write_coefficients.Goals.{After-number_of-used, After-number_of-column}

pub loop-j-init : goal.loop-j-init
loop-j-init c = let a = c.args in c.write_zeros.ensures ∙ ap (sets a.buffer.now a.from) (sym (part_none a.columns a.rows.now a.at))

-- the count, as it is read
counts : (c : After-number_of-used) → c.number_of-used.result ≡ used_of c.args.columns (drop c.args.at c.args.rows.now)
counts c =
    let f : SFits w32 (word c.args.rows.now c.coefficients_from-counted.result) = search rules in
    let e : word c.args.rows.now c.coefficients_from-counted.result ≡ pos (used_of c.args.columns (drop c.args.at c.args.rows.now)) =
    ap (word c.args.rows.now) c.coefficients_from-counted.ensures ∙ count_here c.args.columns c.args.rows.now c.args.at c.requires.sparse_row_form in
    omega (arith, ints, c.number_of-used.ensures, to_z-of_z f, e)

pub bounds-rows-first : goal.bounds-rows-first
bounds-rows-first c = omega (arith, c.requires.rows_in_bounds, counts (goal.at.bounds-rows-first c).After-number_of-used, c.coefficients_from-counted.ensures)

pub number_of-column-requires : goal.number_of-column-requires
number_of-column-requires c =
    let a = c.args in
    let n = counts (goal.at.number_of-column-requires c).After-number_of-used in
    let e : c.coefficients_from-counted.result + 1 + c.loop-j.j ≡ a.at + arrays_from + c.loop-j.j = omega (arith, c.coefficients_from-counted.ensures) in
    let f : SFits w32 (word a.rows.now (c.coefficients_from-counted.result + 1 + c.loop-j.j)) = search rules in
    omega (arith, ints, to_z-of_z f, ap (word a.rows.now) e, column_there a.columns a.rows.now a.at c.requires.sparse_row_form c.requires.rows_in_bounds c.loop-j.j (omega (arith, n)))

pub bounds-rows-values : goal.bounds-rows-values
bounds-rows-values c = omega (arith, c.requires.rows_in_bounds, counts (goal.at.bounds-rows-values c).After-number_of-used, c.coefficients_from-counted.ensures)

-- the column of a turn, which is one of the row's
column : (c : After-number_of-column) → pos c.number_of-column.result ≡ word c.args.rows.now (c.args.at + arrays_from + c.loop-j.j)
column c =
    let a = c.args in
    let e : c.coefficients_from-counted.result + 1 + c.loop-j.j ≡ a.at + arrays_from + c.loop-j.j = omega (arith, c.coefficients_from-counted.ensures) in
    let f : SFits w32 (word a.rows.now (c.coefficients_from-counted.result + 1 + c.loop-j.j)) = search rules in
    c.number_of-column.ensures ∙ (to_z-of_z f ∙ ap (word a.rows.now) e)

pub bounds-buffer-place : goal.bounds-buffer-place
bounds-buffer-place c =
    let a = c.args in
    let g = goal.at.bounds-buffer-place c in
    let n = counts g.After-number_of-used in
    omega (arith, column_few a.columns a.rows.now a.at c.requires.sparse_row_form c.requires.rows_in_bounds c.loop-j.j (omega (arith, n)) (column g.After-number_of-column), c.loop-j.auto.buffer, c.write_zeros.auto.buffer)

pub loop-j-preserved : goal.loop-j-preserved
loop-j-preserved c =
    let a = c.args in
    let g = goal.at.loop-j-preserved c in
    let n = counts g.After-number_of-used in
    let value = c.coefficients_from-counted.result + 1 + c.number_of-used.result + c.loop-j.j in
    let e : value ≡ a.at + arrays_from + used_of a.columns (drop a.at a.rows.now) + c.loop-j.j = omega (arith, c.coefficients_from-counted.ensures, n) in
    let x : SFits w32 (word a.rows.now value) = search rules in
    part_stored a.columns a.rows.now a.at c.requires.sparse_row_form c.requires.rows_in_bounds c.loop-j.j (omega (arith, n)) a.buffer.now a.from c.loop-j.invariant (column g.After-number_of-column) (to_z-of_z x ∙ ap (word a.rows.now) e)

pub returns : goal.returns
returns c =
    let a = c.args in
    let e : c.loop-j.j ≡ used_of a.columns (drop a.at a.rows.now) = omega (arith, counts (goal.at.returns c).After-number_of-used) in
    c.loop-j.invariant ∙ ap (sets a.buffer.now a.from) (ap (part_of a.columns a.rows.now a.at) e ∙ part_all a.columns a.rows.now a.at c.requires.sparse_row_form c.requires.rows_in_bounds)
