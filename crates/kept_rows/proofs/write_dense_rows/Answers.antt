-- `write_dense_rows` meets its contract: dense rows are their own words, and for sparse ones the other form is the dense one.
use Rattle.std.proofs.Common.{arith, ap, ◌∙◌}
use Rattle.std.proofs.lemmas.List.Edits.{sets}
use Rattle.kept_rows.specs.KeptCode.{own_rows, rows_length_lem}
use Rattle.kept_rows.proofs.write_dense_rows.Goals as goal

pub copy_words-requires-clause-count_in_bounds_2 : goal.copy_words-requires-clause-count_in_bounds_2
copy_words-requires-clause-count_in_bounds_2 c =
    let a = c.args in
    rw c.row_words.ensures (omega (arith, c.requires.count_in_bounds, rows_length_lem a.form a.columns a.rows.now a.at a.count c.requires.rows_inside))

-- the words at hand are those that are written
pub returns-in-Dense : goal.returns-in-Dense
returns-in-Dense c =
    let a = c.args in
    rw c.row_words.ensures at c.copy_words.ensures ∙ ap (sets a.buffer.now a.to) (own_rows a.columns a.rows.now a.at a.count c.in-Dense.is c.requires.rows_inside)
