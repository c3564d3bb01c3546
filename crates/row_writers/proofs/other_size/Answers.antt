-- `other_size` meets its contract, by the form: a sparse row is as long as its count says, and a dense one as its columns say.
use Rattle.std.proofs.Common.{sym, ◌∙◌}
use Rattle.row_writers.specs.WholeRows.{sparse_size_lem, dense_size}
use Rattle.row_writers.proofs.other_size.Goals as goal

pub returns-in-Dense-clause-value : goal.returns-in-Dense-clause-value
returns-in-Dense-clause-value c =
    let a = c.args in
    let e = c.in-Dense.is in
    rw e (sym (sparse_size_lem a.columns a.rows.now a.at c.coefficients_from.ensures c.used_from-used.ensures.value (rw e at c.requires.rows_in_bounds)))

pub returns-in-Sparse-clause-value : goal.returns-in-Sparse-clause-value
returns-in-Sparse-clause-value c =
    let a = c.args in
    let e = c.in-Sparse.is in
    rw e (c.row_words.ensures ∙ sym (dense_size a.columns a.rows.now a.at (rw e at c.requires.row_form_in) (rw e at c.requires.rows_in_bounds)))
