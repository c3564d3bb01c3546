-- `write_dense` meets its contract: the constant's words and the coefficients stand one behind the other, which are the row's dense words.
use Rattle.std.proofs.Common.{◌≡◌, ◌+◌, ◌≤◌, length, drop, arith, sym, ◌∙◌}
use Rattle.words.specs.RowWords.{row_size}
use Rattle.words.specs.RowCode.{row_code}
use Rattle.words.specs.SparseRows.{sparse_row_of}
use Rattle.row_writers.specs.WholeRows.{dense_size, dense_written}
use Rattle.row_writers.proofs.write_dense.Goals as goal
use Rattle.row_writers.proofs.write_dense.Goals.{Start}

size : (c : Start) → length (row_code (sparse_row_of c.args.columns (drop c.args.at c.args.rows.now))) ≡ row_size c.args.columns
size c = dense_size c.args.columns c.args.rows.now c.args.at c.requires.sparse_row_form c.requires.rows_in_bounds

-- all words find their place
room : (c : Start) → c.args.to + row_size c.args.columns ≤ length c.args.buffer.now
room c = omega (arith, c.requires.rows_in_bounds_2, size c)

pub write_constant-requires-clause-constant_words_in_bounds_2 : goal.write_constant-requires-clause-constant_words_in_bounds_2
write_constant-requires-clause-constant_words_in_bounds_2 c = omega (arith, room (goal.at.write_constant-requires-clause-constant_words_in_bounds_2 c).Start)

pub write_coefficients-requires-clause-columns_in_bounds : goal.write_coefficients-requires-clause-columns_in_bounds
write_coefficients-requires-clause-columns_in_bounds c = omega (arith, room (goal.at.write_coefficients-requires-clause-columns_in_bounds c).Start, c.coefficients_from.ensures, c.write_constant.auto.buffer)

pub returns-clause-value : goal.returns-clause-value
returns-clause-value c = c.row_words.ensures ∙ sym (size (goal.at.returns-clause-value c).Start)

pub returns-clause-buffer_after : goal.returns-clause-buffer_after
returns-clause-buffer_after c =
    let a = c.args in
    dense_written a.columns a.rows.now a.at a.buffer.now a.to c.coefficients_from.ensures c.write_constant.ensures c.write_coefficients.ensures
