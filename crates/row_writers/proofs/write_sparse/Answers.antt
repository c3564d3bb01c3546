-- `write_sparse` meets its contract: the constant's words, the count and the arrays stand one behind the other, which are the row's sparse words.
use Rattle.std.proofs.Common.{◌≡◌, ◌+◌, ◌≤◌, length, drop, length-set, arith, sym, w32}
use mir.Facts.{to_z_pos}
use Rattle.words.specs.RowWords.{row_of}
use Rattle.words.specs.SparseRows.{sparse_size}
use Rattle.words.specs.SparseCode.{sparse_code}
use Rattle.row_writers.specs.WholeRows.{sparse_size_lem, sparse_written}
use Rattle.row_writers.proofs.write_sparse.Goals as goal
use Rattle.row_writers.proofs.write_sparse.Goals.{After-used_from-used}

-- all words find their place
module _ (c : After-used_from-used) where
  size : length (sparse_code (row_of c.args.columns (drop c.args.at c.args.rows.now))) ≡ sparse_size c.used_from-used.result
  size = sparse_size_lem c.args.columns c.args.rows.now c.args.at c.coefficients_from-from.ensures c.used_from-used.ensures.value c.requires.columns_in_bounds

  room : c.args.to + sparse_size c.used_from-used.result ≤ length c.args.buffer.now
  room = omega (arith, c.requires.rows_in_bounds, size)

pub write_constant-requires-clause-constant_words_in_bounds_2 : goal.write_constant-requires-clause-constant_words_in_bounds_2
write_constant-requires-clause-constant_words_in_bounds_2 c = omega (arith, room (goal.at.write_constant-requires-clause-constant_words_in_bounds_2 c).After-used_from-used)

pub bounds-buffer-counted : goal.bounds-buffer-counted
bounds-buffer-counted c = omega (arith, c.coefficients_from-counted.ensures, room (goal.at.bounds-buffer-counted c).After-used_from-used, c.write_constant.auto.buffer)

-- the buffer with the constant and the count is as long as it was
pub write_arrays-requires-clause-used_in_bounds : goal.write_arrays-requires-clause-used_in_bounds
write_arrays-requires-clause-used_in_bounds c = simp length-set (omega (arith, room (goal.at.write_arrays-requires-clause-used_in_bounds c).After-used_from-used, c.write_constant.auto.buffer))

pub returns-clause-value : goal.returns-clause-value
returns-clause-value c = sym (size (goal.at.returns-clause-value c).After-used_from-used)

pub returns-clause-buffer_after : goal.returns-clause-buffer_after
returns-clause-buffer_after c =
    let a = c.args in
    sparse_written a.columns a.rows.now a.at c.coefficients_from-from.ensures c.used_from-used.ensures.value a.buffer.now a.to c.coefficients_from-counted.ensures c.write_constant.ensures (to_z_pos w32 (omega (arith, c.used_from-used.ensures.upper_bound))) c.write_arrays.ensures
