-- After j turns the first j rows are spread, the next one stands where these end, and what lies behind them in the buffer is as it was: a row is written
-- into the part of the buffer behind the rows before, so these are kept.
use Rattle.std.proofs.Common.{◌≡◌, ◌++◌, ◌+◌, ◌*◌, drop}
use Rattle.words.specs.SparseRows.{sparse_rows_of, sparse_words}
use Rattle.row_buffers.specs.HeldRows.{stride}
use Rattle.row_buffers.specs.FlatRows.{flat_rows}
use Rattle.premises.proofs.sparse.spread_rows.Given as goal

abbrev pub invariant-loop-j : goal.invariant-loop-j
invariant-loop-j l = record {
  next : l.place ≡ l.from + sparse_words l.m l.j (drop l.from l.rows);
  is : l.premises ≡ flat_rows l.columns (sparse_rows_of l.m l.j (drop l.from l.rows)) ++ drop (l.j * stride l.columns) l.fn.premises;
}
