-- After j turns the first j rows are copied, and what lies behind them is as it was: a row is written into the part of the buffer behind the rows
-- before, so these are kept.
use Rattle.std.proofs.Common.{◌≡◌, ◌++◌, ◌*◌, drop}
use Rattle.words.specs.RowWords.{rows_of}
use Rattle.row_buffers.specs.HeldRows.{stride}
use Rattle.row_buffers.specs.FlatRows.{flat_rows}
use Rattle.premises.proofs.copy_dense.Given as goal

abbrev pub invariant-loop-j : goal.invariant-loop-j
invariant-loop-j l = l.premises ≡ flat_rows l.columns (rows_of l.m l.j (drop l.from l.rows)) ++ drop (l.j * stride l.columns) l.fn.premises
