-- The row's entries are stored one after the other, and zeros behind them: it has no coefficient there.
use Rattle.std.proofs.Common.{◌≡◌, ◌++◌, ◌+◌, drop}
use Rattle.words.specs.RowWords.{row_of}
use Rattle.row_buffers.specs.Spread.{spread}
use Rattle.row_buffers.proofs.copy_row.Given as goal

abbrev pub invariant-loop-i : goal.invariant-loop-i
invariant-loop-i l = l.target ≡ spread (1 + l.i) (row_of l.m (drop l.place l.words)) ++ drop (1 + l.i) l.fn.target
