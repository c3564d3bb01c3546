-- Weighted rows are added, row by row, to the first: after j of them the target has the sum of the first j. A row that is stored is one that is
-- added to zeros.
use Rattle.std.proofs.Common.{◌≡◌}
use Rattle.row_buffers.specs.HeldRows.{held_rows}
use Rattle.row_buffers.specs.Spread.{written}
use Rattle.row_buffers.proofs.Adding.{so_far}
use Rattle.row_buffers.proofs.Starting.{cleared}
use Rattle.row_buffers.proofs.sum_rows.Given as goal

abbrev pub invariant-loop-j : goal.invariant-loop-j
invariant-loop-j l =
    l.target ≡ written l.columns (so_far l.columns (held_rows l.columns l.n l.rows) l.words l.from (cleared l.columns l.initial.target) l.j) (cleared l.columns l.initial.target)
