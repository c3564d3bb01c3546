-- Weighted rows are added, row by row: after j of them the target has its own row and the sum of the first j.
use Rattle.std.proofs.Common.{◌≡◌}
use Rattle.row_buffers.specs.HeldRows.{held_rows}
use Rattle.row_buffers.specs.Spread.{written}
use Rattle.row_buffers.proofs.Adding.{so_far}
use Rattle.row_buffers.proofs.add_rows.Given as goal

abbrev pub invariant-loop-j : goal.invariant-loop-j
invariant-loop-j l =
    l.target ≡ written l.columns (so_far l.columns (held_rows l.columns l.n l.rows) l.words l.from l.fn.target l.j) l.fn.target
