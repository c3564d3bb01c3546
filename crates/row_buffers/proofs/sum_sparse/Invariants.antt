-- Weighted sparse rows are added to zeros, row by row, each from where it stands: after j of them the target has the sum of the first j.
use Rattle.std.proofs.Common.{◌≡◌}
use Rattle.row_buffers.specs.Spread.{written}
use Rattle.row_buffers.specs.PlacedRows.{placed_rows}
use Rattle.row_buffers.proofs.Adding.{so_far}
use Rattle.row_buffers.proofs.sum_sparse.Given as goal

abbrev pub invariant-loop-j : goal.invariant-loop-j
invariant-loop-j l =
    l.target ≡ written l.columns (so_far l.columns (placed_rows l.m l.stored l.n l.places) l.words l.from l.initial.target l.j) l.initial.target
