-- Each coefficient is stored in its column, over the zeros behind the constant.
use Rattle.std.proofs.Common.{◌≡◌}
use Rattle.row_buffers.specs.Spread.{written}
use Rattle.row_buffers.specs.Scattered.{part_row}
use Rattle.row_buffers.proofs.spread_row.Given as goal

abbrev pub invariant-loop-j : goal.invariant-loop-j
invariant-loop-j l = l.target ≡ written l.columns (part_row l.m l.words l.place l.j) l.fn.target
