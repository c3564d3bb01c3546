-- A weighted row is stored, entry by entry: before entry i the target has the row's entries, from there on its own.
use Rattle.std.proofs.Common.{◌≡◌, ◌++◌, drop}
use Rattle.rows.specs.Rows.{scale}
use Rattle.row_buffers.specs.HeldRows.{held_row}
use Rattle.row_buffers.specs.Spread.{spread}
use Rattle.row_buffers.proofs.first_row.Given as goal

abbrev pub invariant-loop-i : goal.invariant-loop-i
invariant-loop-i l = l.target ≡ spread l.i (scale l.weight (held_row l.columns l.rows)) ++ drop l.i l.fn.target
