-- A weighted row is added, entry by entry: before entry i the target has the sum's entries, from there on its own.
use Rattle.std.proofs.Common.{◌≡◌, ◌++◌, drop}
use Rattle.row_buffers.specs.Spread.{spread}
use Rattle.row_buffers.proofs.Adding.{sum}
use Rattle.row_buffers.proofs.add_row.Given as goal

abbrev pub invariant-loop-i : goal.invariant-loop-i
invariant-loop-i l = l.target ≡ spread l.i (sum l.rows l.columns l.j l.weight l.fn.target) ++ drop l.i l.fn.target
