-- A weighted sparse row is added, its constant first and then coefficient by coefficient: a column that comes next has the target's own entry.
use Rattle.std.proofs.Common.{◌≡◌}
use Rattle.row_buffers.specs.Spread.{written}
use Rattle.row_buffers.proofs.AddedSparse.{part_sum}
use Rattle.row_buffers.proofs.add_sparse.Given as goal

abbrev pub invariant-loop-j : goal.invariant-loop-j
invariant-loop-j l = l.target ≡ written l.columns (part_sum l.m l.words l.place l.columns l.weight l.fn.target l.j) l.fn.target
