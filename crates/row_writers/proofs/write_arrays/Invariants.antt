-- After j turns the arrays of the first j coefficients stand in the buffer.
use Rattle.std.proofs.Common.{◌≡◌, ◌+◌, length, take, drop}
use Rattle.words.specs.UsedColumns.{used_coefficients}
use Rattle.row_writers.specs.Arrays.{arrays_after}
use Rattle.row_writers.proofs.write_arrays.Given as goal

abbrev pub invariant-loop-j : goal.invariant-loop-j
invariant-loop-j l = record {
  at : l.place ≡ l.first + length (used_coefficients (take l.j (drop l.from l.rows)));
  stored : l.buffer ≡ arrays_after l.rows l.from l.initial.buffer l.first l.used l.j;
}
