-- After j turns it has the count of the first j coefficients.
use Rattle.std.proofs.Common.{◌≡◌, length, take, drop}
use Rattle.words.specs.UsedColumns.{used_coefficients}
use Rattle.row_writers.proofs.used_from.Given as goal

abbrev pub invariant-loop-coefficient : goal.invariant-loop-coefficient
invariant-loop-coefficient l = l.used ≡ length (used_coefficients (take l.coefficient-index (drop l.from l.rows)))
