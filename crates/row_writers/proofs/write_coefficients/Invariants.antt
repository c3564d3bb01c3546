-- After j turns the first j coefficients stand in their columns, over the zeros.
use Rattle.std.proofs.Common.{◌≡◌}
use Rattle.std.proofs.lemmas.List.Edits.{sets}
use Rattle.row_writers.specs.DenseRows.{part_of}
use Rattle.row_writers.proofs.write_coefficients.Given as goal

abbrev pub invariant-loop-j : goal.invariant-loop-j
invariant-loop-j l = l.buffer ≡ sets l.fn.buffer l.from (part_of l.columns l.rows l.at l.j)
