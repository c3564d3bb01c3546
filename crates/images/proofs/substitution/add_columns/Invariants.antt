-- After i turns the first i columns are added.
use Rattle.rows.specs.Columns.{columns as block}
use Rattle.images.specs.Sums.{Summed}
use Rattle.images.proofs.substitution.add_columns.Given as goal

abbrev pub invariant-loop-i : goal.invariant-loop-i
invariant-loop-i l = Summed l.rows l.columns l.at l.i (block l.c l.i) l.fn.target l.target
