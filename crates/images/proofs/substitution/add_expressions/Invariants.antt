-- After i turns the first i expressions are added.
use Rattle.std.proofs.Common.{drop}
use Rattle.rows.specs.Rows.{substitute_all}
use Rattle.rows.specs.Columns.{columns as block}
use Rattle.words.specs.RowWords.{rows_of}
use Rattle.images.specs.Sums.{Summed}
use Rattle.images.proofs.substitution.add_expressions.Given as goal

abbrev pub invariant-loop-i : goal.invariant-loop-i
invariant-loop-i l = Summed l.rows l.columns l.at l.i (substitute_all (block l.k l.k) (rows_of l.k l.i (drop l.place l.words))) l.fn.target l.target
