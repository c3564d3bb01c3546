-- After i turns the words of i rows are counted, and the others stand from `from` on.
use Rattle.std.proofs.Common.{◌*◌, ◌-◌, ◌≤◌}
use Rattle.certificate_readers.specs.Disjuncts.{RowsInside}
use Rattle.layout_writers.specs.OtherCode.{rows_other}
use Rattle.layout_writers.specs.Runs.{Counted}
use Rattle.converters.proofs.sizes.rows_size.Given as goal

abbrev pub invariant-loop-i : goal.invariant-loop-i
invariant-loop-i l = record {
  near : l.size ≤ 131 * l.i;
  left : RowsInside l.form l.columns l.rows l.from (l.count - l.i);
  counted : Counted (rows_other l.form l.columns l.rows l.at l.count) (rows_other l.form l.columns l.rows l.from (l.count - l.i)) l.size;
}
