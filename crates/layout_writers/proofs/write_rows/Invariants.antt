-- After i turns the words of i rows are written, and the others stand from `from` on.
use Rattle.std.proofs.Common.{◌-◌}
use Rattle.certificate_readers.specs.Disjuncts.{RowsInside}
use Rattle.layout_writers.specs.OtherCode.{rows_other}
use Rattle.layout_writers.specs.Runs.{Written}
use Rattle.layout_writers.proofs.write_rows.Given as goal

abbrev pub invariant-loop-i : goal.invariant-loop-i
invariant-loop-i l = record {
  left : RowsInside l.form l.columns l.rows l.from (l.count - l.i);
  run : Written l.initial.buffer l.buffer l.to (rows_other l.form l.columns l.rows l.at l.count) (rows_other l.form l.columns l.rows l.from (l.count - l.i)) l.size;
}
