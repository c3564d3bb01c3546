-- After i turns the words of i entries are counted.
use Rattle.std.proofs.Common.{◌*◌, ◌≤◌}
use Rattle.converters.specs.OtherEntries.{entries_other}
use Rattle.layout_writers.specs.Runs.{Counted}
use Rattle.converters.proofs.sizes.entries_size.Given as goal

abbrev pub invariant-loop-i : goal.invariant-loop-i
invariant-loop-i l = record {
  few : l.size ≤ 33544 * l.i;
  counted : Counted (entries_other l.program l.certificate l.form 0) (entries_other l.program l.certificate l.form l.i) l.size;
}
