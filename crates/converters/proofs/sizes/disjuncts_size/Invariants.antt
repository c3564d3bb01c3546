-- After i turns the words of i disjuncts are counted, and the others stand from `from` on.
use Rattle.std.proofs.Common.{◌+◌, ◌*◌, ◌-◌, ◌≤◌}
use Rattle.certificates.specs.CertificateForm.{DisjunctsForm}
use Rattle.layout_writers.specs.OtherCode.{disjuncts_other}
use Rattle.layout_writers.specs.Runs.{Counted}
use Rattle.converters.proofs.sizes.disjuncts_size.Given as goal

abbrev pub invariant-loop-i : goal.invariant-loop-i
invariant-loop-i l = record {
  near : l.from ≤ l.at + 4193 * l.i;
  few : l.size ≤ 4193 * l.i;
  left : DisjunctsForm l.form l.rows l.columns (l.count - l.i) l.from;
  counted : Counted (disjuncts_other l.form l.columns l.rows l.at l.count) (disjuncts_other l.form l.columns l.rows l.from (l.count - l.i)) l.size;
}
