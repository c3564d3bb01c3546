-- After j turns the kept ones of j disjuncts are counted, and written where all fit; the others stand from `from` on.
use Rattle.std.proofs.Common.{◌+◌, ◌*◌, ◌-◌, ◌≤◌}
use Rattle.certificates.specs.CertificateForm.{DisjunctsForm}
use Rattle.layout_writers.specs.Runs.{Fitted}
use Rattle.kept_rows.specs.KeptCode.{kept_disjuncts}
use Rattle.kept_rows.proofs.write_disjuncts.Given as goal

abbrev pub invariant-loop-j : goal.invariant-loop-j
invariant-loop-j l = record {
  near : l.from ≤ l.at + 4193 * l.j;
  few : l.size ≤ 2113 * l.j;
  left : DisjunctsForm l.form l.rows l.columns (l.count - l.j) l.from;
  run : Fitted l.initial.buffer l.buffer l.to (kept_disjuncts l.flags l.form l.columns l.rows l.at 0 l.count) (kept_disjuncts l.flags l.form l.columns l.rows l.from l.j (l.count - l.j)) l.size;
}
