-- `write_kept` meets its contract: by the byte it is `write_disjunct`, or nothing is written.
use Rattle.std.proofs.Common.{refl}
use Rattle.kept_rows.specs.KeptCode.{one_kept, one_dropped}
use Rattle.kept_rows.proofs.write_kept.Goals as goal

pub returns-then-byte-eq-KEPT-clause-value : goal.returns-then-byte-eq-KEPT-clause-value
returns-then-byte-eq-KEPT-clause-value c = let a = c.args in rw (one_kept a.form a.columns a.rows.now a.at c.if-byte-eq-KEPT.true) c.write_disjunct.ensures.value

pub returns-then-byte-eq-KEPT-clause-buffer_after : goal.returns-then-byte-eq-KEPT-clause-buffer_after
returns-then-byte-eq-KEPT-clause-buffer_after c = let a = c.args in rw (one_kept a.form a.columns a.rows.now a.at c.if-byte-eq-KEPT.true) c.write_disjunct.ensures.buffer_after

pub returns-clause-value : goal.returns-clause-value
returns-clause-value c = let a = c.args in rw (one_dropped a.form a.columns a.rows.now a.at c.if-byte-eq-KEPT.false) refl

pub returns-clause-buffer_after : goal.returns-clause-buffer_after
returns-clause-buffer_after c = let a = c.args in rw (one_dropped a.form a.columns a.rows.now a.at c.if-byte-eq-KEPT.false) (λ h. refl)
