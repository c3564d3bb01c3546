-- `certificate_form::disjuncts_pass` meets its contract. After i turns the loop stands at the end of i disjuncts, and knows whether they pass.
use Rattle.std.proofs.Common.{arith, refl}
use Rattle.certificates.specs.CertificateWords.{disjuncts_end}
use Rattle.certificates.specs.CertificateTests.{disjuncts_pass}
use Rattle.certificate_readers.specs.DisjunctEnds.{end_next}
use Rattle.certificate_form.specs.DisjunctLaws.{pass_next}
use Rattle.certificate_form.proofs.entries.disjuncts_pass.Goals as goal

pub loop-i-init : goal.loop-i-init
unfolding disjuncts_pass disjuncts_end
loop-i-init c = record { near = omega arith; ends = refl; pass = refl }

pub loop-i-preserved : goal.loop-i-preserved
loop-i-preserved c = record { near = omega arith; ends = rw end_next (cc); pass = rw pass_next (cc) }
