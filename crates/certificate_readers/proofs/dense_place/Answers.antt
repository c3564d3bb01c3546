-- A turn goes over one more disjunct, which is what `disjunct_words` gives.
use Rattle.std.proofs.Common.{arith, refl}
use Rattle.certificates.specs.CertificateWords.{disjuncts_end}
use Rattle.certificate_readers.specs.DisjunctEnds.{end_next}
use Rattle.certificate_readers.proofs.dense_place.Goals as goal

pub loop-i-init : goal.loop-i-init
unfolding disjuncts_end
loop-i-init c = record { near = omega arith; ends = refl }

pub loop-i-preserved : goal.loop-i-preserved
loop-i-preserved c = record { near = omega arith; ends = rw end_next (cc) }
