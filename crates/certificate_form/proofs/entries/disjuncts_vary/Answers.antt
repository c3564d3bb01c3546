-- `certificate_form::disjuncts_vary` meets its contract. After i turns the loop stands at the end of i disjuncts, and knows whether their rows vary.
use Rattle.std.proofs.Common.{arith, refl, sym}
use Rattle.words.specs.declared.StoredForm.TheVariants.{Dense}
use Rattle.certificates.specs.CertificateWords.{disjuncts_end}
use Rattle.certificate_readers.specs.DisjunctEnds.{end_next}
use Rattle.certificate_form.specs.VaryingLaws.{edges_vary_none, edges_vary_next}
use Rattle.certificate_form.proofs.entries.disjuncts_vary.Goals as goal

pub loop-i-init : goal.loop-i-init
unfolding disjuncts_end
loop-i-init c = record { near = omega arith; ends = refl; vary = sym (edges_vary_none Dense c.args.rows.now c.args.columns c.args.at) }

pub loop-i-preserved : goal.loop-i-preserved
loop-i-preserved c = record { near = omega arith; ends = rw end_next (cc); vary = rw edges_vary_next (cc) }
