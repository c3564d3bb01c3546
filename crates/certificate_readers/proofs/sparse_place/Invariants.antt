-- After i turns the loop stands at the end of i disjuncts; each of them stands in the row words, since it has passed test 5.
use Rattle.std.proofs.Common.{◌≡◌}
use Rattle.certificates.specs.CertificateWords.{disjuncts_end}
use Rattle.words.specs.declared.StoredForm.TheVariants.{Sparse}
use Rattle.certificate_readers.proofs.sparse_place.Given as goal

abbrev pub invariant-loop-i : goal.invariant-loop-i
invariant-loop-i l = l.at ≡ disjuncts_end Sparse l.rows l.m l.i l.place
