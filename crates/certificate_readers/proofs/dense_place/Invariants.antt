-- After i turns the loop stands at the end of i disjuncts.
use Rattle.std.proofs.Common.{◌≡◌, ◌≤◌, ◌+◌, ◌*◌}
use Rattle.certificates.specs.CertificateWords.{disjuncts_end}
use Rattle.words.specs.declared.StoredForm.TheVariants.{Dense}
use Rattle.certificate_readers.proofs.dense_place.Given as goal

abbrev pub invariant-loop-i : goal.invariant-loop-i
invariant-loop-i l = record {
  near : l.p ≤ l.place + l.i * 4193;
  ends : l.p ≡ disjuncts_end Dense l.rows l.m l.i l.place;
}
