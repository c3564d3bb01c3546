-- After i turns the loop stands at the end of i disjuncts, and knows whether they pass.
use Rattle.std.proofs.Common.{◌≡◌, ◌+◌, ◌*◌, ◌≤◌}
use Rattle.words.specs.declared.StoredForm.TheVariants.{Dense}
use Rattle.certificates.specs.CertificateWords.{disjuncts_end}
use Rattle.certificates.specs.CertificateTests.{disjuncts_pass}
use Rattle.certificate_form.proofs.entries.disjuncts_pass.Given as goal

abbrev pub invariant-loop-i : goal.invariant-loop-i
invariant-loop-i l = record {
  near : l.place ≤ l.at + l.i * 4193;
  ends : l.place ≡ disjuncts_end Dense l.rows l.columns l.i l.at;
  pass : l.all ≡ disjuncts_pass Dense l.rows l.columns l.i l.at;
}
