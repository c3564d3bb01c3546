-- After i turns the loop stands at the end of i disjuncts, and knows whether their rows vary.
use Rattle.std.proofs.Common.{◌≡◌, ◌+◌, ◌*◌, ◌≤◌, drop}
use Rattle.words.specs.declared.StoredForm.TheVariants.{Dense}
use Rattle.certificates.specs.Certificate.{edges_vary}
use Rattle.certificates.specs.CertificateWords.{disjuncts_of, disjuncts_end}
use Rattle.certificate_form.proofs.entries.disjuncts_vary.Given as goal

abbrev pub invariant-loop-i : goal.invariant-loop-i
invariant-loop-i l = record {
  near : l.place ≤ l.at + l.i * 4193;
  ends : l.place ≡ disjuncts_end Dense l.rows l.columns l.i l.at;
  vary : l.all ≡ edges_vary (disjuncts_of Dense l.columns l.i (drop l.at l.rows));
}
