-- After i turns the first i disjuncts have passed test 5, and `place` is where they end.
use Rattle.std.proofs.Common.{◌≡◌, ◌^◌, ◌≤◌, true}
use Rattle.words.specs.declared.StoredForm.TheVariants.{Sparse}
use Rattle.certificates.specs.CertificateWords.{disjuncts_end}
use Rattle.certificates.specs.CertificateTests.{disjuncts_pass, disjuncts_strict}
use Rattle.certificate_form.specs.DisjunctWalks.{disjuncts_filled}
use Rattle.certificate_form.proofs.sparse_entries.disjuncts_walked.Given as goal

abbrev pub invariant-loop-i : goal.invariant-loop-i
invariant-loop-i l = record {
  near : l.place ≤ 2 ^ 32;
  ends : l.place ≡ disjuncts_end Sparse l.rows l.columns l.i l.at;
  pass : disjuncts_pass Sparse l.rows l.columns l.i l.at ≡ true;
  strictly : l.strict ≡ disjuncts_strict Sparse l.rows l.columns l.i l.at;
  filling : l.filled ≡ disjuncts_filled l.rows l.columns l.i l.at;
}
