-- No entry tested so far fails, and `free` is the next free place.
use Rattle.std.proofs.Common.{◌≡◌}
use Rattle.std.proofs.Math.Option.{none}
use Rattle.basics.specs.Lists.{gathered}
use Rattle.words.specs.Tests.{first_failure}
use Rattle.certificates.specs.CertificateTests.{entry_tests}
use Rattle.certificate_form.specs.FreePlaces.{Free}
use Rattle.certificate_form.proofs.certificate_tested.Given as goal

abbrev pub invariant-loop-i : goal.invariant-loop-i
invariant-loop-i l = record {
  pass : first_failure (gathered (entry_tests l.program l.witness l.form) l.i) ≡ none;
  next : Free l.program l.witness l.form l.i l.free;
}
