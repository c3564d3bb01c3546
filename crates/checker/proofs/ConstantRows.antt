-- "The entries of accepted certificates contain none": no row of an accepted certificate's path or summary edges is constant, for a certificate
-- that is answered safe has the form.
use Rattle.std.specs.Prelude.{List, ℕ, ℤ}
use Rattle.certificates.specs.Certificate.{path_edges, summary_edges}
use Rattle.certificates.specs.CertificateWords.{stored_form, certificate}
use Rattle.certificates.specs.ConstantRows.{HasConstant}
use Rattle.certificates.proofs.ConstantRows.{path_varies, summary_varies}
use Rattle.checker.specs.Demand2.{Accepted}
use Rattle.checker.proofs.Demand2.{safe_answered}

module _ (program witness : List ℤ) (buffer count : ℕ) (a : Accepted program witness buffer count) where
  pub accepted_paths_vary : (v : ℕ) → ¬ HasConstant (path_edges (certificate program witness) v)
  accepted_paths_vary = path_varies program witness (stored_form witness) ((safe_answered program witness buffer count).0 a).forms.certificate_form

  pub accepted_summaries_vary : (q : ℕ) → ¬ HasConstant (summary_edges (certificate program witness) q)
  accepted_summaries_vary = summary_varies program witness (stored_form witness) ((safe_answered program witness buffer count).0 a).forms.certificate_form
