-- By the form.
use Rattle.certificates.specs.CertificateTests.{rows_used_of}
use Rattle.certificate_form.proofs.rows_used.Goals as goal

pub returns-in-Dense : goal.returns-in-Dense
unfolding rows_used_of
returns-in-Dense c = rw c.in-Dense.is

pub returns-in-Sparse : goal.returns-in-Sparse
unfolding rows_used_of
returns-in-Sparse c = rw c.in-Sparse.is
