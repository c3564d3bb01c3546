-- The certificates and traces whose answers pin the definitions, through the whole check: the lists of `certificates` and `traces`, by
-- computation, with a result buffer of one number. And which input a refusal is about.
use Rattle.std.specs.Prelude.{◌≡◌, List, [], ◌∷◌}
use Rattle.certificates.specs.AnsweredCertificates as certificates
use Rattle.certificates.specs.AnsweredSparse as sparse
use Rattle.traces.specs.AnsweredTraces as traces
use Rattle.checker.specs.Check.{check}

unfoldable pub CertificatesChecked : List certificates.Case → Type 0
CertificatesChecked [] = Unit
CertificatesChecked (c ∷ cs) = (check c.program c.certificate 1 ≡ c.answer) × CertificatesChecked cs

unfoldable pub TracesChecked : List traces.Case → Type 0
TracesChecked [] = Unit
TracesChecked (c ∷ cs) = (check c.program c.witness 1 ≡ c.answer) × TracesChecked cs
