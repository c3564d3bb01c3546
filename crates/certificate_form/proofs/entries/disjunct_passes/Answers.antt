-- `certificate_form::disjunct_passes` meets its contract: it is the definition's conjunction, part by part.
use Rattle.certificates.specs.CertificateTests.{disjunct_passes}
use Rattle.certificate_form.proofs.entries.disjunct_passes.Goals as goal

pub returns : goal.returns
unfolding disjunct_passes
returns c = simp (c.rows_pass-small.ensures, c.number_at-count.ensures.value, c.disjunct_words-size.ensures.value, c.word_within-counted.ensures)
