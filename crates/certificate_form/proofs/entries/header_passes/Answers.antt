-- `certificate_form::header_passes` meets its contract: it is the definition's conjunction, part by part.
use Rattle.certificates.specs.CertificateTests.{header_passes_of}
use Rattle.certificate_form.proofs.entries.header_passes.Goals as goal

pub returns : goal.returns
unfolding header_passes_of
returns c =
    simp (
      c.number_at-witness_words.ensures.value,
      c.number_at-row_words.ensures.value,
      c.rows_start-start.ensures,
      c.word_within-witness_range.ensures,
      c.word_within-rows_range.ensures,
      c.word_within-mark.ensures,
      c.mark_of-kind.ensures,
    )
