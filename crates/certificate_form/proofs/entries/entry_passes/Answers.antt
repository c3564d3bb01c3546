-- `certificate_form::entry_passes` meets its contract: it is the definition's conjunction, part by part.
use Rattle.certificates.specs.CertificateTests.{entry_passes_of}
use Rattle.certificate_form.proofs.entries.entry_passes.Goals as goal

pub returns : goal.returns
unfolding entry_passes_of
returns c =
    simp (
      c.disjuncts_pass-disjuncts.ensures,
      c.entry_place-place.ensures.value,
      c.entry_count-count.ensures.value,
      c.word_within-placed.ensures,
      c.word_within-counted.ensures,
    )
