-- The words of the trimmed certificate, by flags that are exactly the least set: there is one such set, so they are what `trim` writes.
use Rattle.std.specs.Prelude.{◌≡◌, List, ℤ}
use Rattle.std.proofs.Math.Path.{refl}
use Rattle.words.specs.declared.StoredForm.TheVariants.{Dense}
use Rattle.certificates.specs.CertificateWords.{certificate}
use Rattle.certificates.specs.Witnesses.{encode_all}
use Rattle.layouts.specs.Layout.{entries_of, layout}
use Rattle.trimming.specs.Kept.{Flags, Exactly}
use Rattle.trimming.proofs.Kept.{exactly_same}
use Rattle.trimming.proofs.KeptFlags.{kept_flags_lem}
use Rattle.trimming.specs.Trimmed.{trimmed, trimmed_witnesses}
use Rattle.checker.specs.ListedWitnesses.{listed_sources, listed_witnesses}
use Rattle.trimmed_words.specs.Trim.{listed_uses, least_set, trimmed_words}

module _ (program witness : List ℤ) (F : Flags) (e : Exactly (listed_uses program witness) F) where
  same_set : least_set program witness ≡ F
  same_set = exactly_same (listed_uses program witness) (least_set program witness) F (kept_flags_lem (listed_uses program witness)) e

  pub words_are : trimmed_words program witness ≡ layout Dense (entries_of (trimmed F (certificate program witness))) (encode_all (trimmed_witnesses F (listed_sources program witness) (listed_witnesses program witness)))
  unfolding trimmed_words
  words_are = rw same_set refl
