-- Trimming over the words, document 02, CR 11: "Write into a lent room a dense certificate cut down to what is used". "It refuses what the judge refuses,
-- by the same number and place, any kind but 1 and 4 with refusal 4, and too little room or a longer result with 26 at 0 after those." "A refusal
-- writes nothing .. else the sheet stands at the room's front, its word count is answered and the rest stays": words/Writing.
use Rattle.std.specs.Prelude.{ℕ, List, [], ◌∷◌, ℤ}
use Rattle.std.proofs.Math.Option.{Option, some}
use Rattle.words.specs.declared.StoredForm.TheVariants.{Dense}
use Rattle.words.specs.Tests.{Refusal, refusal_at, first_failure}
use Rattle.words.specs.Answer.{Answer, safe, trace, refused}
use Rattle.words.specs.Writing.{Writing, writing_after, buffer_test}
use Rattle.certificates.specs.Certificate.{Certificate}
use Rattle.certificates.specs.CertificateWords.{certificate}
use Rattle.certificates.specs.Witnesses.{Witness, encode_all}
use Rattle.layouts.specs.Layout.{entries_of, layout}
use Rattle.trimming.specs.Kept.{Use, uses_of, Flags}
use Rattle.trimming.specs.KeptFlags.{kept_flags}
use Rattle.trimming.specs.Trimmed.{trimmed, trimmed_witnesses}
use Rattle.checker.specs.Check.{judged}
use Rattle.checker.specs.ListedWitnesses.{listed_sources, listed_witnesses}

module _ (program witness : List ℤ) where
  -- "what is used": the least set
  abbrev pub listed_uses : List Use
  listed_uses = uses_of (listed_sources program witness) (listed_witnesses program witness)

  abbrev pub least_set : Flags
  least_set = kept_flags listed_uses

  -- what is left of the certificate and of its witnesses
  abbrev pub certificate_left : Certificate
  certificate_left = trimmed least_set (certificate program witness)

  abbrev pub witnesses_left : List Witness
  witnesses_left = trimmed_witnesses least_set (listed_sources program witness) (listed_witnesses program witness)

  -- "a dense certificate .. rows are unshared, each entry at the next free place": the dense layout, which CR 9's converters write too
  unfoldable pub trimmed_words : List ℤ
  trimmed_words = layout Dense (entries_of certificate_left) (encode_all witnesses_left)

-- the refusal: the judge's, and after those 26; the judge answers no trace, which is a kind but 1 and 4
unfoldable pub trim_failure : Answer → List ℤ → ℕ → Option Refusal
trim_failure (refused r) words buffer = some r
trim_failure (trace steps) words buffer = some (refusal_at 4 0)
trim_failure (safe count) words buffer = first_failure (buffer_test words buffer ∷ [])

-- what is written into a buffer of so many words
unfoldable pub trim : List ℤ → List ℤ → ℕ → Writing
trim program witness buffer = writing_after (trim_failure (judged program witness) (trimmed_words program witness) buffer) (trimmed_words program witness)
