-- What is written for an accepted certificate: "that result is accepted, keeps exactly that least set, and trimming it again changes nothing". It is read
-- again as what is left of the certificate and of its witnesses, which work (trimming/TrimmedWorks) and stay when they are trimmed again
-- (trimming/TrimmedAgain). A certificate of either kind is trimmed, since both are read as disjuncts and witnesses.
use Rattle.std.specs.Prelude.{◌≡◌, ℕ, ◌+◌, ◌≤◌, ◌<◌, pos, length}
use mathlib.Core.List.{List}
use Rattle.std.proofs.Math.IntN.{ℤ}
use Rattle.words.specs.declared.StoredForm.TheVariants.{Dense}
use Rattle.words.specs.Limits.{most_words}
use Rattle.words.specs.Writing.{written, buffer_after}
use Rattle.programs.specs.Program.{Program}
use Rattle.programs.specs.Decode as decode
use Rattle.certificates.specs.Certificate.{Certificate}
use Rattle.certificates.specs.CertificateWords.{R, entries, entry_place_word, next_free, witness_words, certificate}
use Rattle.certificates.specs.CertificateForm.{FormIn}
use Rattle.certificates.specs.Entailments.{entailments}
use Rattle.certificates.specs.Sources.{Entry, edges_of}
use Rattle.certificates.specs.Witnesses.{Witness, encode_all}
use Rattle.trimming.specs.Kept.{Flags, Exactly}
use Rattle.trimming.specs.KeptMembers.{kept_from}
use Rattle.checker.specs.Demand2.{Accepted, Witnessed}
use Rattle.checker.specs.ListedWitnesses.{listed_witnesses}
use Rattle.trimmed_words.specs.Trim.{listed_uses, least_set, certificate_left, witnesses_left, trimmed_words, trim}

-- ---- of the words that are written, where the certificate is accepted and they are not too many

module _ (program witness : List ℤ) (count : ℕ) (a : Witnessed program witness count) (short : length (trimmed_words program witness) ≤ most_words) where
  abbrev pub p : Program
  p = decode.program program

  abbrev pub c : Certificate
  c = certificate program witness

  abbrev pub F : Flags
  F = least_set program witness

  abbrev pub ws : List Witness
  ws = listed_witnesses program witness

  abbrev pub left : Certificate
  left = certificate_left program witness

  abbrev pub ws' : List Witness
  ws' = witnesses_left program witness

  abbrev pub after : List ℤ
  after = trimmed_words program witness

-- ---- what trimming gives

-- what the words are that are written for a certificate
pub record Trims (program witness words : List ℤ) : Type 0 where
  -- "that result is accepted", with as many entailments as what is left of the certificate has, which are not more than before
  pub accepted : (values : ℕ) → Accepted program words values (length (entailments (decode.program program) (certificate_left program witness)))
  pub fewer : (values count : ℕ) → Accepted program witness values count → length (entailments (decode.program program) (certificate_left program witness)) ≤ count
  -- it is "a dense certificate"
  pub dense : FormIn program words Dense
  -- it "keeps exactly that least set", in order, with the witnesses of the entailments that are left, whose numbers are adjusted
  pub least : Exactly (listed_uses program witness) (least_set program witness)
  pub disjuncts : (t : Entry) → edges_of (certificate program words) t ≡ kept_from (least_set program witness t) 0 (edges_of (certificate program witness) t)
  pub witnesses : witness_words program words ≡ encode_all (witnesses_left program witness)
  -- "rows are unshared, each entry at the next free place", and no row word is left
  pub next : (i : ℕ) → i < entries program words → entry_place_word program words (i + 1) ≡ pos (next_free program words Dense i)
  pub used : next_free program words Dense (entries program words) ≡ R program words
  -- "trimming it again changes nothing"
  pub again : (buffer : ℕ) → length words ≤ buffer → trim program words buffer ≡ written words

-- ---- the buffer afterwards

module _ (program witness buffer : List ℤ) where
  abbrev pub buffer_trimmed : List ℤ
  buffer_trimmed = buffer_after (trim program witness (length buffer)) buffer
