-- What is written for an accepted certificate: "that result is accepted, keeps exactly that least set, and trimming it again changes nothing". It is read
-- again as what is left of the certificate and of its witnesses, which work (trimming/TrimmedWorks) and stay when they are trimmed again
-- (trimming/TrimmedAgain). A certificate of either kind is trimmed, since both are read as disjuncts and witnesses.
use Rattle.std.specs.Prelude.{◌≡◌, ℕ, ◌+◌, ◌≤◌, ◌<◌, T, pos, length, take, drop}
use Rattle.std.proofs.Common.{sym, ap, ◌∙◌, arith}
use Rattle.std.proofs.Math.Path.{ap₂}
use mathlib.Core.List.{List}
use Rattle.std.proofs.Math.IntN.{ℤ}
use Rattle.std.proofs.lemmas.List.{length-map}
use Rattle.rows.specs.Rows.{fits_constant}
use Rattle.words.specs.declared.StoredForm.TheVariants.{Dense}
use Rattle.words.specs.Limits.{most_words}
use Rattle.words.specs.Tests.{Refusal}
use Rattle.words.specs.Writing.{written, unwritten, buffer_after, word_count}
use Rattle.words.proofs.Writing.{front_after, rest_after, length_after}
use Rattle.programs.specs.Decode as decode
use Rattle.certificates.specs.Certificate.{Certificate}
use Rattle.certificates.specs.CertificateWords.{stored_form, R, entries, entry_place_word, next_free, witness_words, certificate_in, certificate}
use Rattle.certificates.specs.CertificateForm.{FormIn}
use Rattle.certificates.proofs.CertificateForm.{in_form}
use Rattle.certificates.specs.Entailments.{entailments}
use Rattle.certificates.specs.Sources.{edges_of, Sourced, sourced}
use Rattle.certificates.proofs.Sources.{sourced_entailments}
use Rattle.certificates.specs.Witnesses.{Witness, encode_all, all_work}
use Rattle.certificates.specs.ReadWitnesses.{witnesses_in}
use Rattle.certificates.proofs.ReadWitnesses.{witnesses_in_lem}
use Rattle.layouts.specs.Layout.{entries_of, layout}
use Rattle.layouts.specs.LaidOut.{EntriesWithin}
use Rattle.layouts.proofs.LaidOut.{laid_certificate, laid_witness, laid_form, laid_next, laid_all}
use Rattle.trimming.specs.Kept.{uses_of, Flags, Exactly}
use Rattle.trimming.proofs.Kept.{exactly_closed}
use Rattle.trimming.specs.KeptFlags.{kept_flags}
use Rattle.trimming.proofs.KeptFlags.{kept_flags_lem}
use Rattle.trimming.specs.Trimmed.{trimmed, trimmed_witnesses}
use Rattle.trimming.proofs.Trimmed.{trimmed_edges}
use Rattle.trimming.proofs.TrimmedEntailments.{sourced_trimmed, trimmed_fewer}
use Rattle.trimming.proofs.TrimmedWorks.{trimmed_works}
use Rattle.trimming.proofs.TrimmedAgain.{trimmed_again}
use Rattle.checker.specs.Demand2.{Accepted, Witnessed}
use Rattle.checker.proofs.Demand2.{safe_answered}
use Rattle.checker.specs.ListedWitnesses.{listed_witnesses}
use Rattle.checker.proofs.ListedWitnesses.{all_listed}
use Rattle.trimmed_words.specs.Trim.{listed_uses, least_set, certificate_left, trimmed_words, trim}
use Rattle.trimmed_words.proofs.TrimRefusals.{trim_written}
use Rattle.trimmed_words.proofs.TrimmedLayout.{trimmed_within, trimmed_vertices}
use Rattle.trimmed_words.specs.TrimmedAccepted.{F, Trims, after, buffer_trimmed, c, left, p, ws, ws'}

-- ---- of the words that are written, where the certificate is accepted and they are not too many

module _ (program witness : List ℤ) (count : ℕ) (a : Witnessed program witness count) (short : length (trimmed_words program witness) ≤ most_words) where
  -- the witnesses are read, and what is left of them works
  all_work_lem : T (all_work (entailments (p program witness count a short) (c program witness count a short)) (ws program witness count a short))
  all_work_lem = (all_listed program witness count a).work

  exact : Exactly (listed_uses program witness) (F program witness count a short)
  exact = kept_flags_lem (listed_uses program witness)

  left_work : T (all_work (entailments (p program witness count a short) (left program witness count a short)) (ws' program witness count a short))
  left_work = trimmed_works fits_constant (F program witness count a short) (c program witness count a short) (p program witness count a short) (ws program witness count a short) (exactly_closed (listed_uses program witness) (F program witness count a short) exact) all_work_lem

  -- the words are read again
  within : EntriesWithin program (entries_of (left program witness count a short))
  within = trimmed_within program witness (stored_form witness) (F program witness count a short) a.forms.certificate_form

  after_form : FormIn program (after program witness count a short) Dense
  unfolding trimmed_words
  after_form = laid_form program (entries_of (left program witness count a short)) (encode_all (ws' program witness count a short)) within Dense short

  after_read : certificate_in program (after program witness count a short) Dense ≡ (left program witness count a short)
  unfolding trimmed_words
  after_read = laid_certificate program Dense (left program witness count a short) (encode_all (ws' program witness count a short)) within short (trimmed_vertices program witness (stored_form witness) (F program witness count a short))

  after_certificate : certificate program (after program witness count a short) ≡ (left program witness count a short)
  after_certificate = (in_form program (after program witness count a short) Dense after_form).1 ∙ after_read

  after_witness : witness_words program (after program witness count a short) ≡ encode_all (ws' program witness count a short)
  unfolding trimmed_words
  after_witness = laid_witness program Dense (entries_of (left program witness count a short)) (encode_all (ws' program witness count a short)) within short

  after_witnessed : Witnessed program (after program witness count a short) (length (entailments (p program witness count a short) (left program witness count a short)))
  after_witnessed =
      record {
        forms = record { program_form = a.forms.program_form; certificate_form = (in_form program (after program witness count a short) Dense after_form).0 };
        counted = ap (λ (d : Certificate). length (entailments (p program witness count a short) d)) (sym after_certificate);
        witnesses = (ws' program witness count a short);
        work = rw after_certificate left_work;
        spelled = after_witness;
      }

  -- there are not more entailments than before
  after_fewer : length (entailments (p program witness count a short) (left program witness count a short)) ≤ length (entailments (p program witness count a short) (c program witness count a short))
  after_fewer =
      omega (
        arith,
        ap length (sourced_entailments (p program witness count a short) (c program witness count a short)),
        ap length (sourced_entailments (p program witness count a short) (left program witness count a short)),
        length-map (sourced (p program witness count a short) (c program witness count a short)) (λ (x : Sourced). x.entailment),
        length-map (sourced (p program witness count a short) (left program witness count a short)) (λ (x : Sourced). x.entailment),
        ap length (sourced_trimmed (F program witness count a short) (c program witness count a short) (p program witness count a short)),
        trimmed_fewer (F program witness count a short) (c program witness count a short) (sourced (p program witness count a short) (c program witness count a short)),
      )

  -- places
  after_next : (i : ℕ) → i < entries program (after program witness count a short) → entry_place_word program (after program witness count a short) (i + 1) ≡ pos (next_free program (after program witness count a short) Dense i)
  unfolding trimmed_words
  after_next i h = laid_next program Dense (entries_of (left program witness count a short)) (encode_all (ws' program witness count a short)) within short i (omega (arith, within.count))

  after_all : next_free program (after program witness count a short) Dense (entries program (after program witness count a short)) ≡ R program (after program witness count a short)
  unfolding trimmed_words
  after_all = laid_all program Dense (entries_of (left program witness count a short)) (encode_all (ws' program witness count a short)) within short

  -- trimmed again they are the same
  after_again : trimmed_words program (after program witness count a short) ≡ (after program witness count a short)
  unfolding trimmed_words
  after_again =
      let read : listed_witnesses program (after program witness count a short) ≡ (ws' program witness count a short) = ap₂ witnesses_in (ap (entailments (p program witness count a short)) after_certificate) after_witness ∙ witnesses_in_lem fits_constant (entailments (p program witness count a short) (left program witness count a short)) (ws' program witness count a short) left_work in
      let again = trimmed_again fits_constant (p program witness count a short) (c program witness count a short) (ws program witness count a short) (F program witness count a short) (kept_flags (uses_of (sourced (p program witness count a short) (left program witness count a short)) (ws' program witness count a short))) all_work_lem exact (kept_flags_lem (uses_of (sourced (p program witness count a short) (left program witness count a short)) (ws' program witness count a short))) in
      ap₂ words_of after_certificate read ∙ ap₂ (λ (d : Certificate) (us : List Witness). layout Dense (entries_of d) (encode_all us)) again.0 again.1
    where
      words_of : Certificate → List Witness → List ℤ
      words_of d us =
          let G : Flags = kept_flags (uses_of (sourced (p program witness count a short) d) us) in
          layout Dense (entries_of (trimmed G d)) (encode_all (trimmed_witnesses G (sourced (p program witness count a short) d) us))

module _ (program witness : List ℤ) where
  -- "For every accepted certificate whose result stays within 1,000,000 words"
  pub accepted_trims : (values count : ℕ) → Accepted program witness values count → length (trimmed_words program witness) ≤ most_words → Trims program witness (trimmed_words program witness)
  accepted_trims values count h short =
      record {
        accepted = accepted;
        fewer = λ values m g. omega (arith, ((safe_answered program witness values m).0 g).counted, after_fewer program witness count a short);
        dense = after_form program witness count a short;
        least = kept_flags_lem (listed_uses program witness);
        disjuncts = λ t. ap (λ (d : Certificate). edges_of d t) (after_certificate program witness count a short) ∙ trimmed_edges (least_set program witness) (certificate program witness) t;
        witnesses = after_witness program witness count a short;
        next = after_next program witness count a short;
        used = after_all program witness count a short;
        again =
            λ buffer g. (trim_written program (trimmed_words program witness) buffer 0 (trimmed_words program witness)).1 (
              record { count = length (entailments (decode.program program) (certificate_left program witness)); accepted = accepted 0; enough = rw same (record { short = short; fits = g }) },
              sym same,
            );
      }
    where
      a : Witnessed program witness count
      a = (safe_answered program witness values count).0 h

      accepted : (values : ℕ) → Accepted program (trimmed_words program witness) values (length (entailments (decode.program program) (certificate_left program witness)))
      accepted values =
          (safe_answered program (trimmed_words program witness) values (length (entailments (decode.program program) (certificate_left program witness)))).1 (after_witnessed program witness count a short)

      same : trimmed_words program (trimmed_words program witness) ≡ trimmed_words program witness
      same = after_again program witness count a short

  -- and so it is of all that trimming writes
  pub written_trims : (words : List ℤ) (buffer : ℕ) → trim program witness buffer ≡ written words → Trims program witness words
  written_trims words buffer e =
      let x = (trim_written program witness buffer 0 words).0 e in
      rw x.1 (accepted_trims 0 x.0.count x.0.accepted x.0.enough.short)

-- ---- the buffer afterwards

module _ (program witness buffer : List ℤ) where
  -- "else the sheet stands at the room's front, .. and the rest stays"
  pub trim_buffer : (words : List ℤ) → trim program witness (length buffer) ≡ written words
      → (take (length words) (buffer_trimmed program witness buffer) ≡ words) × (drop (length words) (buffer_trimmed program witness buffer) ≡ drop (length words) buffer) × (length (buffer_trimmed program witness buffer) ≡ length buffer)
  unfolding word_count
  trim_buffer words e =
      let x = (trim_written program witness (length buffer) 0 words).0 e in
      rw e (front_after words buffer, rest_after (written words) buffer, length_after (written words) buffer (rw x.1 x.0.enough.fits))

  -- "A refusal writes nothing"
  pub trim_nothing : (r : Refusal) → trim program witness (length buffer) ≡ unwritten r → (buffer_trimmed program witness buffer) ≡ buffer
  unfolding buffer_after
  trim_nothing r e = rw e
