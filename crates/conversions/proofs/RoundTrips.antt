-- What the conversions give: words are written if and only if both inputs have the form and there is room for the result; what is written has
-- the other form, with equal disjuncts and witness words. "Where neither way is refused, dense to sparse to dense yields a dense sheet laid out
-- like that, with equal disjuncts and witness words; sparse to dense to sparse yields the same words."
use Rattle.std.specs.Prelude.{◌≡◌, ◌↔◌, ℕ, ◌≤◌, ℤ}
use Rattle.std.proofs.Math.Path.{sym}
use Rattle.std.proofs.Common.{ap₂, ◌∙◌}
use Rattle.std.proofs.Math.Logic.Iff.{trans as iff_trans}
use mathlib.Core.List.{List, [], ◌∷◌, ◌++◌}
use Rattle.std.proofs.Math.ListN.{length}
use Rattle.basics.proofs.Lists.{length_listed}
use Rattle.words.specs.declared.StoredForm.{StoredForm}
use Rattle.words.specs.declared.StoredForm.TheVariants.{Dense, Sparse}
use Rattle.words.specs.Limits.{most_words}
use Rattle.words.specs.Tests.{first_failure}
use Rattle.words.specs.FirstFailure.{AllPass}
use Rattle.words.proofs.FirstFailure.{no_failure, pass_append, test_passes}
use Rattle.words.specs.Writing.{written}
use Rattle.words.proofs.Writing.{buffer_fits, written_after}
use Rattle.words.specs.Writing as writing
use Rattle.programs.specs.ProgramTests.{program_tests}
use Rattle.programs.proofs.ProgramForm.{program_form_lem}
use Rattle.certificates.specs.Certificate.{Certificate}
use Rattle.certificates.specs.CertificateWords.{vertex_entries, witness_words, entry, certificate_in}
use Rattle.certificates.specs.CertificateTests.{tests_in}
use Rattle.certificates.specs.CertificateForm.{FormIn}
use Rattle.certificates.proofs.CertificateForm.{certificate_form_lem}
use Rattle.layouts.specs.Layout.{entries_of, layout}
use Rattle.layouts.specs.LaidOut.{EntriesWithin}
use Rattle.layouts.proofs.LaidOut.{laid_certificate, laid_witness, laid_form}
use Rattle.layouts.proofs.OwnWords.{entries_within, own_words}
use Rattle.conversions.specs.Conversions.{other_form, other_words, conversion_tests, converted, to_sparse, to_dense}
use Rattle.conversions.specs.RoundTrips.{Convertible, LaidOutAs, SameIn, c, last, there}

-- ---- words are written

module _ (program witness : List ℤ) (form : StoredForm) (buffer : ℕ) where
  all_pass : AllPass (conversion_tests program witness form buffer) ↔ (Convertible program witness form buffer)
  unfolding conversion_tests
  all_pass =
      let a = pass_append (program_tests program) (tests_in program witness form ++ ((last program witness form buffer) ∷ [])) in
      let b = pass_append (tests_in program witness form) ((last program witness form buffer) ∷ []) in (
        λ x. let y = a.0 x in let z = b.0 y.1 in record {
          program_form = (program_form_lem program).0 ((no_failure (program_tests program)).1 y.0);
          certificate_form = (certificate_form_lem program witness form).0 ((no_failure (tests_in program witness form)).1 z.0);
          enough = (buffer_fits (other_words program witness form) buffer).0 ((test_passes (last program witness form buffer)).0 z.1);
        },
        λ c. a.1 (
          (no_failure (program_tests program)).0 ((program_form_lem program).1 c.program_form),
          b.1 ((no_failure (tests_in program witness form)).0 ((certificate_form_lem program witness form).1 c.certificate_form), (test_passes (last program witness form buffer)).1 ((buffer_fits (other_words program witness form) buffer).1 c.enough)),
        ),
      )

  pub written_iff : (words : List ℤ) → (converted program witness form buffer ≡ written words) ↔ ((Convertible program witness form buffer) × (words ≡ other_words program witness form))
  unfolding converted
  written_iff words =
      let o = first_failure (conversion_tests program witness form buffer) in
      let passes = iff_trans (no_failure (conversion_tests program witness form buffer)) all_pass in
      iff_trans (written_after o (other_words program witness form) words) (λ x. (passes.0 x.0, x.1), λ x. (passes.1 x.0, x.1))

-- ---- what is written

module _ (program witness : List ℤ) (form : StoredForm) (f : FormIn program witness form) (short : length (other_words program witness form) ≤ most_words) where
  within : EntriesWithin program (entries_of (c program witness form f short))
  within = entries_within program witness form f

  pub other_form_lem : FormIn program (there program witness form f short) (other_form form)
  unfolding other_words
  other_form_lem = laid_form program (entries_of (c program witness form f short)) (witness_words program witness) within (other_form form) short

  pub other_witness : witness_words program (there program witness form f short) ≡ witness_words program witness
  unfolding other_words
  other_witness = laid_witness program (other_form form) (entries_of (c program witness form f short)) (witness_words program witness) within short

  pub other_certificate : certificate_in program (there program witness form f short) (other_form form) ≡ certificate_in program witness form
  unfolding other_words
  other_certificate =
      let paths : length (c program witness form f short).paths ≡ vertex_entries program [] = unfold certificate_in in length_listed (entry program witness form) (vertex_entries program witness) in
      laid_certificate program (other_form form) (c program witness form f short) (witness_words program witness) within short paths

pub written_same : (program witness words : List ℤ) (form : StoredForm) (buffer : ℕ) → converted program witness form buffer ≡ written words → SameIn program witness words form (other_form form)
written_same program witness words form buffer e =
    let x = (written_iff program witness form buffer words).0 e in
    rw x.1 (record {
      disjuncts = other_certificate program witness form x.0.certificate_form x.0.enough.short;
      witnesses = other_witness program witness form x.0.certificate_form x.0.enough.short;
    })

-- what is written of words that are the same is laid out as they are
relaid : (program one other back : List ℤ) (form form' : StoredForm) (buffer : ℕ) → SameIn program one other form form' → converted program other form' buffer ≡ written back
    → back ≡ layout (other_form form') (entries_of (certificate_in program one form)) (witness_words program one)
unfolding other_words
relaid program one other back form form' buffer s e =
    ((written_iff program other form' buffer back).0 e).1 ∙ ap₂ (λ (c : Certificate) (ws : List ℤ). layout (other_form form') (entries_of c) ws) s.disjuncts s.witnesses

module _ (program : List ℤ) where
  -- "dense to sparse to dense yields" it
  pub dense_round : (dense sparse back : List ℤ) (buffer other : ℕ) → to_sparse program dense buffer ≡ written sparse → to_dense program sparse other ≡ written back → (LaidOutAs program) dense back
  unfolding to_sparse to_dense
  dense_round dense sparse back buffer other e d =
      let x = written_same program dense sparse Dense buffer e in
      let y = written_same program sparse back Sparse other d in
      record {
        laid = relaid program dense sparse back Dense Sparse other x d;
        same = record { disjuncts = y.disjuncts ∙ x.disjuncts; witnesses = y.witnesses ∙ x.witnesses };
      }

  -- "sparse to dense to sparse yields the same words"
  pub sparse_round : (sparse dense back : List ℤ) (buffer other : ℕ) → to_dense program sparse buffer ≡ written dense → to_sparse program dense other ≡ written back → back ≡ sparse
  unfolding to_sparse to_dense
  sparse_round sparse dense back buffer other e d =
      relaid program sparse dense back Sparse Dense other (written_same program sparse dense Sparse buffer e) d
      ∙ sym (own_words program sparse ((written_iff program sparse Sparse buffer dense).0 e).0.certificate_form)
