-- A choice made definite, document 02, CR 13: "if a certificate is accepted, and one `?` branch whose row shares no words gets a condition with <, >, ≤ or
-- ≥ inside the limits, then the certificate with one multiplier 0 put in for the guard row right after the disjunct's, in each list of multipliers of that
-- branch's entailments and each leaf of their trees, W raised to match, is accepted with the same count, provided it stays within 1,000,000 words". The
-- certificate is of either kind, and stays of it. The witnesses are those of before with zeros put in, and work for the program with the condition.
use Rattle.std.specs.Prelude.{◌≡◌, List, ℕ, ◌+◌, ◌≤◌, ◌<◌, T, ℤ, length}
use Rattle.std.proofs.Common.{sym, ◌∙◌, subst, arith}
use Rattle.std.proofs.Math.Path.{ap}
use Rattle.std.proofs.Math.IntN.{pos}
use Rattle.basics.specs.Lists.{WithCopies}
use Rattle.basics.proofs.Lists.{copies_length}
use Rattle.rows.specs.Rows.{Row, fits_constant}
use Rattle.words.specs.Limits.{most_words}
use Rattle.words.specs.Words.{word}
use Rattle.programs.specs.Program.{compare}
use Rattle.programs.specs.ProgramForm.{ProgramForm}
use Rattle.programs.specs.Decode as decode
use Rattle.programs.specs.MadeDefinite.{MadeDefinite}
use Rattle.programs.specs.DefiniteWords.{definite_program, GetsCondition}
use Rattle.programs.proofs.DefiniteWords.{definite_same, definite_form, made_definite}
use Rattle.certificates.specs.Entailments.{entailments}
use Rattle.certificates.specs.Witnesses.{encode_all}
use Rattle.certificates.specs.ReadWitnesses.{witnesses_in}
use Rattle.certificates.proofs.ReadWitnesses.{witnesses_in_lem}
use Rattle.certificates.specs.DefiniteWitnesses.{is_inequality}
use Rattle.certificates.proofs.DefiniteWitnesses.{inequality, definite_copies, definite_count, definite_witnesses_work}
use Rattle.certificates.specs.CertificateWords.{stored_form, certificate, certificate_in, witness_words, W}
use Rattle.certificates.specs.CertificateForm.{FormIn, CertificateForm}
use Rattle.certificates.proofs.CertificateLookUps.{certificate_look_ups}
use Rattle.certificates.specs.OtherWitnesses.{witness_count_place, SameEntries}
use Rattle.certificates.proofs.OtherWitnesses.{own_entries, same_but_entries, other_length, other_w, other_kept, other_stored, other_words_lem, other_form_lem, same_certificate}
use Rattle.checker.specs.ListedWitnesses.{listed_sources, listed_witnesses}
use Rattle.checker.specs.Demand2.{listed_entailments, witness_start, Accepted, Witnessed}
use Rattle.checker.proofs.Demand2.{safe_answered}
use Rattle.checker.specs.ChoiceMadeDefinite.{definite_certificate, form_before, new_witnesses, program', zeros_put_in}

module _ (program witness : List ℤ) (v : ℕ) where
  -- ---- of an accepted certificate

  module _ (count : ℕ) (a : Witnessed program witness count) where
    read_back : listed_witnesses program witness ≡ a.witnesses
    read_back = ap (witnesses_in (listed_entailments program witness)) a.spelled ∙ witnesses_in_lem fits_constant (listed_entailments program witness) a.witnesses a.work

    spelled_before : witness_words program witness ≡ encode_all (listed_witnesses program witness)
    spelled_before = a.spelled ∙ ap encode_all (sym read_back)

    -- for any program with the same entries
    spelled_now : (program' : List ℤ) → SameEntries program' program → witness_words program' (definite_certificate program witness v) ≡ encode_all (new_witnesses program witness v)
    unfolding definite_certificate
    spelled_now program' s = other_words_lem program witness (stored_form witness) (new_witnesses program witness v) (form_before program witness v count a) program' s

    copies : WithCopies (pos 0) (zeros_put_in program witness v) (encode_all (listed_witnesses program witness)) (encode_all (new_witnesses program witness v))
    unfolding zeros_put_in
    copies = definite_copies v (listed_sources program witness) (listed_witnesses program witness)

    words_now : length (encode_all (new_witnesses program witness v)) ≡ W program witness + (zeros_put_in program witness v)
    words_now = omega (arith, copies_length copies, ap length spelled_before, (certificate_look_ups program witness (stored_form witness) (form_before program witness v count a)).witness_length)

    -- it stays of its kind
    stored_same : stored_form (definite_certificate program witness v) ≡ stored_form witness
    unfolding definite_certificate
    stored_same = other_stored program witness (stored_form witness) (new_witnesses program witness v) (form_before program witness v count a)

    -- the branch gets a condition
    module _ (op : ℕ) (e : Row) (g : GetsCondition program v op e) where
      form : ProgramForm program
      form = a.forms.program_form

      entries_same : SameEntries (program' program witness v count a op e g) program
      entries_same = same_but_entries (definite_same program v op e form g) form

      form_now : length (definite_certificate program witness v) ≤ most_words → CertificateForm (program' program witness v count a op e g) (definite_certificate program witness v)
      form_now most =
          subst (FormIn (program' program witness v count a op e g) (definite_certificate program witness v)) (sym stored_same)
          (unfold definite_certificate in other_form_lem program witness (program' program witness v count a op e g) entries_same (new_witnesses program witness v) (stored_form witness) (form_before program witness v count a) most)

      certificate_same : certificate (program' program witness v count a op e g) (definite_certificate program witness v) ≡ certificate program witness
      certificate_same =
          ap (certificate_in (program' program witness v count a op e g) (definite_certificate program witness v)) stored_same
          ∙ (unfold definite_certificate in same_certificate program witness (stored_form witness) (new_witnesses program witness v) (form_before program witness v count a) (program' program witness v count a op e g) entries_same)

      changed : MadeDefinite (decode.program program) (decode.program (program' program witness v count a op e g)) v (compare (decode.comparison op) e)
      changed = made_definite program v op e form g

      listed_now : listed_entailments (program' program witness v count a op e g) (definite_certificate program witness v) ≡ entailments (decode.program (program' program witness v count a op e g)) (certificate program witness)
      listed_now = ap (entailments (decode.program (program' program witness v count a op e g))) certificate_same

      definite_witnessed : op ≤ 4 → length (definite_certificate program witness v) ≤ most_words → Witnessed (program' program witness v count a op e g) (definite_certificate program witness v) count
      definite_witnessed few most =
          let one-guard : T (is_inequality (decode.comparison op)) = inequality op g.least few in
          record {
            forms = record { program_form = definite_form program v op e form g; certificate_form = form_now most };
            counted = a.counted ∙ sym (ap length listed_now ∙ definite_count changed (certificate program witness) one-guard g.is_choice.low);
            witnesses = (new_witnesses program witness v);
            work =
                rw listed_now (definite_witnesses_work changed (certificate program witness) one-guard fits_constant (listed_witnesses program witness) g.is_choice.low (rw read_back a.work));
            spelled = spelled_now (program' program witness v count a op e g) entries_same;
          }

-- ---- what is put in

module _ (program witness : List ℤ) (v buffer count : ℕ) (accepted : Accepted program witness buffer count) where
  abbrev witnessed : Witnessed program witness count
  witnessed = (safe_answered program witness buffer count).0 accepted

  -- the witness words are those of before with so many zeros put in
  pub zeros_put_in_lem : WithCopies (pos 0) (zeros_put_in program witness v) (witness_words program witness) (witness_words program (definite_certificate program witness v))
  zeros_put_in_lem =
      subst (λ (l : List ℤ). WithCopies (pos 0) (zeros_put_in program witness v) l (witness_words program (definite_certificate program witness v))) (sym (spelled_before program witness v count witnessed))
      (subst (WithCopies (pos 0) (zeros_put_in program witness v) (encode_all (listed_witnesses program witness))) (sym (spelled_now program witness v count witnessed program (own_entries program)))
      (copies program witness v count witnessed))

  -- "W raised to match": there are as many words more
  pub words_raised : (length (definite_certificate program witness v) ≡ length witness + zeros_put_in program witness v)
      × (word (definite_certificate program witness v) witness_count_place ≡ pos (W program witness + zeros_put_in program witness v))
  unfolding definite_certificate
  words_raised =
      let f : CertificateForm program witness = form_before program witness v count witnessed in
      let words = words_now program witness v count witnessed in (
        omega (arith, other_length program witness (stored_form witness) (new_witnesses program witness v) f, words, f.header.total),
        other_w program witness (stored_form witness) (new_witnesses program witness v) f ∙ ap pos words,
      )

  -- every word before the witness words but W is as it was
  pub words_kept : (i : ℕ) → i < witness_start program witness → ¬ (i ≡ witness_count_place) → word (definite_certificate program witness v) i ≡ word witness i
  unfolding definite_certificate
  words_kept = other_kept program witness (stored_form witness) (new_witnesses program witness v) (form_before program witness v count witnessed)

-- ---- it is accepted, with <, >, ≤ or ≥, which are the operators 1 to 4

pub choice_made_definite : (program witness : List ℤ) (v op : ℕ) (e : Row) (buffer buffer' count : ℕ)
    → Accepted program witness buffer count → GetsCondition program v op e → op ≤ 4 → length (definite_certificate program witness v) ≤ most_words
    → Accepted (definite_program program v op e) (definite_certificate program witness v) buffer' count
choice_made_definite program witness v op e buffer buffer' count accepted g few most =
    (safe_answered (definite_program program v op e) (definite_certificate program witness v) buffer' count).1
    (definite_witnessed program witness v count ((safe_answered program witness buffer count).0 accepted) op e g (omega (arith, few)) most)
