-- "Both forms are judged alike but for places": words in two forms with equal disjuncts and witness words are both safe, with one count, or both
-- refused with 6, 7 or 8 as far behind the first witness word. For what is judged, entailments and witness words, is the same, and the places count
-- from the end of the words, to which the witness words reach.
use Rattle.std.specs.Prelude.{◌≡◌, ◌⊎◌, List, [], ◌∷◌, ◌++◌, ℕ, ◌+◌, ◌-◌, ◌≤◌, ℤ}
use Rattle.std.proofs.Math.Path.{refl}
use Rattle.std.proofs.Common.{sym, ap, ◌∙◌, inl, inr, length-append}
use native.Mathlib.Omega.{arith}
use Rattle.std.proofs.Math.ListN.{length, length-drop}
use Rattle.words.specs.declared.StoredForm.{StoredForm}
use Rattle.words.specs.Answer.{refuse}
use Rattle.words.specs.Writing.{written}
use Rattle.programs.specs.Decode as decode
use Rattle.certificates.specs.CertificateWords.{witness_words, certificate}
use Rattle.certificates.proofs.CertificateForm.{in_form}
use Rattle.certificates.specs.Entailments.{Entailment}
use Rattle.certificates.specs.Witnesses.{Witness, encode_all}
use Rattle.certificates.specs.Judgement.{Progress, running, ended, judge, judgement_answer}
use Rattle.certificates.proofs.Judged.{judge_iff, ended_six, ended_seven, ended_number}
use Rattle.certificates.specs.Conclusions.{conclusion}
use Rattle.checker.specs.Check.{check}
use Rattle.checker.specs.Demand2.{listed_entailments, witness_start, Forms}
use Rattle.checker.proofs.Demand2.{concludes}
use Rattle.conversions.specs.Conversions.{other_form, converted}
use Rattle.conversions.proofs.RoundTrips.{written_iff, written_same, other_form_lem}
use Rattle.conversions.specs.JudgedAlike.{AlikeButPlaces, both_refused, both_safe}

module _ (es : List Entailment) (words : List ℤ) where
  -- the words left at the end are the last ones
  few : (ws : List Witness) (left : List ℤ) → words ≡ encode_all ws ++ left → length left ≤ length words
  few ws left e = omega (arith, ap length e, length-append (encode_all ws) left)

  -- what both conclude, with `start` and `other` words before these
  concluded_alike : (start other : ℕ) → AlikeButPlaces start other (conclusion es words (start + length words)) (conclusion es words (other + length words))
  unfolding judgement_answer
  concluded_alike start other = go (judge es (running words 0)) refl
    where
      refuses : (number left : ℕ) → 6 ≤ number → number ≤ 8 → left ≤ length words
          → AlikeButPlaces start other (refuse number (start + length words - left)) (refuse number (other + length words - left))
      refuses number left low high h =
          let e : start + length words - left ≡ start + (length words - left) = omega arith in
          let f : other + length words - left ≡ other + (length words - left) = omega arith in
          rw (e, f) (both_refused number (length words - left) low high)

      go : (s : Progress) → judge es (running words 0) ≡ s → AlikeButPlaces start other (judgement_answer (start + length words) s) (judgement_answer (other + length words) s)
      go (running [] count) q = both_safe count
      go (running (w ∷ ws) count) q = let h = (judge_iff es words (w ∷ ws) 0 count).0 q in refuses 8 (length (w ∷ ws)) (omega arith) (omega arith) (few h.witnesses (w ∷ ws) h.spelled)
      go (ended number left) q = by_number (ended_number es words left 0 number q)
        where
          by_number : (number ≡ 6) ⊎ (number ≡ 7) → AlikeButPlaces start other (refuse number (start + length words - length left)) (refuse number (other + length words - length left))
          by_number (inl z) = let u = (ended_six es words left 0).0 (rw z at q) in refuses number (length left) (omega arith) (omega arith) (few u.stopped.witnesses left u.stopped.spelled)
          by_number (inr z) = let u = (ended_seven es words left 0).0 (rw z at q) in refuses number (length left) (omega arith) (omega arith) (few u.stopped.witnesses left u.stopped.spelled)

-- ---- of the check

module _ (program : List ℤ) where
  -- all words are those before the witness words, and these
  all_words : (witness : List ℤ) → Forms program witness → length witness ≡ witness_start program witness + length (witness_words program witness)
  unfolding witness_words
  all_words witness f = omega (arith, length-drop (witness_start program witness) witness, f.certificate_form.header.total)

  pub judged_alike : (witness other : List ℤ) (buffer buffer' : ℕ) → Forms program witness → Forms program other → certificate program witness ≡ certificate program other
      → witness_words program witness ≡ witness_words program other
      → AlikeButPlaces (witness_start program witness) (witness_start program other) (check program witness buffer) (check program other buffer')
  judged_alike witness other buffer buffer' f g c w =
      let es : List Entailment = listed_entailments program other in
      let one : check program witness buffer ≡ conclusion es (witness_words program other) (witness_start program witness + length (witness_words program other))
      = concludes program witness buffer f ∙ rw (← w, ← all_words witness f, c) refl in
      let two : check program other buffer' ≡ conclusion es (witness_words program other) (witness_start program other + length (witness_words program other))
      = concludes program other buffer' g ∙ rw (← all_words other g) refl in
      rw (one, two) (concluded_alike es (witness_words program other) (witness_start program witness) (witness_start program other))

-- ---- of what is converted

module _ (program : List ℤ) where
  pub converted_alike : (witness words : List ℤ) (form : StoredForm) (size buffer buffer' : ℕ) → converted program witness form size ≡ written words
      → AlikeButPlaces (witness_start program witness) (witness_start program words) (check program witness buffer) (check program words buffer')
  converted_alike witness words form size buffer buffer' e =
      let x = (written_iff program witness form size words).0 e in
      let s = written_same program witness words form size e in
      let f = in_form program witness form x.0.certificate_form in
      let g = in_form program words (other_form form) (rw x.1 (other_form_lem program witness form x.0.certificate_form x.0.enough.short)) in
      judged_alike program witness words buffer buffer'
      (record { program_form = x.0.program_form; certificate_form = f.0 }) (record { program_form = x.0.program_form; certificate_form = g.0 })
      (f.1 ∙ (sym s.disjuncts ∙ sym g.1)) (sym s.witnesses)
