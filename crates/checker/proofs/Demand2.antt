-- Demand 2 for certificates, from the words: "Safe, with the number of entailments, is answered if and only if both sheets have the form and
-- every entailment listed in document 01 has a witness there that works, in its turn, with no word left." And the refusals 6, 7 and 8
-- likewise, with their places, where both have the form: that they are answered nowhere else is in Refusals. That they
-- work "in its turn, with no word left" is one equation: the witness words are the witnesses' encodings, one after the other, and encodings
-- are a prefix code.
use Rattle.std.specs.Prelude.{◌≡◌, ◌↔◌, Bool, List, ◌∷◌, ◌++◌, ℕ, ◌+◌, ◌-◌, ℤ}
use Rattle.std.proofs.Math.Path.{refl, ap}
use Rattle.std.proofs.Common.{sym, ◌∙◌, append-nil, arith, T_not}
use Rattle.std.proofs.Math.Logic.Iff.{trans as iff_trans}
use Rattle.std.proofs.Math.Bool.{true, false, cond}
use Rattle.std.proofs.Math.Dec.{not_T}
use Rattle.std.proofs.Math.IntN.{pos}
use Rattle.std.proofs.Math.ListN.{length, length-append, length-drop}
use Rattle.basics.proofs.Booleans.{holds}
use Rattle.basics.specs.Integers.{eq_z}
use Rattle.basics.proofs.Integers.{eq_z→eq, ints}
use Rattle.words.specs.declared.StoredForm.{StoredForm}
use Rattle.words.specs.declared.StoredForm.TheVariants.{Dense, Sparse}
use Rattle.words.specs.Words.{word}
use Rattle.words.specs.Tests.{first_failure}
use Rattle.words.specs.Answer.{Answer, safe, trace, refuse}
use Rattle.words.specs.AnswerLaws.{is_safe, is_trace}
use Rattle.words.proofs.AnswerLaws.{accepted_after, passed_after}
use Rattle.programs.specs.ProgramTests.{program_tests}
use Rattle.programs.proofs.ProgramForm.{program_form_lem}
use Rattle.programs.specs.Decode as decode
use Rattle.certificates.specs.Witnesses.{Witness, fits, encode_all}
use Rattle.certificates.specs.Judged.{Stopped, Unread, Misfit}
use Rattle.certificates.specs.Conclusions.{conclusion, Left}
use Rattle.certificates.proofs.Conclusions.{safe_iff, six_iff, seven_iff, eight_iff, not_trace}
use Rattle.certificates.specs.CertificateWords.{stored_form, witness_words, mark_of}
use Rattle.certificates.specs.CertificateTests.{answer_in, certificate_tests, certificate_answer}
use Rattle.certificates.specs.CertificateForm.{CertificateForm}
use Rattle.certificates.proofs.CertificateForm.{certificate_form_lem}
use Rattle.traces.specs.TraceWords.{trace_mark}
use Rattle.traces.specs.Replay.{trace_answer}
use Rattle.traces.proofs.TraceAnswers.{trace_not_safe}
use Rattle.checker.specs.Check.{judged, replayed, check}
use Rattle.checker.specs.Demand2.{Accepted, Forms, LeftAt, MisfitAt, Reached, UnreadAt, Witnessed, listed_entailments, stopped, witness_start}

-- a certificate of either form is no trace
pub never_traced : (form : StoredForm) {z : ℤ} → z ≡ pos (mark_of form) → z ≡ pos trace_mark → ⊥
never_traced Dense m t = omega (arith, ints)
never_traced Sparse m t = omega (arith, ints)

module _ (program witness : List ℤ) where
  -- a certificate's check is its judgement
  certified : (buffer : ℕ) → CertificateForm program witness → check program witness buffer ≡ judged program witness
  unfolding check
  certified buffer f = go (eq_z (word witness 0) (pos trace_mark)) refl
    where
      go : (b : Bool) → eq_z (word witness 0) (pos trace_mark) ≡ b → cond b (replayed program witness buffer) (judged program witness) ≡ judged program witness
      go true e = absurd (let two : word witness 0 ≡ pos trace_mark = eq_z→eq (word witness 0) (pos trace_mark) (holds e) in never_traced (stored_form witness) f.header.mark two)
      go false e = refl

  -- where both have the form, the answer is what the judgement concludes
  pub concludes : (buffer : ℕ) → (Forms program witness) → check program witness buffer ≡ conclusion (listed_entailments program witness) (witness_words program witness) (length witness)
  concludes buffer f =
      certified buffer f.certificate_form
      ∙ (unfold judged in (passed_after (first_failure (program_tests program)) (certificate_answer program witness) ((program_form_lem program).1 f.program_form)).1
      (unfold answer_in in (passed_after (first_failure (certificate_tests program witness)) _ ((certificate_form_lem program witness (stored_form witness)).1 f.certificate_form)).1 refl))

  -- and safe is only answered where both have the form
  judged_forms : (count : ℕ) → judged program witness ≡ safe count → (Forms program witness)
  judged_forms count e =
      let x = (accepted_after (first_failure (program_tests program)) (certificate_answer program witness) (is_safe {count = count})).0 (unfold judged in e) in
      record {
        program_form = (program_form_lem program).0 x.0;
        certificate_form = (certificate_form_lem program witness (stored_form witness)).0 ((accepted_after (first_failure (certificate_tests program witness)) (conclusion (listed_entailments program witness) (witness_words program witness) (length witness)) (is_safe {count = count})).0 (unfold answer_in in x.1)).0;
      }

  safe_forms : (buffer count : ℕ) → (Accepted program witness) buffer count → (Forms program witness)
  unfolding check
  safe_forms buffer count e = go (eq_z (word witness 0) (pos trace_mark)) e
    where
      go : (b : Bool) → cond b (replayed program witness buffer) (judged program witness) ≡ safe count → (Forms program witness)
      go true e = absurd (trace_not_safe program witness buffer count ((accepted_after (first_failure (program_tests program)) (trace_answer program witness buffer) (is_safe {count = count})).0 (unfold replayed in e)).1)
      go false e = judged_forms count e

  -- what is judged safe is accepted
  pub judged_accepted : (buffer count : ℕ) → judged program witness ≡ safe count → (Accepted program witness) buffer count
  judged_accepted buffer count e = certified buffer (judged_forms count e).certificate_form ∙ e

  -- and what is accepted is judged safe
  pub accepted_judged : (buffer count : ℕ) → (Accepted program witness) buffer count ↔ (judged program witness ≡ safe count)
  accepted_judged buffer count = (λ e. sym (certified buffer (safe_forms buffer count e).certificate_form) ∙ e, judged_accepted buffer count)

  -- the judgement answers no trace
  pub judged_untraced : (steps : ℕ) → judged program witness ≡ trace steps → ⊥
  judged_untraced steps e =
      let x = (accepted_after (first_failure (program_tests program)) (certificate_answer program witness) (is_trace {steps = steps})).0 (unfold judged in e) in
      not_trace (listed_entailments program witness) (witness_words program witness) (length witness) steps
      ((accepted_after (first_failure (certificate_tests program witness)) (conclusion (listed_entailments program witness) (witness_words program witness) (length witness)) (is_trace {steps = steps})).0 (unfold answer_in in x.1)).1

  pub safe_answered : (buffer count : ℕ) → (Accepted program witness) buffer count ↔ (Witnessed program witness) count
  safe_answered buffer count = (there, back)
    where
      there : (Accepted program witness) buffer count → (Witnessed program witness) count
      there e =
          let f : (Forms program witness) = safe_forms buffer count e in
          let h = (safe_iff (listed_entailments program witness) (witness_words program witness) (length witness) count).0 (sym (concludes buffer f) ∙ e) in
          record { forms = f; counted = omega (arith, h.counted); witnesses = h.witnesses; work = h.work; spelled = h.spelled ∙ append-nil (encode_all h.witnesses) }

      back : (Witnessed program witness) count → (Accepted program witness) buffer count
      back a = concludes buffer a.forms ∙ (safe_iff (listed_entailments program witness) (witness_words program witness) (length witness) count).1
          (record { witnesses = a.witnesses; work = a.work; spelled = a.spelled ∙ sym (append-nil (encode_all a.witnesses)); counted = omega (arith, a.counted) })

  -- ---- refusals of the judgement, where both have the form

  -- the place after witnesses that are spelled out, and before the words left
  place_is : (Forms program witness) → (ws : List Witness) (left : List ℤ) → witness_words program witness ≡ encode_all ws ++ left → length witness - length left ≡ (witness_start program witness) + length (encode_all ws)
  unfolding witness_words
  place_is f ws left e = omega (arith, ap length e, length-drop (witness_start program witness) witness, length-append (encode_all ws) left, f.certificate_form.header.total)

  -- where both have the form, a judgement that stopped at an entailment is one that came to it
  module _ (f : (Forms program witness)) (place : ℕ) where
    abbrev come : (left : List ℤ) → Stopped (listed_entailments program witness) (witness_words program witness) left → place ≡ length witness - length left → (Reached program witness) place
    come left s e =
        record {
          earlier = s.earlier;
          here = s.at;
          later = s.later;
          listed = s.listed;
          witnesses = s.witnesses;
          work = s.work;
          left = left;
          spelled = s.spelled;
          stands = e ∙ place_is f s.witnesses left s.spelled;
        }

    stopped_place : (r : (Reached program witness) place) → place ≡ length witness - length r.left
    stopped_place r = r.stands ∙ sym (place_is f r.witnesses r.left r.spelled)

    unread_iff : ((left : List ℤ) × Unread (listed_entailments program witness) (witness_words program witness) left × (place ≡ length witness - length left)) ↔ (UnreadAt program witness) place
    unread_iff =
        (λ x. record { reached = come x.0 x.1.stopped x.2; unread = x.1.unread }, λ u. (u.reached.left, record { stopped = (stopped program witness f place) u.reached; unread = u.unread }, stopped_place u.reached))

    misfit_iff : ((left : List ℤ) × Misfit (listed_entailments program witness) (witness_words program witness) left × (place ≡ length witness - length left)) ↔ (MisfitAt program witness) place
    misfit_iff = (there, back)
      where
        there : (left : List ℤ) × Misfit (listed_entailments program witness) (witness_words program witness) left × (place ≡ length witness - length left) → (MisfitAt program witness) place
        there (left, m, e) =
            record { reached = come left m.stopped e; found = m.witness; rest = m.rest; shape = m.shape; reads = m.reads; misfits = T_not (fits m.stopped.at m.witness) m.misfits }

        back : (MisfitAt program witness) place → (left : List ℤ) × Misfit (listed_entailments program witness) (witness_words program witness) left × (place ≡ length witness - length left)
        back u = (
          u.reached.left,
          record { stopped = (stopped program witness f place) u.reached; witness = u.found; rest = u.rest; shape = u.shape; reads = u.reads; misfits = not_T (fits u.reached.here u.found) u.misfits },
          stopped_place u.reached,
        )

  -- an answer, where both have the form
  answers : (buffer : ℕ) → (Forms program witness) → (a : Answer) → (check program witness buffer ≡ a) ↔ (conclusion (listed_entailments program witness) (witness_words program witness) (length witness) ≡ a)
  answers buffer f a = (λ e. sym (concludes buffer f) ∙ e, λ e. concludes buffer f ∙ e)

  pub formed_six : (buffer place : ℕ) → (Forms program witness) → (check program witness buffer ≡ refuse 6 place) ↔ (UnreadAt program witness) place
  formed_six buffer place f = iff_trans (answers buffer f (refuse 6 place)) (iff_trans (six_iff (listed_entailments program witness) (witness_words program witness) (length witness) place) (unread_iff f place))

  pub formed_seven : (buffer place : ℕ) → (Forms program witness) → (check program witness buffer ≡ refuse 7 place) ↔ (MisfitAt program witness) place
  formed_seven buffer place f = iff_trans (answers buffer f (refuse 7 place)) (iff_trans (seven_iff (listed_entailments program witness) (witness_words program witness) (length witness) place) (misfit_iff f place))

  left_iff : (Forms program witness) → (place : ℕ) → Left (listed_entailments program witness) (witness_words program witness) (length witness) place ↔ (LeftAt program witness) place
  left_iff f place = (there, back)
    where
      there : Left (listed_entailments program witness) (witness_words program witness) (length witness) place → (LeftAt program witness) place
      there x =
          record {
            first = x.first;
            others = x.others;
            witnesses = x.held.witnesses;
            work = x.held.work;
            spelled = x.held.spelled;
            stands = x.stands ∙ place_is f x.held.witnesses (x.first ∷ x.others) x.held.spelled;
          }

      back : (LeftAt program witness) place → Left (listed_entailments program witness) (witness_words program witness) (length witness) place
      back u =
          record {
            first = u.first;
            others = u.others;
            count = length (listed_entailments program witness);
            held = record { witnesses = u.witnesses; work = u.work; spelled = u.spelled; counted = omega arith };
            stands = u.stands ∙ sym (place_is f u.witnesses (u.first ∷ u.others) u.spelled);
          }

  pub formed_eight : (buffer place : ℕ) → (Forms program witness) → (check program witness buffer ≡ refuse 8 place) ↔ (LeftAt program witness) place
  formed_eight buffer place f = iff_trans (answers buffer f (refuse 8 place)) (iff_trans (eight_iff (listed_entailments program witness) (witness_words program witness) (length witness) place) (left_iff f place))
