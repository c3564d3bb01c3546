-- What trimming refuses, if and only if, number, place and line: what the judge refuses, and then, of an accepted certificate, a result that is too long or
-- that the buffer doesn't hold, with 26 at 0; else the words are written. For a certificate the judge's answer is the check's, and every other kind
-- it refuses with 4.
use Rattle.std.proofs.Math.Path.{◌≡◌, refl, ap}
use Rattle.std.proofs.Common.{sym, arith}
use Rattle.std.specs.Prelude.{◌↔◌, ◌⊎◌, Bool, List, [], ◌∷◌, ℕ, ℤ, pos}
use Rattle.std.proofs.Math.Logic.{inl, inr}
use Rattle.std.proofs.Math.Logic.Iff.{trans as iff_trans}
use Rattle.std.proofs.Math.Bool.{true, false, cond}
use Rattle.std.proofs.Math.Option.{none, some, some-injective, none-ne-some}
use Rattle.basics.proofs.Booleans.{holds}
use Rattle.basics.specs.Integers.{eq_z}
use Rattle.basics.proofs.Integers.{eq_z→eq}
use Rattle.words.specs.declared.StoredForm.{StoredForm}
use Rattle.words.specs.declared.StoredForm.TheVariants.{Dense, Sparse}
use Rattle.words.specs.Words.{word}
use Rattle.words.specs.Tests.{Refusal, refusal_at, refusal_on, first_failure}
use Rattle.words.proofs.FirstFailure.{no_failure, test_passes}
use Rattle.words.specs.Answer.{Answer, safe, trace, refused, answer_after}
use Rattle.words.proofs.AnswerLaws.{same_refusal}
use Rattle.words.specs.Writing.{written, unwritten, buffer_test, Fits}
use Rattle.words.proofs.Writing.{buffer_fits, buffer_fails, written_after, unwritten_after}
use Rattle.programs.specs.ProgramForm.{ProgramForm}
use Rattle.programs.proofs.ProgramForm.{program_form_lem}
use Rattle.certificates.specs.CertificateWords.{certificate_mark, sparse_mark, mark_of, stored_form}
use Rattle.certificates.specs.CertificateTests.{answer_in, certificate_tests}
use Rattle.certificates.proofs.CertificateRefusals.{first_four}
use Rattle.traces.specs.TraceWords.{trace_mark}
use Rattle.checker.specs.Check.{judged, replayed, check}
use Rattle.checker.specs.Demand2.{Accepted}
use Rattle.checker.proofs.Demand2.{accepted_judged, judged_untraced}
use Rattle.checker.proofs.RefusalNumbers.{judged_number}
use Rattle.trimmed_words.specs.Trim.{trimmed_words, trim_failure, trim}
use Rattle.trimmed_words.specs.TrimRefusals.{Trimmable, Unfit, words}

-- ---- by the judge's answer

module _ (words : List ℤ) (buffer : ℕ) where
  unfit_iff : (r : Refusal) → (first_failure (buffer_test words buffer ∷ []) ≡ some r) ↔ (Unfit words buffer) r
  unfit_iff r = iff_trans (buffer_fails words buffer r) (λ x. (λ i. refusal_on (x.0 i) (x.1 i) (x.2 i), x.3), λ x. (ap (λ (r : Refusal). r.number) x.0, ap (λ (r : Refusal). r.place) x.0, ap (λ (r : Refusal). r.line) x.0, x.1))

  safe_not_refused : {count : ℕ} {r : Refusal} → safe count ≡ refused r → ⊥
  safe_not_refused e = let z : ◌≡◌ {A = ℕ} 0 1 = cc in omega arith

  some_iff : (a : Answer) → ((steps : ℕ) → a ≡ trace steps → ⊥) → (r : Refusal) → (trim_failure a words buffer ≡ some r) ↔ ((a ≡ refused r) ⊎ ((count : ℕ) × (a ≡ safe count) × (Unfit words buffer) r))
  unfolding trim_failure
  some_iff (refused q) n r = (λ e. inl (ap refused (some-injective q r e)), back)
    where
      back : (refused q ≡ refused r) ⊎ ((count : ℕ) × (refused q ≡ safe count) × (Unfit words buffer) r) → some q ≡ some r
      back (inl e) = ap some (same_refusal e)
      back (inr (count, e, x)) = absurd (safe_not_refused (sym e))
  some_iff (trace steps) n r = absurd (n steps refl)
  some_iff (safe count) n r = (λ e. inr (count, refl, (unfit_iff r).0 e), back)
    where
      back : (safe count ≡ refused r) ⊎ ((m : ℕ) × (safe count ≡ safe m) × (Unfit words buffer) r) → first_failure (buffer_test words buffer ∷ []) ≡ some r
      back (inl e) = absurd (safe_not_refused e)
      back (inr (m, e, x)) = (unfit_iff r).1 x

  none_iff : (a : Answer) → (trim_failure a words buffer ≡ none) ↔ ((count : ℕ) × (a ≡ safe count) × Fits words buffer)
  unfolding trim_failure
  none_iff (refused r) = (λ e. absurd (none-ne-some r (sym e)), λ x. absurd (safe_not_refused (sym x.1)))
  none_iff (trace steps) = (λ e. absurd (none-ne-some (refusal_at 4 0) (sym e)), λ x. absurd (let z : ◌≡◌ {A = ℕ} 0 1 = trace_safe x.1 in omega arith))
    where
      trace_safe : {count : ℕ} → trace steps ≡ safe count → ◌≡◌ {A = ℕ} 0 1
      trace_safe e = cc
  none_iff (safe count) =
      let last = buffer_test words buffer in (
        λ e. (count, refl, (buffer_fits words buffer).0 ((test_passes last).0 ((no_failure (last ∷ [])).0 e))),
        λ x. (no_failure (last ∷ [])).1 ((test_passes last).1 ((buffer_fits words buffer).1 x.2)),
      )

-- ---- by the words; `values` is the length of the check's result buffer

module _ (program witness : List ℤ) (buffer values : ℕ) where
  -- it refuses what the judge refuses, by the same number, place and line, "and too little room or a longer result with 26 at 0 after those"
  pub trim_refused : (r : Refusal) → (trim program witness buffer ≡ unwritten r)
      ↔ ((judged program witness ≡ refused r) ⊎ ((count : ℕ) × Accepted program witness values count × Unfit (trimmed_words program witness) buffer r))
  unfolding trim
  trim_refused r =
      iff_trans (unwritten_after (trim_failure (judged program witness) (words program witness buffer values) buffer) (words program witness buffer values) r)
      (iff_trans (some_iff (words program witness buffer values) buffer (judged program witness) (judged_untraced program witness) r) (there, back))
    where
      there : (judged program witness ≡ refused r) ⊎ ((count : ℕ) × (judged program witness ≡ safe count) × Unfit (words program witness buffer values) buffer r) → (judged program witness ≡ refused r) ⊎ ((count : ℕ) × Accepted program witness values count × Unfit (words program witness buffer values) buffer r)
      there (inl e) = inl e
      there (inr (count, e, x)) = inr (count, (accepted_judged program witness values count).1 e, x)

      back : (judged program witness ≡ refused r) ⊎ ((count : ℕ) × Accepted program witness values count × Unfit (words program witness buffer values) buffer r) → (judged program witness ≡ refused r) ⊎ ((count : ℕ) × (judged program witness ≡ safe count) × Unfit (words program witness buffer values) buffer r)
      back (inl e) = inl e
      back (inr (count, e, x)) = inr (count, (accepted_judged program witness values count).0 e, x)

  -- 26 if and only if the certificate is accepted and the result doesn't fit
  pub trim_twenty_six : (r : Refusal) → r.number ≡ 26 → (trim program witness buffer ≡ unwritten r) ↔ ((count : ℕ) × Accepted program witness values count × Unfit (trimmed_words program witness) buffer r)
  trim_twenty_six r six = iff_trans (trim_refused r) (there, inr)
    where
      there : (judged program witness ≡ refused r) ⊎ ((count : ℕ) × Accepted program witness values count × Unfit (words program witness buffer values) buffer r) → (count : ℕ) × Accepted program witness values count × Unfit (words program witness buffer values) buffer r
      there (inl e) = absurd (let x = judged_number program witness r e in omega arith)
      there (inr x) = x

  pub trim_written : (l : List ℤ) → (trim program witness buffer ≡ written l) ↔ ((Trimmable program witness buffer values) × (l ≡ trimmed_words program witness))
  unfolding trim
  trim_written l =
      let o = trim_failure (judged program witness) (words program witness buffer values) buffer in
      let i = none_iff (words program witness buffer values) buffer (judged program witness) in
      iff_trans (written_after o (words program witness buffer values) l) (
        λ x. let y = i.0 x.0 in (record { count = y.0; accepted = (accepted_judged program witness values y.0).1 y.1; enough = y.2 }, x.1),
        λ x. (i.1 (x.0.count, (accepted_judged program witness values x.0.count).0 x.0.accepted, x.0.enough), x.1),
      )

-- ---- kinds

module _ (program witness : List ℤ) where
  -- the judge is the check of all but traces
  pub judged_checked : (values : ℕ) → ¬ (word witness 0 ≡ pos trace_mark) → check program witness values ≡ judged program witness
  unfolding check
  judged_checked values n = go (eq_z (word witness 0) (pos trace_mark)) refl
    where
      go : (b : Bool) → eq_z (word witness 0) (pos trace_mark) ≡ b → cond b (replayed program witness values) (judged program witness) ≡ judged program witness
      go true e = absurd (n (eq_z→eq (word witness 0) (pos trace_mark) (holds e)))
      go false e = refl

  -- "any kind but 1 and 4 with refusal 4", after what is refused of the program
  pub other_kinds : (buffer : ℕ) → ProgramForm program → ¬ (word witness 0 ≡ pos certificate_mark) → ¬ (word witness 0 ≡ pos sparse_mark) → trim program witness buffer ≡ unwritten (refusal_at 4 0)
  other_kinds buffer f one four = (trim_refused program witness buffer 0 (refusal_at 4 0)).1 (inl judge)
    where
      headless : (form : StoredForm) → word witness 0 ≡ pos (mark_of form) → ⊥
      headless Dense e = one e
      headless Sparse e = four e

      first : first_failure (certificate_tests program witness) ≡ some (refusal_at 4 0)
      first = (first_four program witness (stored_form witness) 0).1 (refl, λ h. headless (stored_form witness) h.mark)

      judge : judged program witness ≡ refused (refusal_at 4 0)
      judge = unfold judged answer_in answer_after in rw ((program_form_lem program).1 f, first)
