-- What each refusal says, for all words and every buffer: it is "the refusal, number and place, of the first of the papers' tests, in their
-- order, that fails". Each is answered if and only if what is tested before has the form and this is the first failure. A refusal comes from
-- one part of the check, and only after the parts before it passed: the program's tests (1 to 3), a certificate's tests (4, 5, 25, 15), its
-- judgement (6 to 8), a trace's tests (4, 9), its replay (10 to 14). So the number tells the part, and at 4 the mark of the witness does.
use Rattle.std.specs.Prelude.{◌≡◌, ◌↔◌, ◌⊎◌, Bool, List, ℕ, ◌≤◌, ◌<◌, ℤ, pos}
use Rattle.std.proofs.Math.Path.{refl, sym}
use Rattle.std.proofs.Common.{◌∙◌, inl, inr}
use Rattle.std.proofs.Math.Logic.Iff.{trans as iff_trans}
use Rattle.std.proofs.Math.Bool.{true, false, cond}
use Rattle.std.proofs.Math.Option.{none, some}
use native.Mathlib.Omega.{arith}
use Rattle.basics.proofs.Booleans.{holds}
use Rattle.basics.specs.Integers.{eq_z}
use Rattle.basics.proofs.Integers.{eq_z→eq, eq→eqZ}
use Rattle.words.specs.Words.{word}
use Rattle.words.specs.Tests.{Refusal, Test, first_failure, refusal_at, refusal_on}
use Rattle.words.specs.Answer.{Answer, refused, refuse, refuse_on, answer_after}
use Rattle.words.proofs.AnswerLaws.{passed_after, failed_after}
use Rattle.programs.specs.ProgramTests.{program_tests}
use Rattle.programs.specs.ProgramForm.{SizesForm, ProgramForm}
use Rattle.programs.proofs.ProgramForm.{program_form_lem}
use Rattle.programs.specs.ProgramRefusals.{ExitFails, StatementFails}
use Rattle.programs.proofs.ProgramRefusals.{first_one, first_two, first_three}
use Rattle.certificates.specs.CertificateWords.{stored_form}
use Rattle.certificates.specs.CertificateTests.{answer_in, certificate_tests, certificate_answer}
use Rattle.certificates.specs.CertificateForm.{CertificateHeader}
use Rattle.certificates.proofs.CertificateForm.{certificate_form_lem}
use Rattle.certificates.specs.CertificateRefusals.{EntryFails, EntryLoose, EntryConstant, RowsLeft}
use Rattle.certificates.proofs.CertificateRefusals as certificates
use Rattle.traces.specs.TraceWords.{trace_mark, entry_values_from}
use Rattle.traces.specs.TraceTests.{trace_tests}
use Rattle.traces.specs.TraceForm.{TraceHeader}
use Rattle.traces.proofs.TraceForm.{trace_form_lem}
use Rattle.traces.specs.TraceRefusals.{ValueFails}
use Rattle.traces.proofs.TraceRefusals as traces
use Rattle.traces.specs.Replay.{trace_answer}
use Rattle.traces.specs.ReplayRefusals.{Ends}
use Rattle.traces.proofs.ReplayRefusals.{ends_place}
use Rattle.checker.specs.Demand2.{Forms, UnreadAt, MisfitAt, LeftAt}
use Rattle.checker.proofs.Demand2.{formed_six, formed_seven, formed_eight, never_traced}
use Rattle.checker.specs.Demand2Traces.{TraceForms}
use Rattle.checker.proofs.Demand2Traces.{answers_trace}
use Rattle.checker.specs.RefusedTraces.{TooShort, LeftUnused}
use Rattle.checker.proofs.RefusedTraces.{tests_refused, formed_replay, formed_thirteen, formed_fourteen}
use Rattle.checker.proofs.EachRefusal.{refused_after}
use Rattle.checker.proofs.RefusalNumbers.{program_tests_lem, certificate_tests_lem, trace_tests_lem, concluded_number, certificate_number, trace_number}
use Rattle.checker.specs.Check.{judged, replayed, check}
use Rattle.checker.specs.Refusals.{HeaderFails}

-- what holds only where a form does, and there if and only if C does
where_formed : {A Form C : Type 0} → (A → Form) → (Form → A ↔ C) → A ↔ (Form × C)
where_formed formed same = (λ a. (formed a, (same (formed a)).0 a), λ x. (same x.0).1 x.1)

-- tests that have no such refusal passed before it
passed_before : {r : Refusal} (ts : List Test) (a : Answer) → (first_failure ts ≡ some r → ⊥) → answer_after (first_failure ts) a ≡ refused r → first_failure ts ≡ none
passed_before {r} ts a other = refused_after r (first_failure ts) a (λ q. absurd (other q)) (λ q d. q)

module _ (program witness : List ℤ) where
  mark_of : (word witness 0 ≡ pos trace_mark) ⊎ (word witness 0 ≡ pos trace_mark → ⊥)
  mark_of = go (eq_z (word witness 0) (pos trace_mark)) refl
    where
      go : (b : Bool) → eq_z (word witness 0) (pos trace_mark) ≡ b → (word witness 0 ≡ pos trace_mark) ⊎ (word witness 0 ≡ pos trace_mark → ⊥)
      go true q = inl (eq_z→eq (word witness 0) (pos trace_mark) (holds q))
      go false q = inr (λ k. rw q at (eq→eqZ k))

  module _ (buffer : ℕ) where
    -- ---- 1, 2 and 3

    answers_program : (r : Refusal) → r.number ≤ 3 → (check program witness buffer ≡ refused r) ↔ (first_failure (program_tests program) ≡ some r)
    unfolding check judged replayed
    answers_program r h = go (eq_z (word witness 0) (pos trace_mark))
      where
        go : (b : Bool) → (cond b (replayed program witness buffer) (judged program witness) ≡ refused r) ↔ (first_failure (program_tests program) ≡ some r)
        go true = failed_after (first_failure (program_tests program)) (trace_answer program witness buffer) r (λ q e. let x = trace_number program witness buffer ((program_form_lem program).0 q) r e in omega arith)
        go false = failed_after (first_failure (program_tests program)) (certificate_answer program witness) r (λ q e. let x = certificate_number program witness r e in omega arith)

    pub refused_one : (place : ℕ) → (check program witness buffer ≡ refuse 1 place) ↔ ((place ≡ 0) × ¬ SizesForm program)
    refused_one place = iff_trans (answers_program (refusal_at 1 place) (omega arith)) (first_one program place)

    pub refused_two : (place : ℕ) → (check program witness buffer ≡ refuse 2 place) ↔ ExitFails program place
    refused_two place = iff_trans (answers_program (refusal_at 2 place) (omega arith)) (first_two program place)

    pub refused_three : (place line : ℕ) → (check program witness buffer ≡ refuse_on 3 place line) ↔ StatementFails program place line
    refused_three place line = iff_trans (answers_program (refusal_on 3 place line) (omega arith)) (first_three program place line)

    -- ---- which part answered, by the number

    answers_certificate : ProgramForm program → (word witness 0 ≡ pos trace_mark → ⊥) → check program witness buffer ≡ certificate_answer program witness
    unfolding check judged
    answers_certificate f other = go (eq_z (word witness 0) (pos trace_mark)) refl
      where
        go : (b : Bool) → eq_z (word witness 0) (pos trace_mark) ≡ b → cond b (replayed program witness buffer) (judged program witness) ≡ certificate_answer program witness
        go true q = absurd (other (eq_z→eq (word witness 0) (pos trace_mark) (holds q)))
        go false q = (passed_after (first_failure (program_tests program)) (certificate_answer program witness) ((program_form_lem program).1 f)).1 refl

    module _ {r : Refusal} (e : check program witness buffer ≡ refused r) where
      -- from 4 on the program's tests passed
      formed : 4 ≤ r.number → ProgramForm program
      formed h = (program_form_lem program).0 (go (eq_z (word witness 0) (pos trace_mark)) (unfold check in e))
        where
          other : first_failure (program_tests program) ≡ some r → ⊥
          other q = let x = program_tests_lem program r q in omega arith

          go : (b : Bool) → cond b (replayed program witness buffer) (judged program witness) ≡ refused r → first_failure (program_tests program) ≡ none
          go true e = passed_before (program_tests program) (trace_answer program witness buffer) other (unfold replayed in e)
          go false e = passed_before (program_tests program) (certificate_answer program witness) other (unfold judged in e)

      -- 5 to 8, 15 and 25 are no numbers of a trace
      no_trace : 5 ≤ r.number → (9 ≤ r.number → 15 ≤ r.number) → word witness 0 ≡ pos trace_mark → ⊥
      no_trace l h k =
          let f : ProgramForm program = formed (omega arith) in
          let x = trace_number program witness buffer f r (sym (answers_trace program witness buffer f k) ∙ e) in
          let more : 15 ≤ r.number = h (x.2 l) in omega arith

      -- 9 to 14 are a trace's alone
      is_trace_lem : 9 ≤ r.number → r.number ≤ 14 → word witness 0 ≡ pos trace_mark
      is_trace_lem h most = go mark_of
        where
          go : (word witness 0 ≡ pos trace_mark) ⊎ (word witness 0 ≡ pos trace_mark → ⊥) → word witness 0 ≡ pos trace_mark
          go (inl k) = k
          go (inr other) = absurd (let x = certificate_number program witness r (sym (answers_certificate (formed (omega arith)) other) ∙ e) in let more : 15 ≤ r.number = x.2 h in omega arith)

      -- 6 to 8 come after a certificate's tests, and 10 to 14 after a trace's
      certificate_formed : 6 ≤ r.number → r.number ≤ 8 → Forms program witness
      unfolding answer_in
      certificate_formed l h =
          let f : ProgramForm program = formed (omega arith) in
          let a = sym (answers_certificate f (no_trace (omega arith) (λ m. absurd (omega arith)))) ∙ e in
          let passed = passed_before (certificate_tests program witness) _ (λ q. let x = certificate_tests_lem program witness (stored_form witness) r q in let more : 15 ≤ r.number = x.2 l in omega arith) a in
          record { program_form = f; certificate_form = (certificate_form_lem program witness (stored_form witness)).0 passed }

      trace_formed : 10 ≤ r.number → r.number ≤ 14 → TraceForms program witness
      unfolding trace_answer
      trace_formed h most =
          let f : ProgramForm program = formed (omega arith) in
          let a = sym (answers_trace program witness buffer f (is_trace_lem (omega arith) most)) ∙ e in
          let passed = passed_before (trace_tests program witness) _ (λ q. let x = trace_tests_lem program witness r q in omega arith) a in
          record { program_form = f; trace_form = (trace_form_lem program witness).0 passed }

    -- ---- 4, 5, 25 and 15

    -- where the program has the form, these are answered by a certificate's tests, if it is no trace, and 4 and 9 by a trace's
    by_certificate : (r : Refusal) → (6 ≤ r.number → 9 ≤ r.number) → ProgramForm program → ¬ (word witness 0 ≡ pos trace_mark)
        → (check program witness buffer ≡ refused r) ↔ (first_failure (certificate_tests program witness) ≡ some r)
    unfolding answer_in
    by_certificate r h f other =
        rw (answers_certificate f other)
        (failed_after (first_failure (certificate_tests program witness)) _ r (λ q e. let x = concluded_number program witness r e in let more : 9 ≤ r.number = h x.0 in omega arith))

    pub refused_four : (place : ℕ) → (check program witness buffer ≡ refuse 4 place) ↔ ((place ≡ 0) × (HeaderFails program witness))
    refused_four place = (λ e. there e mark_of, λ x. back x.0 x.1.program_form x.1.wrong)
      where
        there : check program witness buffer ≡ refuse 4 place → (word witness 0 ≡ pos trace_mark) ⊎ (word witness 0 ≡ pos trace_mark → ⊥) → (place ≡ 0) × (HeaderFails program witness)
        there e (inl k) =
            let f = formed e (omega arith) in
            let x = (traces.first_four program witness place).0 ((tests_refused program witness buffer (refusal_at 4 place) (omega arith) f k).0 e) in
            (x.0, record { program_form = f; wrong = inl (k, x.1) })
        there e (inr other) =
            let f = formed e (omega arith) in
            let x = (certificates.first_four program witness (stored_form witness) place).0 ((by_certificate (refusal_at 4 place) (λ h. absurd (omega arith)) f other).0 e) in
            (x.0, record { program_form = f; wrong = inr (other, x.1) })

        back : place ≡ 0 → ProgramForm program → ((word witness 0 ≡ pos trace_mark) × ¬ TraceHeader program witness) ⊎ (¬ (word witness 0 ≡ pos trace_mark) × ¬ CertificateHeader program witness)
            → check program witness buffer ≡ refuse 4 place
        back z f (inl (k, h)) = (tests_refused program witness buffer (refusal_at 4 place) (omega arith) f k).1 ((traces.first_four program witness place).1 (z, h))
        back z f (inr (other, h)) = (by_certificate (refusal_at 4 place) (λ h. absurd (omega arith)) f other).1 ((certificates.first_four program witness (stored_form witness) place).1 (z, h))

    -- 5, 25 and 15: a certificate's header tells that it is no trace
    entry_refused : (number place : ℕ) {Fails : Type 0} → 5 ≤ number → (6 ≤ number → 15 ≤ number)
        → (first_failure (certificate_tests program witness) ≡ some (refusal_at number place)) ↔ (CertificateHeader program witness × Fails)
        → (check program witness buffer ≡ refuse number place) ↔ (ProgramForm program × CertificateHeader program witness × Fails)
    entry_refused number place {Fails} l h first = (there, back)
      where
        tested : ProgramForm program → ¬ (word witness 0 ≡ pos trace_mark) → (check program witness buffer ≡ refuse number place) ↔ (CertificateHeader program witness × Fails)
        tested f other = iff_trans (by_certificate (refusal_at number place) (λ k. let m = h k in omega arith) f other) first

        there : check program witness buffer ≡ refuse number place → ProgramForm program × CertificateHeader program witness × Fails
        there e = let f = formed e (omega arith) in let x = (tested f (no_trace e l (λ k. h (omega arith)))).0 e in (f, x.0, x.1)

        back : ProgramForm program × CertificateHeader program witness × Fails → check program witness buffer ≡ refuse number place
        back (f, c, x) = (tested f (λ k. never_traced (stored_form witness) c.mark k)).1 (c, x)

    pub refused_five : (place : ℕ) → (check program witness buffer ≡ refuse 5 place) ↔ (ProgramForm program × CertificateHeader program witness × EntryFails program witness (stored_form witness) place)
    refused_five place = entry_refused 5 place (omega arith) (λ h. omega arith) (certificates.first_five program witness (stored_form witness) place)

    pub refused_fifteen : (place : ℕ) → (check program witness buffer ≡ refuse 15 place) ↔ (ProgramForm program × CertificateHeader program witness × EntryConstant program witness (stored_form witness) place)
    refused_fifteen place = entry_refused 15 place (omega arith) (λ h. omega arith) (certificates.first_fifteen program witness (stored_form witness) place)

    pub refused_twenty_five : (place : ℕ) → (check program witness buffer ≡ refuse 25 place)
        ↔ (ProgramForm program × CertificateHeader program witness × (EntryLoose program witness (stored_form witness) place ⊎ RowsLeft program witness (stored_form witness) place))
    refused_twenty_five place = entry_refused 25 place (omega arith) (λ h. omega arith) (certificates.first_twenty_five program witness (stored_form witness) place)

    -- ---- 6, 7 and 8

    pub refused_six : (place : ℕ) → (check program witness buffer ≡ refuse 6 place) ↔ (Forms program witness × UnreadAt program witness place)
    refused_six place = where_formed (λ e. certificate_formed e (omega arith) (omega arith)) (formed_six program witness buffer place)

    pub refused_seven : (place : ℕ) → (check program witness buffer ≡ refuse 7 place) ↔ (Forms program witness × MisfitAt program witness place)
    refused_seven place = where_formed (λ e. certificate_formed e (omega arith) (omega arith)) (formed_seven program witness buffer place)

    pub refused_eight : (place : ℕ) → (check program witness buffer ≡ refuse 8 place) ↔ (Forms program witness × LeftAt program witness place)
    refused_eight place = where_formed (λ e. certificate_formed e (omega arith) (omega arith)) (formed_eight program witness buffer place)

    -- ---- 9

    pub refused_nine : (place : ℕ) → (check program witness buffer ≡ refuse 9 place) ↔ (ProgramForm program × ValueFails program witness place)
    refused_nine place = (there, λ x. (tested x.0 x.1.header.mark).1 x.1)
      where
        tested : ProgramForm program → word witness 0 ≡ pos trace_mark → (check program witness buffer ≡ refuse 9 place) ↔ ValueFails program witness place
        tested f k = iff_trans (tests_refused program witness buffer (refusal_at 9 place) (omega arith) f k) (traces.first_nine program witness place)

        there : check program witness buffer ≡ refuse 9 place → ProgramForm program × ValueFails program witness place
        there e = let f = formed e (omega arith) in (f, (tested f (is_trace_lem e (omega arith) (omega arith))).0 e)

    -- ---- 10 to 14

    pub refused_replay : (r : Refusal) → 10 ≤ r.number → r.number ≤ 12 → (check program witness buffer ≡ refused r) ↔ (TraceForms program witness × Ends program witness r)
    refused_replay r l h = where_formed (λ e. trace_formed e l (omega arith)) (λ f. formed_replay program witness buffer f r h)

    pub refused_thirteen : (place : ℕ) → (check program witness buffer ≡ refuse 13 place) ↔ (TraceForms program witness × TooShort program witness buffer place)
    refused_thirteen place = where_formed (λ e. trace_formed e (omega arith) (omega arith)) (formed_thirteen program witness buffer place)

    pub refused_fourteen : (place : ℕ) → (check program witness buffer ≡ refuse 14 place) ↔ (TraceForms program witness × (Ends program witness (refusal_at 14 place) ⊎ LeftUnused program witness place))
    refused_fourteen place = where_formed (λ e. trace_formed e (omega arith) (omega arith)) (formed_fourteen program witness buffer place)

    -- each cause by itself: a missing entry value is refused at a vertex, and one left over behind them
    pub refused_missing : (place : ℕ) → place < entry_values_from program witness → (check program witness buffer ≡ refuse 14 place) ↔ (TraceForms program witness × Ends program witness (refusal_at 14 place))
    refused_missing place h = iff_trans (refused_fourteen place) (λ x. (x.0, there x.1), λ x. (x.0, inl x.1))
      where
        there : Ends program witness (refusal_at 14 place) ⊎ LeftUnused program witness place → Ends program witness (refusal_at 14 place)
        there (inl x) = x
        there (inr x) = absurd (omega (arith, x.stands))

    pub refused_left : (place : ℕ) → entry_values_from program witness ≤ place → (check program witness buffer ≡ refuse 14 place) ↔ (TraceForms program witness × LeftUnused program witness place)
    refused_left place h = iff_trans (refused_fourteen place) (λ x. (x.0, there x.1), λ x. (x.0, inr x.1))
      where
        there : Ends program witness (refusal_at 14 place) ⊎ LeftUnused program witness place → LeftUnused program witness place
        there (inl x) = absurd (omega (arith, ends_place x))
        there (inr x) = x
