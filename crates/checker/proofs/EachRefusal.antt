-- The refusals one by one: what holds of each test's refusal, and of what is refused after the tests, holds of every refusal. A failing test's
-- refusal is that of one of the tests: 1 to 3 of a program, 4, 5, 25 and 15 of a certificate, 4 and 9 of a trace. Only that of 3 has a line.
use Rattle.std.specs.Prelude.{◌≡◌, refl, ◌⊎◌, Bool, ℕ, ◌+◌, ℤ, pos}
use Rattle.std.proofs.Common.{sym, ap, subst, inl, inr}
use Rattle.std.proofs.Math.Bool.{true, false, cond}
use mathlib.Core.List.Memᴰ
use mathlib.Core.List.{List, [], ◌∷◌, Memᴰ}
use Rattle.std.proofs.Math.Option.{Option, none, some}
use Rattle.basics.specs.Integers.{eq_z}
use Rattle.basics.specs.Lists.{listed, gathered}
use Rattle.basics.proofs.Lists.{member_listed, member_gathered}
use Rattle.words.specs.declared.StoredForm.{StoredForm}
use Rattle.words.specs.Words.{word}
use Rattle.words.specs.Tests.{Refusal, Test, test, first_failure, refusal_at, refusal_on}
use Rattle.words.specs.FirstFailure.{FirstFails}
use Rattle.words.proofs.FirstFailure.{first_failure_lem}
use Rattle.words.specs.Answer.{Answer, refused, answer_after}
use Rattle.words.proofs.AnswerLaws.{same_refusal}
use Rattle.programs.specs.ProgramWords.{n, p}
use Rattle.programs.specs.ProgramTests.{exit_test, statement_test, program_tests}
use Rattle.programs.specs.ProgramForm.{ProgramForm}
use Rattle.programs.proofs.ProgramForm.{program_form_lem}
use Rattle.certificates.specs.CertificateWords.{entries}
use Rattle.certificates.specs.CertificateTests.{entry_tests, rows_used, tests_in, certificate_answer}
use Rattle.traces.specs.TraceWords.{trace_mark, E, starts}
use Rattle.traces.specs.TraceTests.{start_test, entry_value_test, trace_tests}
use Rattle.traces.specs.Replay.{trace_answer}
use Rattle.checker.specs.Check.{judged, replayed, check}

-- a refusal is a failed test's, or comes after tests that passed
pub refused_after : {C : Type 0} (r : Refusal) (o : Option Refusal) (a : Answer) → (o ≡ some r → C) → (o ≡ none → a ≡ refused r → C) → answer_after o a ≡ refused r → C
unfolding answer_after
refused_after r none a f g e = g refl e
refused_after r (some q) a f g e = f (ap some (same_refusal e))

module _ (Holds : Refusal → Type 0) where
  each_test : (ts : List Test) (r : Refusal) → ((t : Test) → Memᴰ t ts → Holds t.refusal) → first_failure ts ≡ some r → Holds r
  each_test ts r h e =
      let x : FirstFails ts r = (first_failure_lem ts r).0 e in
      subst Holds x.refuses (h x.failing (subst (Memᴰ x.failing) (sym x.splits) (Memᴰ.append_right x.earlier (Memᴰ.head refl))))

  module _ (program : List ℤ) (one : Holds (refusal_at 1 0)) (two : (place : ℕ) → Holds (refusal_at 2 place)) (three : (place line : ℕ) → Holds (refusal_on 3 place line)) where
    program_test : (t : Test) → Memᴰ t (program_tests program) → Holds t.refusal
    unfolding program_tests exit_test statement_test
    program_test t (Memᴰ.head e) = rw e one
    program_test t (Memᴰ.tail (Memᴰ.head e)) = rw e one
    program_test t (Memᴰ.tail (Memᴰ.tail m)) = go (Memᴰ.append_cases (listed (exit_test program) (p program)) m)
      where
        go : Memᴰ t (listed (exit_test program) (p program)) ⊎ Memᴰ t (listed (statement_test program) (n program)) → Holds t.refusal
        go (inl m) = let x = member_listed (exit_test program) (p program) m in rw x.2 (two _)
        go (inr m) = let x = member_listed (statement_test program) (n program) m in rw x.2 (three _ _)

    pub each_of_program : (r : Refusal) → first_failure (program_tests program) ≡ some r → Holds r
    each_of_program r = each_test (program_tests program) r program_test

    -- of the check: of the program's tests, and of the answers to a trace and to a certificate after them
    pub each_of_check : (witness : List ℤ) (buffer : ℕ) (r : Refusal) → (ProgramForm program → trace_answer program witness buffer ≡ refused r → Holds r)
        → (certificate_answer program witness ≡ refused r → Holds r) → check program witness buffer ≡ refused r → Holds r
    unfolding check judged replayed
    each_of_check witness buffer r ofTrace ofCertificate e = go (eq_z (word witness 0) (pos trace_mark)) e
      where
        go : (b : Bool) → cond b (replayed program witness buffer) (judged program witness) ≡ refused r → Holds r
        go true e = refused_after r (first_failure (program_tests program)) _ (each_of_program r) (λ q. ofTrace ((program_form_lem program).0 q)) e
        go false e = refused_after r (first_failure (program_tests program)) _ (each_of_program r) (λ q. ofCertificate) e

  module _ (program witness : List ℤ) (four : Holds (refusal_at 4 0)) where
    pub each_of_certificate : (form : StoredForm) → ((place : ℕ) → Holds (refusal_at 5 place)) → ((place : ℕ) → Holds (refusal_at 25 place)) → ((place : ℕ) → Holds (refusal_at 15 place)) → (r : Refusal)
        → first_failure (tests_in program witness form) ≡ some r → Holds r
    unfolding tests_in entry_tests
    each_of_certificate form five twenty_five fifteen r = each_test (tests_in program witness form) r go
      where
        of_entry : (i : ℕ) (t : Test) → Memᴰ t (entry_tests program witness form i) → Holds t.refusal
        of_entry i t (Memᴰ.head e) = rw e (five _)
        of_entry i t (Memᴰ.tail (Memᴰ.head e)) = rw e (twenty_five _)
        of_entry i t (Memᴰ.tail (Memᴰ.tail (Memᴰ.head e))) = rw e (fifteen _)
        of_entry i t (Memᴰ.tail (Memᴰ.tail (Memᴰ.tail m))) = absurd (Memᴰ.not-nil m)

        of_rows : (t : Test) → Memᴰ t (gathered (entry_tests program witness form) (entries program witness)) ⊎ Memᴰ t (test 25 1 (rows_used program witness form) ∷ []) → Holds t.refusal
        of_rows t (inl m) = let x = member_gathered (entry_tests program witness form) (entries program witness) m in of_entry (x.0 + 1) t x.2
        of_rows t (inr (Memᴰ.head e)) = rw e (twenty_five _)
        of_rows t (inr (Memᴰ.tail m)) = absurd (Memᴰ.not-nil m)

        go : (t : Test) → Memᴰ t (tests_in program witness form) → Holds t.refusal
        go t (Memᴰ.head e) = rw e four
        go t (Memᴰ.tail m) = of_rows t (Memᴰ.append_cases (gathered (entry_tests program witness form) (entries program witness)) m)

    pub each_of_trace : ((place : ℕ) → Holds (refusal_at 9 place)) → (r : Refusal) → first_failure (trace_tests program witness) ≡ some r → Holds r
    unfolding trace_tests start_test entry_value_test
    each_of_trace nine r = each_test (trace_tests program witness) r go
      where
        of_value : (t : Test) → Memᴰ t (listed (start_test program witness) (starts program witness)) ⊎ Memᴰ t (listed (entry_value_test program witness) (E program witness)) → Holds t.refusal
        of_value t (inl m) = let x = member_listed (start_test program witness) (starts program witness) m in rw x.2 (nine _)
        of_value t (inr m) = let x = member_listed (entry_value_test program witness) (E program witness) m in rw x.2 (nine _)

        go : (t : Test) → Memᴰ t (trace_tests program witness) → Holds t.refusal
        go t (Memᴰ.head e) = rw e four
        go t (Memᴰ.tail m) = of_value t (Memᴰ.append_cases (listed (start_test program witness) (starts program witness)) m)
