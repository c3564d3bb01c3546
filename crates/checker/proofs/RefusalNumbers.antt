-- Which numbers are answered: 1 to 3 for a program, 4 to 8, 15 and 25 for a certificate, 4 and 9 to 14 for a trace, and so 1 to 15 and 25 alone. A
-- failing test's number is that of one of the tests, and what is answered after the tests is numbered by the definitions of the answers.
use Rattle.std.specs.Prelude.{◌≡◌, ◌⊎◌, List, ℕ, ℤ, length}
use Rattle.std.proofs.Common.{inl, inr}
use Rattle.std.proofs.Math.Option.{some}
use native.Mathlib.Omega.{arith}
use Rattle.words.specs.declared.StoredForm.{StoredForm}
use Rattle.words.specs.Tests.{Refusal, first_failure}
use Rattle.words.specs.Answer.{refused}
use Rattle.programs.specs.ProgramTests.{program_tests}
use Rattle.programs.specs.ProgramForm.{ProgramForm}
use Rattle.certificates.specs.CertificateWords.{stored_form, witness_words}
use Rattle.certificates.specs.CertificateTests.{tests_in, answer_in, certificate_tests, certificate_answer}
use Rattle.certificates.specs.Conclusions.{conclusion}
use Rattle.certificates.proofs.Conclusions.{refusals}
use Rattle.traces.specs.TraceTests.{trace_tests}
use Rattle.traces.specs.Replay.{trace_answer}
use Rattle.checker.specs.Demand2.{listed_entailments}
use Rattle.checker.specs.RefusedTraces.{Numbered}
use Rattle.checker.proofs.RefusedTraces.{replayed_number}
use Rattle.checker.proofs.EachRefusal.{refused_after, each_of_program, each_of_check, each_of_certificate, each_of_trace}
use Rattle.checker.specs.Check.{judged, check}
use Rattle.checker.specs.RefusalNumbers.{CertificateNumber, CheckNumber, FourOrNine, JudgeNumber}

-- ---- tests

pub program_tests_lem : (program : List ℤ) (r : Refusal) → first_failure (program_tests program) ≡ some r → Numbered 1 3 r
program_tests_lem program = each_of_program (Numbered 1 3) program (omega arith) (λ place. omega arith) (λ place line. omega arith)

module _ (program witness : List ℤ) where
  pub certificate_tests_lem : (form : StoredForm) (r : Refusal) → first_failure (tests_in program witness form) ≡ some r → CertificateNumber 5 r
  certificate_tests_lem form =
      each_of_certificate (CertificateNumber 5) program witness (omega arith, omega arith, λ h. omega arith, λ h. omega arith) form (λ place. (omega arith, omega arith, λ h. omega arith, λ h. omega arith))
      (λ place. (omega arith, omega arith, λ h. omega arith, λ h. omega arith)) (λ place. (omega arith, omega arith, λ h. omega arith, λ h. omega arith))

  pub trace_tests_lem : (r : Refusal) → first_failure (trace_tests program witness) ≡ some r → FourOrNine 9 r
  trace_tests_lem = each_of_trace (FourOrNine 9) program witness (omega arith, omega arith, λ h. omega arith) (λ place. (omega arith, omega arith, λ h. omega arith))

  -- ---- the answers

  pub concluded_number : (r : Refusal) → conclusion (listed_entailments program witness) (witness_words program witness) (length witness) ≡ refused r → Numbered 6 8 r
  concluded_number r e = go (refusals (listed_entailments program witness) (witness_words program witness) (length witness) r e).0
    where
      go : (r.number ≡ 6) ⊎ ((r.number ≡ 7) ⊎ (r.number ≡ 8)) → Numbered 6 8 r
      go (inl e) = omega arith
      go (inr (inl e)) = omega arith
      go (inr (inr e)) = omega arith

  pub certificate_number : (r : Refusal) → certificate_answer program witness ≡ refused r → CertificateNumber 8 r
  unfolding answer_in
  certificate_number r e =
      refused_after r (first_failure (certificate_tests program witness)) _ (λ q. let x = certificate_tests_lem (stored_form witness) r q in (x.0, x.1, λ h. x.2 (omega arith), x.3))
      (λ q d. let x = concluded_number r d in (omega arith, omega arith, λ h. omega arith, λ h. omega arith)) e

  -- of the judge, which refuses all but certificates
  pub judged_number : (r : Refusal) → judged program witness ≡ refused r → JudgeNumber r
  unfolding judged
  judged_number r e =
      refused_after r (first_failure (program_tests program)) (certificate_answer program witness) (λ q. let x = program_tests_lem program r q in (omega arith, omega arith, λ h. omega arith, λ h. omega arith))
      (λ q d. let x = certificate_number r d in (omega arith, x.1, x.2, x.3)) e

  pub trace_number : (buffer : ℕ) → ProgramForm program → (r : Refusal) → trace_answer program witness buffer ≡ refused r → FourOrNine 14 r
  unfolding trace_answer
  trace_number buffer f r e =
      refused_after r (first_failure (trace_tests program witness)) _ (λ q. let x = trace_tests_lem r q in (x.0, omega arith, x.2))
      (λ q d. let x = replayed_number program witness buffer f r q d in (omega arith, omega arith, λ h. omega arith)) e

  -- of the check, whatever is checked
  pub refusal_number : (buffer : ℕ) (r : Refusal) → check program witness buffer ≡ refused r → CheckNumber r
  refusal_number buffer r =
      each_of_check CheckNumber program (omega arith, omega arith, λ h. omega arith) (λ place. (omega arith, omega arith, λ h. omega arith)) (λ place line. (omega arith, omega arith, λ h. omega arith)) witness buffer r
      (λ f d. let x = trace_number buffer f r d in (omega arith, omega arith, λ h. omega arith)) (λ d. let x = certificate_number r d in (omega arith, omega arith, x.3))
