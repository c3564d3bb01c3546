-- What the conversions refuse, if and only if, places included: the program's tests (1 to 3); then the tests of the form that is read alone (4, 5, 25,
-- 15), where the program has the form; then, where both have the form, "too little room or a result past 1,000,000 words with 26 at 0".
use Rattle.std.specs.Prelude.{◌≡◌, refl, ◌↔◌, ◌⊎◌, List, [], ◌∷◌, ◌++◌, ℕ, ◌≤◌, ℤ}
use Rattle.std.proofs.Common.{inl, inr}
use Rattle.std.proofs.Math.Logic.Iff.{trans as iff_trans}
use Rattle.std.proofs.Math.Option.{some}
use native.Mathlib.Omega.{arith}
use Rattle.words.specs.declared.StoredForm.{StoredForm}
use Rattle.words.specs.Tests.{Refusal, first_failure, refusal_at, refusal_on}
use Rattle.words.specs.FirstFailure.{AllPass}
use Rattle.words.proofs.FirstFailure.{no_failure, append_fails, sooner_fails, later_fails}
use Rattle.words.proofs.Writing.{buffer_fails, unwritten_after}
use Rattle.programs.specs.ProgramTests.{program_tests}
use Rattle.programs.specs.ProgramForm.{SizesForm, ProgramForm}
use Rattle.programs.proofs.ProgramForm.{program_form_lem}
use Rattle.programs.specs.ProgramRefusals.{ExitFails, StatementFails}
use Rattle.programs.proofs.ProgramRefusals.{first_one, first_two, first_three}
use Rattle.certificates.specs.CertificateTests.{tests_in}
use Rattle.certificates.specs.CertificateForm.{HeaderIn, FormIn}
use Rattle.certificates.proofs.CertificateForm.{certificate_form_lem}
use Rattle.certificates.specs.CertificateRefusals.{EntryFails, EntryLoose, EntryConstant, RowsLeft}
use Rattle.certificates.proofs.CertificateRefusals.{first_four, first_five, first_fifteen, first_twenty_five}
use Rattle.checker.proofs.RefusalNumbers.{program_tests_lem, certificate_tests_lem}
use Rattle.conversions.specs.Conversions.{other_words, conversion_tests, converted}
use Rattle.conversions.specs.RoundTrips.{Fits}
use Rattle.conversions.specs.ConversionRefusals.{ConversionNumber, Refuses, last}

module _ (program witness : List ℤ) (form : StoredForm) (buffer : ℕ) where
  refused_iff : (r : Refusal) → (Refuses program witness form buffer) r ↔ (first_failure (conversion_tests program witness form buffer) ≡ some r)
  unfolding converted
  refused_iff r = unwritten_after (first_failure (conversion_tests program witness form buffer)) (other_words program witness form) r

  last_fails : (r : Refusal) → (first_failure ((last program witness form buffer) ∷ []) ≡ some r) ↔ ((r.number ≡ 26) × (r.place ≡ 0) × (r.line ≡ 0) × ¬ Fits program witness form buffer)
  last_fails r = buffer_fails (other_words program witness form) buffer r

  -- the numbers of each part
  later_number : (r : Refusal) → first_failure (tests_in program witness form ++ ((last program witness form buffer) ∷ [])) ≡ some r → 4 ≤ r.number
  later_number r e = go ((append_fails (tests_in program witness form) ((last program witness form buffer) ∷ []) r).0 e)
    where
      go : (first_failure (tests_in program witness form) ≡ some r) ⊎ (AllPass (tests_in program witness form) × (first_failure ((last program witness form buffer) ∷ []) ≡ some r)) → 4 ≤ r.number
      go (inl q) = (certificate_tests_lem program witness form r q).0
      go (inr (a, q)) = omega (arith, ((last_fails r).0 q).0)

  -- ---- 1 to 3

  of_program_lem : (r : Refusal) → r.number ≤ 3 → (Refuses program witness form buffer) r ↔ (first_failure (program_tests program) ≡ some r)
  unfolding conversion_tests
  of_program_lem r h = iff_trans (refused_iff r) (sooner_fails (program_tests program) (tests_in program witness form ++ ((last program witness form buffer) ∷ [])) r (λ e. omega (arith, later_number r e)))

  pub unwritten_one : (place : ℕ) → (Refuses program witness form buffer) (refusal_at 1 place) ↔ ((place ≡ 0) × ¬ SizesForm program)
  unwritten_one place = iff_trans (of_program_lem (refusal_at 1 place) (omega arith)) (first_one program place)

  pub unwritten_two : (place : ℕ) → (Refuses program witness form buffer) (refusal_at 2 place) ↔ ExitFails program place
  unwritten_two place = iff_trans (of_program_lem (refusal_at 2 place) (omega arith)) (first_two program place)

  pub unwritten_three : (place line : ℕ) → (Refuses program witness form buffer) (refusal_on 3 place line) ↔ StatementFails program place line
  unwritten_three place line = iff_trans (of_program_lem (refusal_on 3 place line) (omega arith)) (first_three program place line)

  -- ---- where the program has the form

  after_program : (r : Refusal) → 4 ≤ r.number → (Refuses program witness form buffer) r ↔ (ProgramForm program × (first_failure (tests_in program witness form ++ ((last program witness form buffer) ∷ [])) ≡ some r))
  unfolding conversion_tests
  after_program r h =
      iff_trans (refused_iff r)
      (iff_trans (later_fails (program_tests program) (tests_in program witness form ++ ((last program witness form buffer) ∷ [])) r (λ e. let x = program_tests_lem program r e in omega arith))
      (λ x. ((program_form_lem program).0 ((no_failure (program_tests program)).1 x.0), x.1), λ x. ((no_failure (program_tests program)).0 ((program_form_lem program).1 x.0), x.1)))

  of_certificate : (r : Refusal) → 4 ≤ r.number → r.number ≤ 25 → (Refuses program witness form buffer) r ↔ (ProgramForm program × (first_failure (tests_in program witness form) ≡ some r))
  of_certificate r l h =
      let s = sooner_fails (tests_in program witness form) ((last program witness form buffer) ∷ []) r (λ e. omega (arith, ((last_fails r).0 e).0)) in
      iff_trans (after_program r l) (λ x. (x.0, s.0 x.1), λ x. (x.0, s.1 x.1))

  both : {A B : Type 0} → A ↔ B → (ProgramForm program × A) ↔ (ProgramForm program × B)
  both i = (λ x. (x.0, i.0 x.1), λ x. (x.0, i.1 x.1))

  -- "any kind but the one they read is 4"
  pub unwritten_four : (place : ℕ) → (Refuses program witness form buffer) (refusal_at 4 place) ↔ (ProgramForm program × ((place ≡ 0) × ¬ HeaderIn program witness form))
  unwritten_four place = iff_trans (of_certificate (refusal_at 4 place) (omega arith) (omega arith)) (both (first_four program witness form place))

  pub unwritten_five : (place : ℕ) → (Refuses program witness form buffer) (refusal_at 5 place) ↔ (ProgramForm program × (HeaderIn program witness form × EntryFails program witness form place))
  unwritten_five place = iff_trans (of_certificate (refusal_at 5 place) (omega arith) (omega arith)) (both (first_five program witness form place))

  pub unwritten_fifteen : (place : ℕ) → (Refuses program witness form buffer) (refusal_at 15 place) ↔ (ProgramForm program × (HeaderIn program witness form × EntryConstant program witness form place))
  unwritten_fifteen place = iff_trans (of_certificate (refusal_at 15 place) (omega arith) (omega arith)) (both (first_fifteen program witness form place))

  pub unwritten_twenty_five : (place : ℕ) → (Refuses program witness form buffer) (refusal_at 25 place) ↔ (ProgramForm program × (HeaderIn program witness form × (EntryLoose program witness form place ⊎ RowsLeft program witness form place)))
  unwritten_twenty_five place = iff_trans (of_certificate (refusal_at 25 place) (omega arith) (omega arith)) (both (first_twenty_five program witness form place))

  -- ---- 26

  pub unwritten_twenty_six : (place : ℕ) → (Refuses program witness form buffer) (refusal_at 26 place) ↔ (ProgramForm program × (FormIn program witness form × ((place ≡ 0) × ¬ Fits program witness form buffer)))
  unwritten_twenty_six place =
      let r : Refusal = refusal_at 26 place in
      let l = later_fails (tests_in program witness form) ((last program witness form buffer) ∷ []) r (λ e. omega (arith, (certificate_tests_lem program witness form r e).1)) in
      let f = certificate_form_lem program witness form in
      iff_trans (after_program r (omega arith)) (both (
        λ e. let x = l.0 e in let z = (last_fails r).0 x.1 in (f.0 ((no_failure (tests_in program witness form)).1 x.0), (z.1, z.3)),
        λ x. l.1 ((no_failure (tests_in program witness form)).0 (f.1 x.0), (last_fails r).1 (refl, x.1.0, refl, x.1.1)),
      ))

  -- ---- and no others

  pub conversion_number : (r : Refusal) → (Refuses program witness form buffer) r → ConversionNumber r
  unfolding conversion_tests
  conversion_number r e = go ((append_fails (program_tests program) (tests_in program witness form ++ ((last program witness form buffer) ∷ [])) r).0 ((refused_iff r).0 e))
    where
      of_rest : (first_failure (tests_in program witness form) ≡ some r) ⊎ (AllPass (tests_in program witness form) × (first_failure ((last program witness form buffer) ∷ []) ≡ some r)) → ConversionNumber r
      of_rest (inl q) = let x = certificate_tests_lem program witness form r q in (omega (arith, x.0), omega (arith, x.1), x.2, x.3)
      of_rest (inr (a, q)) = let x = ((last_fails r).0 q).0 in (omega arith, omega arith, λ h. omega arith, λ h. omega arith)

      go : (first_failure (program_tests program) ≡ some r) ⊎ (AllPass (program_tests program) × (first_failure (tests_in program witness form ++ ((last program witness form buffer) ∷ [])) ≡ some r)) → ConversionNumber r
      go (inl q) = let x = program_tests_lem program r q in (omega arith, omega arith, λ h. omega arith, λ h. omega arith)
      go (inr (a, q)) = of_rest ((append_fails (tests_in program witness form) ((last program witness form buffer) ∷ []) r).0 q)
