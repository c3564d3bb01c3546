-- What refusals 1, 2 and 3 of a program say, if and only if, places included: 1 at 0 that the sizes or the total are wrong; 2 and 3 that all
-- that is tested before is right and that this is the first exit, or the first statement, that isn't. A number tells the tests of its kind
-- from the others, and a kind's tests are of one family.
use Rattle.std.specs.Prelude.{◌≡◌, ◌↔◌, ◌⊎◌, Bool, true, false, ◌&&◌, List, [], ◌∷◌, ◌++◌, ℕ, ◌+◌, ◌≤◌, ℤ}
use Rattle.std.proofs.Math.Path.{refl}
use Rattle.std.proofs.Common.{inl, inr, arith}
use Rattle.std.proofs.Math.Logic.Iff.{trans as iff_trans}
use Rattle.std.proofs.Math.Option.{some}
use Rattle.basics.proofs.Booleans.{both}
use Rattle.words.specs.Tests.{Refusal, test, first_failure, refusal_at, refusal_on}
use Rattle.words.specs.FirstFailure.{AllPass, FirstWrong, FirstWrongOn}
use Rattle.words.proofs.FirstFailure.{append_fails, sooner_fails, later_fails, test_fails, two_pass, pass_listed, first_listed, first_listed_on}
use Rattle.programs.specs.ProgramWords.{n, p}
use Rattle.programs.specs.ProgramTests.{sizes_pass, total_passes, exit_passes, row_line, statement_passes, exit_test, statement_test, program_tests}
use Rattle.programs.specs.ProgramForm.{SizesForm, ExitForm, StatementForm}
use Rattle.programs.proofs.ProgramForm.{sizes_form, exit_form, statement_form}
use Rattle.programs.specs.ProgramRefusals.{ExitFails, StatementFails, exit_tests, sizes_tests, statement_tests}

-- two tests with one refusal are one test
as_one : (number place : ℕ) (a b : Bool) → first_failure (test number place a ∷ test number place b ∷ []) ≡ first_failure (test number place (a && b) ∷ [])
unfolding first_failure
as_one number place true b = refl
as_one number place false b = refl

module _ (words : List ℤ) where
  tests_are : program_tests words ≡ (sizes_tests words) ++ ((exit_tests words) ++ (statement_tests words))
  unfolding program_tests exit_test statement_test
  tests_are = refl

  module _ (r : Refusal) where
    size_fails : (first_failure (sizes_tests words) ≡ some r) ↔ ((r.number ≡ 1) × (r.place ≡ 0) × (r.line ≡ 0) × ¬ SizesForm words)
    size_fails = rw as_one (test_fails 1 0 0 (sizes_pass words && total_passes words) (iff_trans (both (sizes_pass words) (total_passes words)) (sizes_form words)) r)

    exit_fails : (first_failure (exit_tests words) ≡ some r) ↔ ((r.number ≡ 2) × (r.line ≡ 0) × FirstWrong (p words) (ExitForm words) (λ q. 3 + (n words + q)) r.place)
    exit_fails = first_listed 2 (p words) (λ q. 3 + (n words + q)) (exit_passes words) (exit_form words) r

    statement_fails : (first_failure (statement_tests words) ≡ some r) ↔ ((r.number ≡ 3) × FirstWrongOn (n words) (StatementForm words) (λ v. 3 + v) (row_line words) r.place r.line)
    statement_fails = first_listed_on 3 (n words) (λ v. 3 + v) (row_line words) (statement_passes words) (λ v l. statement_form words v) r

    -- from 2 on the sizes and the total are right, and from 3 on the exits
    after_sizes : 2 ≤ r.number → (first_failure (program_tests words) ≡ some r) ↔ (SizesForm words × (first_failure ((exit_tests words) ++ (statement_tests words)) ≡ some r))
    after_sizes h =
        rw tests_are
        (iff_trans (later_fails (sizes_tests words) ((exit_tests words) ++ (statement_tests words)) r (λ e. let x = size_fails.0 e in omega (arith, x.0)))
        (λ x. ((sizes_form words).0 ((two_pass _ _).0 x.0), x.1), λ x. ((two_pass _ _).1 ((sizes_form words).1 x.0), x.1)))

    rest_number : first_failure ((exit_tests words) ++ (statement_tests words)) ≡ some r → 2 ≤ r.number
    rest_number e = go ((append_fails (exit_tests words) (statement_tests words) r).0 e)
      where
        go : (first_failure (exit_tests words) ≡ some r) ⊎ (AllPass (exit_tests words) × (first_failure (statement_tests words) ≡ some r)) → 2 ≤ r.number
        go (inl q) = omega (arith, (exit_fails.0 q).0)
        go (inr (a, q)) = omega (arith, (statement_fails.0 q).0)

  exits_pass : AllPass (exit_tests words) ↔ ((q : ℕ) → 1 ≤ q → q ≤ p words → ExitForm words q)
  exits_pass =
      iff_trans (pass_listed (λ q. test 2 (3 + (n words + q)) (exit_passes words q)) (p words)) (λ f q l h. (exit_form words q l).0 (f q l h), λ f q l h. (exit_form words q l).1 (f q l h))

  module _ (place : ℕ) where
    pub first_one : (first_failure (program_tests words) ≡ some (refusal_at 1 place)) ↔ ((place ≡ 0) × ¬ SizesForm words)
    first_one =
        let r : Refusal = refusal_at 1 place in
        rw tests_are
        (iff_trans (sooner_fails (sizes_tests words) ((exit_tests words) ++ (statement_tests words)) r (λ e. omega (arith, rest_number r e)))
        (iff_trans (size_fails r) (λ x. (x.1, x.3), λ x. (refl, x.0, refl, x.1))))

    pub first_two : (first_failure (program_tests words) ≡ some (refusal_at 2 place)) ↔ (ExitFails words) place
    first_two =
        let r : Refusal = refusal_at 2 place in
        iff_trans (after_sizes r (omega arith)) (
          λ x. record { sizes = x.0; first = ((exit_fails r).0 ((sooner_fails (exit_tests words) (statement_tests words) r (no_statement r refl)).0 x.1)).2 },
          λ x. (x.sizes, (sooner_fails (exit_tests words) (statement_tests words) r (no_statement r refl)).1 ((exit_fails r).1 (refl, refl, x.first))),
        )
      where
        no_statement : (r : Refusal) → r.number ≡ 2 → first_failure (statement_tests words) ≡ some r → ⊥
        no_statement r h e = omega (arith, ((statement_fails r).0 e).0)

    pub first_three : (line : ℕ) → (first_failure (program_tests words) ≡ some (refusal_on 3 place line)) ↔ (StatementFails words) place line
    first_three line =
        let r : Refusal = refusal_on 3 place line in
        iff_trans (after_sizes r (omega arith)) (
          λ x. let y = (later_fails (exit_tests words) (statement_tests words) r (no_exit r refl)).0 x.1 in record { sizes = x.0; exits = exits_pass.0 y.0; first = ((statement_fails r).0 y.1).1 },
          λ x. (x.sizes, (later_fails (exit_tests words) (statement_tests words) r (no_exit r refl)).1 (exits_pass.1 x.exits, (statement_fails r).1 (refl, x.first))),
        )
      where
        no_exit : (r : Refusal) → r.number ≡ 3 → first_failure (exit_tests words) ≡ some r → ⊥
        no_exit r h e = omega (arith, ((exit_fails r).0 e).0)
