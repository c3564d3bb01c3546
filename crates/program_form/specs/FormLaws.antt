-- The code's answer for the form of a program: one law for each way that the code can end, and what an answer says.
use Rattle.std.proofs.Math.Path.{◌≡◌}
use Rattle.std.specs.Prelude.{refl, true, false, List, ◌++◌, ℕ, ℤ, Ok, Err}
use Rattle.std.proofs.Common.{◌∙◌, arith}
use Rattle.std.proofs.Math.Option.{Option, none, some}
use Rattle.basics.specs.Lists.{listed}
use Rattle.words.specs.Tests as tests
use Rattle.words.proofs.FirstFailure.{failed_before, no_failure, pass_listed}
use Rattle.programs.specs.ProgramWords.{n, p}
use Rattle.programs.specs.ProgramTests.{sizes_pass, total_passes, exit_test, statement_test, program_tests}
use Rattle.programs.specs.ProgramForm.{ProgramForm}
use Rattle.programs.proofs.ProgramForm.{program_form_lem}
use Rattle.program_readers.specs.Sizes.{sizes_of, Header}
use Rattle.program_readers.specs.SizeLaws.{header_formed}
use Rattle.program_readers.specs.Owners.{ExitsPass}
use Rattle.answers.specs.Tested.{tested}
use Rattle.answers.specs.TestedLaws.{passed_none, failed_some}
use Rattle.program_form.specs.Form.{form_after, program_form}
use Rattle.words.proofs.TestLoops.{passed}
use Rattle.program_readers.specs.declared.places.Sizes.{Sizes}

pub refused_formed : (r : tests.Refusal) (sizes : Sizes) → Err r ≡ Ok sizes → ⊥
refused_formed r sizes e = let z : ◌≡◌ {A = ℕ} 0 1 = cc in omega arith

module _ (words : List ℤ) where
  abbrev exits : List tests.Test
  exits = listed (exit_test words) (p words)

  abbrev statements : List tests.Test
  statements = listed (statement_test words) (n words)

  -- ---- the ways that the code can end

  pub sizes_refused : sizes_pass words ≡ false → Err (tests.refusal_at 1 0) ≡ program_form words
  unfolding program_form form_after program_tests tests.first_failure
  sizes_refused a = simp a

  module _ (a : sizes_pass words ≡ true) where
    pub total_refused : total_passes words ≡ false → Err (tests.refusal_at 1 0) ≡ program_form words
    unfolding program_form form_after program_tests tests.first_failure
    total_refused b = simp (a, b)

    module _ (b : total_passes words ≡ true) where
      opened : (o : Option tests.Refusal) → tests.first_failure (exits ++ statements) ≡ o → form_after words o ≡ program_form words
      unfolding program_form program_tests tests.first_failure
      opened o e = simp (a, b, e)

      pub exit_refused : (r : tests.Refusal) → tested (tests.first_failure exits) ≡ Err r → Err r ≡ program_form words
      unfolding form_after
      exit_refused r e = opened (some r) (failed_before exits statements (failed_some (tests.first_failure exits) r e))

      module _ (c : tested (tests.first_failure exits) ≡ Ok tt) where
        after : (o : Option tests.Refusal) → tests.first_failure statements ≡ o → form_after words o ≡ program_form words
        after o e = opened o (passed exits statements (passed_none (tests.first_failure exits) c) ∙ e)

        pub statement_refused : (r : tests.Refusal) → tested (tests.first_failure statements) ≡ Err r → Err r ≡ program_form words
        unfolding form_after
        statement_refused r e = after (some r) (failed_some (tests.first_failure statements) r e)

        pub all_formed : tested (tests.first_failure statements) ≡ Ok tt → Ok (sizes_of words) ≡ program_form words
        unfolding form_after
        all_formed e = after none (passed_none (tests.first_failure statements) e)

  pub exits_pass : tested (tests.first_failure exits) ≡ Ok tt → ExitsPass words
  unfolding ExitsPass exit_test
  exits_pass e = (pass_listed (exit_test words) (p words)).0 ((no_failure exits).0 (passed_none (tests.first_failure exits) e))

  -- ---- what an answer says

  formed_after : (o : Option tests.Refusal) (sizes : Sizes) → form_after words o ≡ Ok sizes → (o ≡ none) × (sizes ≡ sizes_of words)
  unfolding form_after
  formed_after none sizes e = (refl, cc)
  formed_after (some r) sizes e = absurd (let z : ◌≡◌ {A = ℕ} 0 1 = cc in omega arith)

  refused_after : (o : Option tests.Refusal) (r : tests.Refusal) → form_after words o ≡ Err r → o ≡ some r
  unfolding form_after
  refused_after none r e = absurd (let z : ◌≡◌ {A = ℕ} 0 1 = cc in omega arith)
  refused_after (some t) r e = cc

  module _ (sizes : Sizes) (e : program_form words ≡ Ok sizes) where
    no_failure_formed : tests.first_failure (program_tests words) ≡ none
    unfolding program_form
    no_failure_formed = (formed_after (tests.first_failure (program_tests words)) sizes e).0

    pub formed_sizes : sizes ≡ sizes_of words
    unfolding program_form
    formed_sizes = (formed_after (tests.first_failure (program_tests words)) sizes e).1

    pub formed_form : ProgramForm words
    formed_form = (program_form_lem words).0 no_failure_formed

    pub formed_header : Header words sizes
    formed_header = rw formed_sizes (header_formed words formed_form)

  pub refused_first : (r : tests.Refusal) → program_form words ≡ Err r → tests.first_failure (program_tests words) ≡ some r
  unfolding program_form
  refused_first r e = refused_after (tests.first_failure (program_tests words)) r e
