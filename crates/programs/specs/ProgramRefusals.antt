-- What refusals 1, 2 and 3 of a program say, if and only if, places included: 1 at 0 that the sizes or the total are wrong; 2 and 3 that all
-- that is tested before is right and that this is the first exit, or the first statement, that isn't. A number tells the tests of its kind
-- from the others, and a kind's tests are of one family.
use Rattle.std.specs.Prelude.{List, [], ◌∷◌, ℕ, ◌+◌, ◌≤◌, ℤ}
use Rattle.basics.specs.Lists.{listed}
use Rattle.words.specs.Tests.{Test, test, test_on}
use Rattle.words.specs.FirstFailure.{FirstWrong, FirstWrongOn}
use Rattle.programs.specs.ProgramWords.{n, p}
use Rattle.programs.specs.ProgramTests.{sizes_pass, total_passes, exit_passes, row_line, statement_passes}
use Rattle.programs.specs.ProgramForm.{SizesForm, ExitForm, StatementForm}

module _ (words : List ℤ) where
  -- "exit: kind, row past pool, L, F or first wrong": "its kind word", that of vertex n + q, stands at 3 + (n + q)
  pub record ExitFails (place : ℕ) : Type 0 where
    pub sizes : SizesForm words
    pub first : FirstWrong (p words) (ExitForm words) (λ q. 3 + (n words + q)) place

  -- "statement: kind, row past pool, or any field wrong": "its kind word", that of vertex v, stands at 3 + v; and its line
  pub record StatementFails (place line : ℕ) : Type 0 where
    pub sizes : SizesForm words
    pub exits : (q : ℕ) → 1 ≤ q → q ≤ p words → ExitForm words q
    pub first : FirstWrongOn (n words) (StatementForm words) (λ v. 3 + v) (row_line words) place line

  abbrev pub sizes_tests : List Test
  sizes_tests = test 1 0 (sizes_pass words) ∷ test 1 0 (total_passes words) ∷ []

  abbrev pub exit_tests : List Test
  exit_tests = listed (λ q. test 2 (3 + (n words + q)) (exit_passes words q)) (p words)

  abbrev pub statement_tests : List Test
  statement_tests = listed (λ v. test_on 3 (3 + v) (row_line words v) (statement_passes words v)) (n words)
