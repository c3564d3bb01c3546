-- Tests 1, 2 and 3, in their order.
use Rattle.std.specs.Prelude.{ℕ, ◌+◌, ◌-◌, Bool, false, cond, ◌&&◌, ◌||◌, List, ◌∷◌, ◌++◌, leb, ltb, eqb, ℤ, length}
use Rattle.basics.specs.Lists.{listed}
use Rattle.words.specs.Limits.{most_statements, most_procedures, most_globals, most_locals, most_pool, most_line}
use Rattle.words.specs.Words.{word, within, below, all_small, number}
use Rattle.words.specs.RowWords.{row_size, row_passes, rows_pass}
use Rattle.words.specs.Tests.{Test, test, test_on}
use Rattle.programs.specs.ProgramWords.{by_kind, n, p, Q, kind_place, kind_word, kind, place_word, exit_field, exit_words, first, locals, parameters, procedure_of, k, line_words, line_word, line, fields, field, vertex_field, procedure_field, statement_words}

module _ (words : List ℤ) where
  -- ---- 1: "program under 4 words, a size beyond its limit, or wrong total"

  unfoldable pub sizes_pass : Bool
  sizes_pass = leb 4 (length words)
      && (within 1 most_statements (word words 0) && (within 1 most_procedures (word words 1) && (within 0 most_globals (word words 2) && within 0 most_pool (word words 3))))

  unfoldable pub total_passes : Bool
  total_passes = eqb (length words) (4 + (n words + p words) + (n words + p words) + Q words)

  -- so many words of a vertex's row lie in the pool
  unfoldable pub row_fits : ℕ → ℕ → Bool
  row_fits v size = within 0 (Q words) (place_word words v) && leb (number most_pool (place_word words v) + size) (Q words)

  -- ---- 2: "exit: kind, row past pool, L, F or first wrong"

  -- "First statements rise strictly from 1"
  unfoldable pub rises : ℕ → Bool
  rises q = cond (eqb q 1) (eqb (first words q) 1) (ltb (first words (q - 1)) (first words q))

  unfoldable pub exit_passes : ℕ → Bool
  exit_passes q = within 6 6 (kind_word words (n words + q))
      && (row_fits (n words + q) exit_words
      && (within 0 most_locals (exit_field words q 1) && (within 0 (locals words q) (exit_field words q 2) && (within 1 (n words) (exit_field words q 0) && rises q))))

  -- ---- 3: "statement: kind, row past pool, or any field wrong"

  -- op and expression, from a place on: op is one of low..6, and with `?` (0) the expression is all 0
  unfoldable pub condition_passes : ℕ → ℕ → ℕ → Bool
  condition_passes low at columns = within low 6 (word words at)
      && (row_passes words (at + 1) columns && (leb 1 (number 6 (word words at)) || all_small words 0 (at + 1) (row_size columns)))

  -- w is a vertex of the same procedure as v, "its exit included"
  unfoldable pub same_procedure : ℕ → ℕ → Bool
  same_procedure v w = leb 1 w && (leb w (n words + p words) && eqb (procedure_of words w) (procedure_of words v))

  unfoldable pub successor_passes : ℕ → ℕ → Bool
  successor_passes v i = same_procedure v (vertex_field words v i)

  unfoldable pub skip_passes : ℕ → Bool
  skip_passes v = successor_passes v 0

  unfoldable pub assign_passes : ℕ → Bool
  assign_passes v = successor_passes v 0 && (below (k words v) (field words v 1) && row_passes words (fields words v + 2) (k words v))

  unfoldable pub branch_passes : ℕ → Bool
  branch_passes v = successor_passes v 0 && (successor_passes v 1 && condition_passes 0 (fields words v + 2) (k words v))

  unfoldable pub assert_passes : ℕ → Bool
  assert_passes v = successor_passes v 0 && condition_passes 1 (fields words v + 1) (k words v)

  unfoldable pub call_passes : ℕ → Bool
  call_passes v = successor_passes v 0
      && (within 1 (p words) (field words v 1) && rows_pass words (fields words v + 2) (k words v) (parameters words (procedure_field words v 1)))

  unfoldable pub statement_passes : ℕ → Bool
  statement_passes v = row_fits v (statement_words words v)
      && (within 0 most_line (line_word words v) && by_kind (kind words v) (skip_passes v) (assign_passes v) (branch_passes v) (assert_passes v) (call_passes v) false)

  -- "for 3 its row's first word, whatever the kind, if there and in range; .. else 0"
  unfoldable pub row_line : ℕ → ℕ
  row_line v = cond (row_fits v line_words) (line words v) 0

  -- ---- the tests in their order

  unfoldable pub exit_test : ℕ → Test
  exit_test q = test 2 (kind_place (n words + q)) (exit_passes q)

  unfoldable pub statement_test : ℕ → Test
  statement_test v = test_on 3 (kind_place v) (row_line v) (statement_passes v)

  unfoldable pub program_tests : List Test
  program_tests = test 1 0 sizes_pass ∷ test 1 0 total_passes ∷ (listed exit_test (p words) ++ listed statement_test (n words))
