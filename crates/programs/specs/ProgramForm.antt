-- The form of a program's words, said in inequalities over ℤ, and that it holds if and only if tests 1, 2 and 3 pass.
-- Each test is a conjunction, and what a part of it asks of a word is an inequality: `simp` rewrites the one into the other.
use Rattle.std.specs.Prelude.{◌≡◌, List, ℕ, ◌+◌, ◌*◌, ◌-◌, ◌≤◌, ◌<◌, ℤ, ◌≤ℤ◌, ◌<ℤ◌, length}
use Rattle.std.proofs.Math.IntN.{pos}
use Rattle.words.specs.Limits.{most_statements, most_procedures, most_globals, most_locals, most_pool, most_line}
use Rattle.words.specs.Words.{word}
use Rattle.words.specs.RowWords.{row_size}
use Rattle.words.specs.RowForm.{RowForm, RowsForm}
use Rattle.words.specs.Ranges.{Between}
use Rattle.programs.specs.ProgramWords.{n, p, Q, kind_word, kind, place_word, exit_field, exit_words, first, parameters, procedure_of, k, line_words, line_word, fields, field, procedure_field}
use Rattle.programs.specs.ProgramTests.{rises}

module _ (words : List ℤ) where
  -- so many words of a vertex's row lie in the pool; "one below 0 is past" it
  pub record RowInPool (v size : ℕ) : Type 0 where
    pub place : ℕ
    pub stands : place_word words v ≡ pos place
    pub inside : place + size ≤ Q words

  -- op and expression at a place: "0 `?` (expression all 0)"
  pub record ConditionForm (low at columns : ℕ) : Type 0 where
    pub op : Between (pos low) (pos 6) (word words at)
    pub expression : RowForm words (at + 1) columns
    pub choice : word words at ≡ pos 0 → (i : ℕ) → i < row_size columns → word words (at + 1 + i) ≡ pos 0

  -- a field of the vertex's row is a vertex of the same procedure, "its exit included"
  pub record SuccessorForm (v i : ℕ) : Type 0 where
    pub target : ℕ
    pub stands : field words v i ≡ pos target
    pub low : 1 ≤ target
    pub high : target ≤ n words + p words
    pub same : procedure_of words target ≡ procedure_of words v

  pub record ExitForm (q : ℕ) : Type 0 where
    pub kind : kind_word words (n words + q) ≡ pos 6
    pub in_pool : RowInPool (n words + q) exit_words
    pub locals_range : Between (pos 0) (pos most_locals) (exit_field words q 1)
    pub parameters_range : Between (pos 0) (exit_field words q 1) (exit_field words q 2)
    pub first_range : Between (pos 1) (pos (n words)) (exit_field words q 0)
    pub main : q ≡ 1 → exit_field words q 0 ≡ pos 1
    pub rises : 1 < q → first words (q - 1) < first words q

  -- the fields of a row, behind its line
  pub data FieldsForm (v : ℕ) : Type 0 where
    skip_form : kind_word words v ≡ pos 1 → RowInPool v (line_words + 1) → SuccessorForm v 0 → FieldsForm v
    assign_form : kind_word words v ≡ pos 2 → RowInPool v (line_words + (2 + row_size (k words v))) → SuccessorForm v 0
        → (pos 0 ≤ℤ field words v 1) × (field words v 1 <ℤ pos (k words v)) → RowForm words (fields words v + 2) (k words v) → FieldsForm v
    branch_form : kind_word words v ≡ pos 3 → RowInPool v (line_words + (3 + row_size (k words v))) → SuccessorForm v 0 → SuccessorForm v 1
        → ConditionForm 0 (fields words v + 2) (k words v) → FieldsForm v
    assert_form : kind_word words v ≡ pos 4 → RowInPool v (line_words + (2 + row_size (k words v))) → SuccessorForm v 0
        → ConditionForm 1 (fields words v + 1) (k words v) → FieldsForm v
    call_form : kind_word words v ≡ pos 5 → RowInPool v (line_words + (2 + parameters words (procedure_field words v 1) * row_size (k words v))) → SuccessorForm v 0
        → Between (pos 1) (pos (p words)) (field words v 1)
        → RowsForm words (fields words v + 2) (k words v) (parameters words (procedure_field words v 1)) → FieldsForm v

  pub record StatementForm (v : ℕ) : Type 0 where
    pub line_range : Between (pos 0) (pos most_line) (line_word words v)
    pub fields_form : FieldsForm v

  -- the sizes and the total
  pub record SizesForm : Type 0 where
    pub header : 4 ≤ length words
    pub statements_range : Between (pos 1) (pos most_statements) (word words 0)
    pub procedures_range : Between (pos 1) (pos most_procedures) (word words 1)
    pub globals_range : Between (pos 0) (pos most_globals) (word words 2)
    pub pool_range : Between (pos 0) (pos most_pool) (word words 3)
    pub total : length words ≡ 4 + (n words + p words) + (n words + p words) + Q words

  pub record ProgramForm : Type 0 where
    pub sizes : SizesForm
    pub exits : (q : ℕ) → 1 ≤ q → q ≤ p words → ExitForm q
    pub statements : (v : ℕ) → 1 ≤ v → v ≤ n words → StatementForm v
