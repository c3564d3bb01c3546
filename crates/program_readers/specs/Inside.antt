-- Statements of a program that has the form: the words that are read of a statement's row are there, by its kind.
use Rattle.std.specs.Prelude.{◌≡◌, List, ℕ, ◌+◌, ◌≤◌, ◌<◌, ℤ, length}
use Rattle.std.proofs.Common.{arith}
use Rattle.words.specs.Limits.{most_statements, most_procedures, most_vertices}
use Rattle.words.specs.Words.{word}
use Rattle.words.proofs.Ranges.{number_most}
use Rattle.programs.specs.ProgramWords.{by_kind, n, p, kind, fields, field_words}
use Rattle.programs.specs.ProgramForm.{ProgramForm}
use Rattle.programs.proofs.LookUps.{look_ups}
use Rattle.program_readers.specs.Sizes.{Header}
use Rattle.program_readers.specs.Kinds.{kind_number}
use Rattle.program_readers.specs.declared.places.Sizes.{Sizes}
use Rattle.program_readers.specs.declared.kinds.Kind.{Kind}
use Rattle.program_readers.specs.declared.kinds.Kind.TheVariants.{Skip, Assign, Branch, Assert, Call}

pub vertices_most : (words : List ℤ) → n words + p words ≤ most_vertices
vertices_most words = omega (arith, number_most most_statements (word words 0), number_most most_procedures (word words 1))

-- a statement of a program that has the form, with the program's sizes
pub record AtStatement (words : List ℤ) (sizes : Sizes) (v : ℕ) : Type 0 where
  pub header : Header words sizes
  pub form : ProgramForm words
  pub low : 1 ≤ v
  pub high : v ≤ n words

-- and of this kind
pub record StatementOf (words : List ℤ) (sizes : Sizes) (v : ℕ) (its : Kind) : Type 0 where
  pub statement : AtStatement words sizes v
  pub same : kind words v ≡ kind_number its

module _ (words : List ℤ) (sizes : Sizes) {v : ℕ} where
  -- the word with the place of its row
  pub place_inside : AtStatement words sizes v → 3 + (n words + p words) + v < length words
  place_inside s = (look_ups words s.form).places v s.low (omega (arith, s.high))

  -- its fields, by its kind
  row_inside : (count : ℕ) → AtStatement words sizes v → count ≤ field_words words v → fields words v + count ≤ length words
  unfolding fields
  row_inside count s c = omega (arith, c, (look_ups words s.form).statement_rows v s.low s.high)

  pub skip_inside : StatementOf words sizes v Skip → fields words v + 1 ≤ length words
  unfolding field_words by_kind
  skip_inside s = row_inside 1 s.statement (rw s.same (omega arith))

  pub assign_inside : StatementOf words sizes v Assign → fields words v + 2 ≤ length words
  unfolding field_words by_kind
  assign_inside s = row_inside 2 s.statement (rw s.same (omega arith))

  pub branch_inside : StatementOf words sizes v Branch → fields words v + 3 ≤ length words
  unfolding field_words by_kind
  branch_inside s = row_inside 3 s.statement (rw s.same (omega arith))

  pub assert_inside : StatementOf words sizes v Assert → fields words v + 2 ≤ length words
  unfolding field_words by_kind
  assert_inside s = row_inside 2 s.statement (rw s.same (omega arith))

  pub call_inside : StatementOf words sizes v Call → fields words v + 2 ≤ length words
  unfolding field_words by_kind
  call_inside s = row_inside 2 s.statement (rw s.same (omega arith))
