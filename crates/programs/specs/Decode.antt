-- The program that the words are.
use Rattle.std.specs.Prelude.{ℕ, ◌+◌, cond, List, eqb, ℤ, drop}
use Rattle.basics.specs.Lists.{listed}
use Rattle.rows.specs.Rows.{Row}
use Rattle.words.specs.RowWords.{row_of, rows_of}
use Rattle.programs.specs.Program.{Program, Procedure, LinedStatement, Statement, skip, assign, branch, assert, call, Condition, choice, compare, Comparison, less, greater, at_most, at_least, equal, different}
use Rattle.programs.specs.ProgramWords.{by_kind, n, p, G, kind, first, locals, parameters, k, line, fields, vertex_field, column_field, op_field, procedure_field}

-- "op: 0 `?` .., 1 <, 2 >, 3 ≤, 4 ≥, 5 =, 6 ≠"
unfoldable pub comparison : ℕ → Comparison
comparison op = cond (eqb op 1) less (cond (eqb op 2) greater (cond (eqb op 3) at_most (cond (eqb op 4) at_least (cond (eqb op 5) equal different))))

unfoldable pub condition : ℕ → Row → Condition
condition op e = cond (eqb op 0) choice (compare (comparison op) e)

-- the fields of a statement's row, read once: its numbers, and the place where its expressions begin
pub data Fields : Type 0 where
  skip_row : (next : ℕ) → Fields
  assign_row : (next column at : ℕ) → Fields
  branch_row : (when_true when_false op at : ℕ) → Fields
  assert_row : (next op at : ℕ) → Fields
  call_row : (return callee at : ℕ) → Fields

-- the row: its line and its fields
pub record StatementRow : Type 0 where
  pub line : ℕ
  pub fields : Fields

module _ (words : List ℤ) where
  unfoldable pub fields_of : ℕ → Fields
  fields_of v = by_kind (kind words v)
      (skip_row (vertex_field words v 0))
      (assign_row (vertex_field words v 0) (column_field words v 1) (fields words v + 2))
      (branch_row (vertex_field words v 0) (vertex_field words v 1) (op_field words v 2) (fields words v + 3))
      (assert_row (vertex_field words v 0) (op_field words v 1) (fields words v + 2))
      (call_row (vertex_field words v 0) (procedure_field words v 1) (fields words v + 2))
      (skip_row 0)

  unfoldable pub statement_row : ℕ → StatementRow
  statement_row v = record { line = line words v; fields = fields_of v }

  -- an expression over so many columns
  unfoldable pub expression : ℕ → ℕ → Row
  expression columns at = row_of columns (drop at words)

  -- the statement that the fields are, with k columns
  unfoldable pub meaning : ℕ → Fields → Statement
  meaning columns (skip_row next) = skip next
  meaning columns (assign_row next column at) = assign next column (expression columns at)
  meaning columns (branch_row yea nay op at) = branch yea nay (condition op (expression columns at))
  meaning columns (assert_row next op at) = assert next (comparison op) (expression columns at)
  meaning columns (call_row return q at) = call return q (rows_of columns (parameters words q) (drop at words))

  unfoldable pub statement : ℕ → Statement
  statement v = meaning (k words v) (fields_of v)

  -- with its line
  unfoldable pub lined_statement : ℕ → LinedStatement
  lined_statement v = record { line = line words v; statement = statement v }

  unfoldable pub procedure : ℕ → Procedure
  procedure q = record { first = first words q; locals = locals words q; parameters = parameters words q }

  unfoldable pub program : Program
  program = record { globals = G words; statements = listed lined_statement (n words); procedures = listed procedure (p words) }
