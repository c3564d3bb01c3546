-- The rows of statements as the code reads them, and the row of the definitions that each is.
use Rattle.std.specs.Prelude.{◌≡◌, List, ℕ, ◌+◌, ℤ}
use Rattle.std.proofs.Common.{ap}
use Rattle.programs.specs.ProgramWords.{fields, vertex_field, column_field, op_field, procedure_field}
use Rattle.programs.specs.Decode as rows
use Rattle.program_readers.specs.Kinds.{op_number, op_named}
use Rattle.program_readers.specs.declared.places.Vertex.{Vertex}
use Rattle.program_readers.specs.declared.places.Procedure.{Procedure}
use Rattle.program_readers.specs.declared.statements.SkipRow.{SkipRow}
use Rattle.program_readers.specs.declared.statements.AssignRow.{AssignRow}
use Rattle.program_readers.specs.declared.statements.BranchRow.{BranchRow}
use Rattle.program_readers.specs.declared.statements.AssertRow.{AssertRow}
use Rattle.program_readers.specs.declared.statements.CallRow.{CallRow}
use Rattle.program_readers.specs.declared.statements.StatementRow.{StatementRow}
use Rattle.program_readers.specs.declared.statements.Fields.{Fields}
use Rattle.program_readers.specs.declared.statements.Fields.TheVariants.{Skip, Assign, Branch, Assert, Call}

-- ---- the vertex and the procedure of a number

abbrev pub vertex_by : ℕ → Vertex
vertex_by m = record { 0 = m }

abbrev pub procedure_by : ℕ → Procedure
procedure_by m = record { 0 = m }

pub vertex_by_lem : {v : Vertex} {m : ℕ} → v.0 ≡ m → v ≡ vertex_by m
vertex_by_lem e = ap vertex_by e

pub procedure_by_lem : {q : Procedure} {m : ℕ} → q.0 ≡ m → q ≡ procedure_by m
procedure_by_lem e = ap procedure_by e

-- ---- what stands at a vertex, read as a row of each kind

module _ (words : List ℤ) (v : ℕ) where
  abbrev pub skip_at : SkipRow
  skip_at = record { next = vertex_by (vertex_field words v 0) }

  abbrev pub assign_at : AssignRow
  assign_at = record { next = vertex_by (vertex_field words v 0); column = column_field words v 1; at = fields words v + 2 }

  abbrev pub branch_at : BranchRow
  branch_at = record { yea = vertex_by (vertex_field words v 0); nay = vertex_by (vertex_field words v 1); op = op_named (op_field words v 2); at = fields words v + 3 }

  abbrev pub assert_at : AssertRow
  assert_at = record { next = vertex_by (vertex_field words v 0); op = op_named (op_field words v 1); at = fields words v + 2 }

  abbrev pub call_at : CallRow
  call_at = record { back = vertex_by (vertex_field words v 0); callee = procedure_by (procedure_field words v 1); at = fields words v + 2 }

-- ---- which row of the definitions a row is

abbrev pub fields_meaning : Fields → rows.Fields
fields_meaning (Skip r) = rows.skip_row r.next.0
fields_meaning (Assign r) = rows.assign_row r.next.0 r.column r.at
fields_meaning (Branch r) = rows.branch_row r.yea.0 r.nay.0 (op_number r.op) r.at
fields_meaning (Assert r) = rows.assert_row r.next.0 (op_number r.op) r.at
fields_meaning (Call r) = rows.call_row r.back.0 r.callee.0 r.at

abbrev pub row_meaning : StatementRow → rows.StatementRow
row_meaning r = record { line = r.line; fields = fields_meaning r.fields }
