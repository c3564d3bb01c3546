-- `leaving_statement` meets its contract: the row that is read is the vertex's, and the numbers of its fields are the way's.
use Rattle.std.proofs.Common.{◌≡◌, ℕ, sym, ap, ◌∙◌, arith}
use Rattle.programs.specs.ProgramWords.{k}
use Rattle.programs.specs.Decode as decode
use Rattle.programs.proofs.StatementRows.{called}
use Rattle.program_readers.specs.declared.statements.Fields.{Fields}
use Rattle.program_readers.specs.Rows.{fields_meaning}
use Rattle.entailments.specs.declared.Shape.{Shape}
use Rattle.vertex_entailments.specs.declared.leaving.Way.{Way}
use Rattle.vertex_entailments.specs.Values.{shape_of, path_shape}
use Rattle.vertex_entailments.specs.Leaving.{HasRow, Says, Leaves}
use Rattle.vertex_entailments.specs.LeavingLaws.{is_call}
use Rattle.vertex_entailments.proofs.leaving.leaving_statement.Goals as goal
use Rattle.vertex_entailments.proofs.leaving.leaving_statement.Goals.{After-statement_row-row}

-- what is said by the way and the shape is all there is to know
leaves : (t : After-statement_row-row) (shape : Shape) (way : Way) → Says t.args.program.now t.args.sizes t.args.v.0 shape way
    → Leaves t.args.program.now t.args.sizes (record { vertex = t.args.v; shape = shape; way = way })
leaves t shape way x = record { low = t.requires.le_v.0; high = omega (arith, t.requires.le_v.1); says = x }

has_row : (t : After-statement_row-row) {fields : Fields} {shape wanted : Shape} → t.statement_row-row.result.fields ≡ fields → shape ≡ wanted
    → HasRow t.args.program.now t.args.sizes t.args.v.0 shape (fields_meaning fields) wanted
unfolding decode.statement_row
has_row t e f =
    record {
      inside = omega (arith, t.requires.le_v.1, t.requires.header.0.statements);
      is = sym (ap (λ (r : decode.StatementRow). r.fields) t.statement_row-row.ensures) ∙ ap fields_meaning e;
      shaped = f;
    }

path : (t : After-statement_row-row) → path_shape t.args.k t.args.sizes.globals ≡ path_shape (k t.args.program.now t.args.v.0) t.args.sizes.globals
path t = ap (λ (columns : ℕ). path_shape columns t.args.sizes.globals) t.requires.k_value

pub returns-in-Skip-clause-leaves : goal.returns-in-Skip-clause-leaves
unfolding Says
returns-in-Skip-clause-leaves c = let t = (goal.at.returns-in-Skip-clause-leaves c).After-statement_row-row in leaves t _ _ (has_row t c.in-Skip.is (path t))

pub returns-in-Assign-clause-leaves : goal.returns-in-Assign-clause-leaves
unfolding Says
returns-in-Assign-clause-leaves c = let t = (goal.at.returns-in-Assign-clause-leaves c).After-statement_row-row in leaves t _ _ (has_row t c.in-Assign.is (path t))

pub returns-in-Branch-clause-leaves : goal.returns-in-Branch-clause-leaves
unfolding Says
returns-in-Branch-clause-leaves c = let t = (goal.at.returns-in-Branch-clause-leaves c).After-statement_row-row in leaves t _ _ (has_row t c.in-Branch.is (path t))

pub returns-in-Assert-clause-leaves : goal.returns-in-Assert-clause-leaves
unfolding Says
returns-in-Assert-clause-leaves c = let t = (goal.at.returns-in-Assert-clause-leaves c).After-statement_row-row in leaves t _ _ (has_row t c.in-Assert.is (path t))

pub shape_of-requires-in-Call-clause-le_q : goal.shape_of-requires-in-Call-clause-le_q
shape_of-requires-in-Call-clause-le_q c =
    let t = (goal.at.shape_of-requires-in-Call-clause-le_q c).After-statement_row-row in
    let f = called c.args.program.now c.args.v.0 c.requires.header.1 (is_call c.requires.le_v.0 (has_row t c.in-Call.is (path t))) in
    (omega (arith, f.callee_low), omega (arith, f.callee_high, c.requires.header.0.procedures, c.requires.header.0.some_procedure))

pub returns-in-Call-clause-leaves : goal.returns-in-Call-clause-leaves
unfolding Says
returns-in-Call-clause-leaves c =
    let t = (goal.at.returns-in-Call-clause-leaves c).After-statement_row-row in
    let shaped = c.shape_of.ensures ∙ ap (λ (columns : ℕ). shape_of c.args.program.now c.args.sizes columns c.in-Call.call.callee.0) c.requires.k_value in
    leaves t _ _ (has_row t c.in-Call.is shaped)
