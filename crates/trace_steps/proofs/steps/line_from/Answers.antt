-- `line_from` meets its contract: each way out is a case of the definition, by what was tested up to there.
use Rattle.std.proofs.Common.{◌∙◌, arith}
use Rattle.trace_steps.specs.RunLaws.{no_statement_line, statement_line}
use Rattle.trace_steps.proofs.steps.line_from.Goals as goal

pub returns-then-vertex-eq0 : goal.returns-then-vertex-eq0
returns-then-vertex-eq0 c = no_statement_line c.args.program.now c.args.number c.args.vertex.0 (λ l. absurd (omega arith))

pub returns-then-sizes-vertex : goal.returns-then-sizes-vertex
returns-then-sizes-vertex c = no_statement_line c.args.program.now c.args.number c.args.vertex.0 (λ l. omega (arith, c.if-sizes-vertex.true, c.requires.header.statements))

pub returns : goal.returns
returns c =
    c.line_at.ensures
    ∙ statement_line c.args.program.now c.args.number c.args.vertex.0 (omega (arith, c.if-number-gt12.false)) (omega arith) (omega (arith, c.if-sizes-vertex.false, c.requires.header.statements))
