-- `edge_columns` meets its contract: a vertex's entry has k and k columns, a summary G, F and G; each number is at most 8, k at most 16.
use Rattle.certificate_form.specs.EdgeColumns.{vertex_columns, summary_columns_lem}
use Rattle.certificate_form.proofs.edge_columns.Goals as goal

pub returns-then-i-vertices-clause-value : goal.returns-then-i-vertices-clause-value
returns-then-i-vertices-clause-value c witness =
    vertex_columns c.args.program.now witness c.args.sizes c.requires.header c.args.i c.if-i-vertices.true c.k_of-k.ensures.value

pub returns-clause-value : goal.returns-clause-value
returns-clause-value c witness =
    summary_columns_lem c.args.program.now witness c.args.sizes c.requires.header c.args.i c.if-i-vertices.false c.parameters_of-parameters.ensures.value
