-- `shape_of` meets its contract: the numbers are read, and a procedure has no more parameters than locals.
use Rattle.std.proofs.Common.{arith}
use Rattle.programs.proofs.DecodedNumbers.{parameters_most}
use Rattle.vertex_entailments.proofs.values.shape_of.Goals as goal

pub overflow_sub-result : goal.overflow_sub-result
overflow_sub-result c =
    let q = c.requires.le_q in
    omega (arith, c.locals_of-locals.ensures.value, c.parameters_of-parameters.ensures.value, parameters_most c.args.program.now c.requires.program_form c.args.q.0 q.0 (omega (arith, q.1, c.requires.header.procedures)))
