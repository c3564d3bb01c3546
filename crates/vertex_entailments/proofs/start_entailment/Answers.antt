-- `start_entailment` meets its contract: the shape is main's, and the start is what its value stands for.
use Rattle.std.proofs.Common.{arith}
use Rattle.vertex_entailments.specs.Values.{shape_form_lem}
use Rattle.vertex_entailments.specs.StartLaws.{start_stands}
use Rattle.vertex_entailments.proofs.start_entailment.Goals as goal

pub first_entailment-requires-clause-shape_form : goal.first_entailment-requires-clause-shape_form
first_entailment-requires-clause-shape_form c =
    rw c.shape_of-shape.ensures (shape_form_lem c.requires.0 c.requires.1 0 1 (omega arith) (omega arith) (omega (arith, c.requires.0.some_procedure, c.requires.0.procedures)))

pub returns : goal.returns
returns c = λ rows g. rw (c.first_entailment.ensures, c.shape_of-shape.ensures) (start_stands g)
