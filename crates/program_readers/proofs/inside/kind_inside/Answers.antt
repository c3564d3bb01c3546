-- `kind_inside` meets its contract: the kinds follow the four sizes.
use Rattle.std.proofs.Common.{arith}
use Rattle.programs.proofs.LookUps.{look_ups}
use Rattle.program_readers.specs.Inside.{vertices_most}
use Rattle.program_readers.proofs.inside.kind_inside.Goals as goal

pub kind_place-requires-clause-v_le_most_vertices : goal.kind_place-requires-clause-v_le_most_vertices
kind_place-requires-clause-v_le_most_vertices c = omega (arith, c.requires.v_bound, vertices_most c.args.program.now)

pub number_inside-requires : goal.number_inside-requires
number_inside-requires c = rw c.kind_place.ensures ((look_ups c.args.program.now c.requires.program_form).kinds c.args.v.0 c.requires.le_v c.requires.v_bound)
