-- `callee_places` meets its contract: the summary's entry says where its disjuncts begin and how many they are.
use Rattle.std.proofs.Common.{◌+◌}
use Rattle.vertex_entailments.specs.Targets.{entry_few}
use Rattle.vertex_entailments.proofs.summaries.callee_places.Goals as goal

pub disjunct_places-requires-clause-count_le_most_disjuncts : goal.disjunct_places-requires-clause-count_le_most_disjuncts
disjunct_places-requires-clause-count_le_most_disjuncts c =
    let a = c.args in
    rw c.summary_target-target.ensures (entry_few a.sizes a.witness.now (a.sizes.statements + a.sizes.procedures + a.callee.0)).1
