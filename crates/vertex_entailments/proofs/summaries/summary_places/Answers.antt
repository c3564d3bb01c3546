-- `summary_places` meets its contract, by the way that leaves the vertex: only a call's table has to hold anything.
use Rattle.std.proofs.Common.{subst, arith}
use Rattle.vertex_entailments.specs.Leaving.{WayForm}
use Rattle.vertex_entailments.specs.Summaries.{FormedBy, SummaryBy}
use Rattle.vertex_entailments.proofs.summaries.summary_places.Goals as goal

-- ---- no call

pub returns-in-Skip-clause-summaries_at : goal.returns-in-Skip-clause-summaries_at
unfolding SummaryBy
returns-in-Skip-clause-summaries_at c = record { long = c.requires.most_disjuncts_in_bounds; places = rw c.in-Skip.is tt }

pub returns-in-Assign-clause-summaries_at : goal.returns-in-Assign-clause-summaries_at
unfolding SummaryBy
returns-in-Assign-clause-summaries_at c = record { long = c.requires.most_disjuncts_in_bounds; places = rw c.in-Assign.is tt }

pub returns-in-Branch-clause-summaries_at : goal.returns-in-Branch-clause-summaries_at
unfolding SummaryBy
returns-in-Branch-clause-summaries_at c = record { long = c.requires.most_disjuncts_in_bounds; places = rw c.in-Branch.is tt }

pub returns-in-Assert-clause-summaries_at : goal.returns-in-Assert-clause-summaries_at
unfolding SummaryBy
returns-in-Assert-clause-summaries_at c = record { long = c.requires.most_disjuncts_in_bounds; places = rw c.in-Assert.is tt }

pub returns-in-Exit-clause-summaries_at : goal.returns-in-Exit-clause-summaries_at
unfolding SummaryBy
returns-in-Exit-clause-summaries_at c = record { long = c.requires.most_disjuncts_in_bounds; places = rw c.in-Exit.is tt }

-- ---- a call

pub callee_places-requires-clause-procedures_bound : goal.callee_places-requires-clause-procedures_bound
unfolding WayForm
callee_places-requires-clause-procedures_bound c =
    let few = subst WayForm c.in-Call.is c.requires.way_form in
    (c.requires.procedures_bound, omega (arith, few.1))

pub callee_places-requires-clause-summary_formed : goal.callee_places-requires-clause-summary_formed
unfolding FormedBy
callee_places-requires-clause-summary_formed c = (rw c.in-Call.is at c.requires.formed_by.0, c.requires.formed_by.1)

pub returns-in-Call-clause-summaries_at : goal.returns-in-Call-clause-summaries_at
unfolding SummaryBy
returns-in-Call-clause-summaries_at c =
    let p = c.callee_places in
    record { long = omega (arith, p.ensures.places_len_unchanged, c.requires.most_disjuncts_in_bounds); places = rw c.in-Call.is p.ensures.summary_at }
