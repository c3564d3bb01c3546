-- `sources_kept` meets its contract, by the way that leaves the vertex: its own disjunct is asked for, and at a return the summary's too.
use Rattle.std.proofs.Common.{◌≡◌, refl, ℕ, sym, ap, subst, ◌∙◌}
use Rattle.vertex_entailments.specs.Leaving.{WayForm}
use Rattle.entailment_sources.specs.KeptBytes.{byte_is_one}
use Rattle.entailment_sources.specs.WayLaws.{return_by, sources_by, sources_none}
use Rattle.entailment_sources.proofs.sources_kept.Goals as goal
use Rattle.entailment_sources.proofs.sources_kept.Goals.{After-is_kept}

-- the byte of the vertex's own disjunct is what was found
own : (c : After-is_kept) → byte_is_one c.args.kept.now c.args.leaving.vertex.0 c.args.i ≡ c.is_kept.result
own c = sym (c.is_kept.ensures ∙ ap (λ (entry : ℕ). byte_is_one c.args.kept.now entry c.args.i) c.path_entry-entry.ensures)

pub returns-then-not-is_kept : goal.returns-then-not-is_kept
returns-then-not-is_kept c =
    let o = own (goal.at.returns-then-not-is_kept c).After-is_kept in
    λ program h f l. sources_none h f c.args.kept.now c.args.i c.args.case c.requires.i_lt_most_disjuncts.0 c.requires.i_lt_most_disjuncts.1 l (o ∙ c.if-not-is_kept.true)

pub return_kept-requires-clause-callee_le_most_procedures : goal.return_kept-requires-clause-callee_le_most_procedures
unfolding WayForm
return_kept-requires-clause-callee_le_most_procedures c = (subst WayForm c.in-Call.is c.requires.way_form).1

pub returns-in-Skip : goal.returns-in-Skip
unfolding return_by
returns-in-Skip c =
    let o = own (goal.at.returns-in-Skip c).After-is_kept in
    λ program h f l. sources_by h f c.args.kept.now c.args.i c.args.case c.requires.i_lt_most_disjuncts.0 c.requires.i_lt_most_disjuncts.1 l c.in-Skip.is (o ∙ c.if-not-is_kept.false) refl

pub returns-in-Assign : goal.returns-in-Assign
unfolding return_by
returns-in-Assign c =
    let o = own (goal.at.returns-in-Assign c).After-is_kept in
    λ program h f l. sources_by h f c.args.kept.now c.args.i c.args.case c.requires.i_lt_most_disjuncts.0 c.requires.i_lt_most_disjuncts.1 l c.in-Assign.is (o ∙ c.if-not-is_kept.false) refl

pub returns-in-Branch : goal.returns-in-Branch
unfolding return_by
returns-in-Branch c =
    let o = own (goal.at.returns-in-Branch c).After-is_kept in
    λ program h f l. sources_by h f c.args.kept.now c.args.i c.args.case c.requires.i_lt_most_disjuncts.0 c.requires.i_lt_most_disjuncts.1 l c.in-Branch.is (o ∙ c.if-not-is_kept.false) refl

pub returns-in-Assert : goal.returns-in-Assert
unfolding return_by
returns-in-Assert c =
    let o = own (goal.at.returns-in-Assert c).After-is_kept in
    λ program h f l. sources_by h f c.args.kept.now c.args.i c.args.case c.requires.i_lt_most_disjuncts.0 c.requires.i_lt_most_disjuncts.1 l c.in-Assert.is (o ∙ c.if-not-is_kept.false) refl

pub returns-in-Call : goal.returns-in-Call
unfolding return_by
returns-in-Call c =
    let o = own (goal.at.returns-in-Call c).After-is_kept in
    λ program h f l. sources_by h f c.args.kept.now c.args.i c.args.case c.requires.i_lt_most_disjuncts.0 c.requires.i_lt_most_disjuncts.1 l c.in-Call.is (o ∙ c.if-not-is_kept.false) c.return_kept.ensures

pub returns-in-Exit : goal.returns-in-Exit
unfolding return_by
returns-in-Exit c =
    let o = own (goal.at.returns-in-Exit c).After-is_kept in
    λ program h f l. sources_by h f c.args.kept.now c.args.i c.args.case c.requires.i_lt_most_disjuncts.0 c.requires.i_lt_most_disjuncts.1 l c.in-Exit.is (o ∙ c.if-not-is_kept.false) refl
