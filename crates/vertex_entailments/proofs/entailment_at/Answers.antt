-- `entailment_at` meets its contract, by the way that leaves the vertex: the value that is made is the one of the way's kind, at the numbers of the
-- words, and the law of the kind says which entailment that stands for.
use Rattle.std.proofs.Common.{◌≡◌, ◌+◌, ◌-◌, ◌≤◌, ◌<◌, get_or, subst, arith}
use Rattle.programs.specs.ProgramWords.{n, p}
use Rattle.certificates.specs.CertificateWords.{disjuncts_end}
use Rattle.entailments.specs.Forms.{ShapeForm}
use Rattle.vertex_entailments.specs.declared.leaving.Way.{Way}
use Rattle.vertex_entailments.specs.Sides.{side_most}
use Rattle.vertex_entailments.specs.Conditions.{is_branch, is_assert}
use Rattle.vertex_entailments.specs.Leaving.{Says, WayForm}
use Rattle.vertex_entailments.specs.Targets.{summary_target, entry_few}
use Rattle.vertex_entailments.specs.Values.{summary_columns}
use Rattle.vertex_entailments.specs.Summaries.{PlacesAt, held_for_call}
use Rattle.vertex_entailments.specs.LeavingLaws.{told, is_call, leaving_shape, leaving_form}
use Rattle.vertex_entailments.specs.KindLaws.{skip_at, assign_at_lem, side_stands, exit_at}
use Rattle.vertex_entailments.specs.CallLaws.{summary_inside, return_few, entry_at, return_at}
use Rattle.vertex_entailments.proofs.entailment_at.Goals as goal
use Rattle.vertex_entailments.proofs.entailment_at.Goals.{After-row_count-n, Else-case-eq0}

-- ---- the vertex

inside : (s : After-row_count-n) → s.args.leaving.vertex.0 ≤ n s.args.program.now + p s.args.program.now
inside s = omega (arith, s.requires.leaves.high, s.requires.given.header.statements, s.requires.given.header.procedures)

shape : (s : After-row_count-n) → ShapeForm s.args.leaving.shape
shape s = leaving_shape s.requires.given s.requires.leaves

-- the limits of its numbers, where the way is known
few : (s : After-row_count-n) {way : Way} → s.args.leaving.way ≡ way → WayForm way
few s e = subst WayForm e (leaving_form s.requires.given s.requires.leaves)

-- ---- a skip, an assignment, an exit

pub path_entailment-requires-clause-shape_form : goal.path_entailment-requires-clause-shape_form
unfolding WayForm
path_entailment-requires-clause-shape_form c =
    let s = (goal.at.path_entailment-requires-clause-shape_form c).After-row_count-n in
    (shape s, omega (arith, few s c.in-Skip.is))

pub returns-in-Skip : goal.returns-in-Skip
unfolding Says
returns-in-Skip c =
    let x = told c.requires.leaves c.in-Skip.is in
    rw (c.path_entailment.ensures, c.row_count-n.ensures, x.shaped)
    (skip_at c.requires.given c.args.leaving.vertex.0 c.requires.leaves.low x.inside c.requires.disjunct_here c.args.case c.requires.case_in_bounds x.is)

pub path_entailment-requires-in-Assign-clause-shape_form : goal.path_entailment-requires-in-Assign-clause-shape_form
unfolding WayForm
path_entailment-requires-in-Assign-clause-shape_form c =
    let s = (goal.at.path_entailment-requires-in-Assign-clause-shape_form c).After-row_count-n in
    (shape s, omega (arith, few s c.in-Assign.is))

pub returns-in-Assign : goal.returns-in-Assign
unfolding Says
returns-in-Assign c =
    let x = told c.requires.leaves c.in-Assign.is in
    rw (c.path_entailment-in-Assign.ensures, c.row_count-n.ensures, x.shaped)
    (assign_at_lem c.requires.given c.args.leaving.vertex.0 c.requires.leaves.low x.inside c.requires.disjunct_here c.args.case c.requires.case_in_bounds x.is)

pub exit_entailment-requires-clause-shape_form : goal.exit_entailment-requires-clause-shape_form
unfolding WayForm
exit_entailment-requires-clause-shape_form c =
    let s = (goal.at.exit_entailment-requires-clause-shape_form c).After-row_count-n in
    (shape s, omega (arith, few s c.in-Exit.is))

pub returns-in-Exit : goal.returns-in-Exit
unfolding Says
returns-in-Exit c =
    let s = (goal.at.returns-in-Exit c).After-row_count-n in
    let x = told c.requires.leaves c.in-Exit.is in
    rw (c.exit_entailment.ensures, c.row_count-n.ensures, x.shaped, x.ends)
    (exit_at c.requires.given c.args.leaving.vertex.0 c.requires.leaves.low (inside s) x.past c.requires.disjunct_here c.args.case c.requires.case_in_bounds)

-- ---- a condition

pub guard_entailment-requires-clause-shape_form : goal.guard_entailment-requires-clause-shape_form
unfolding WayForm
guard_entailment-requires-clause-shape_form c =
    let s = (goal.at.guard_entailment-requires-clause-shape_form c).After-row_count-n in
    let (y, z) = few s c.in-Branch.is in
    (shape s, rw c.side_at-side.ensures (side_most _ _ _ _ (omega (arith, y, z)) (omega (arith, y, z))))

pub returns-in-Branch : goal.returns-in-Branch
unfolding Says
returns-in-Branch c =
    let s = (goal.at.returns-in-Branch c).After-row_count-n in
    let x = told c.requires.leaves c.in-Branch.is in
    let branch = is_branch c.args.program.now c.args.witness.now c.args.leaving.vertex.0 c.requires.given.program_form c.requires.leaves.low x.inside x.is in
    rw (c.guard_entailment.ensures, c.side_at-side.ensures, c.row_count-n.ensures, x.shaped)
    (side_stands c.requires.given c.args.leaving.vertex.0 c.requires.leaves.low (inside s) branch c.requires.disjunct_here c.args.case c.requires.case_in_bounds)

pub guard_entailment-requires-in-Assert-clause-shape_form : goal.guard_entailment-requires-in-Assert-clause-shape_form
unfolding WayForm
guard_entailment-requires-in-Assert-clause-shape_form c =
    let s = (goal.at.guard_entailment-requires-in-Assert-clause-shape_form c).After-row_count-n in
    let y = few s c.in-Assert.is in
    (shape s, rw c.side_at-side-in-Assert.ensures (side_most _ _ _ _ (omega (arith, y)) (omega (arith, y))))

pub returns-in-Assert : goal.returns-in-Assert
unfolding Says
returns-in-Assert c =
    let s = (goal.at.returns-in-Assert c).After-row_count-n in
    let x = told c.requires.leaves c.in-Assert.is in
    let assert = is_assert c.args.program.now c.args.witness.now c.args.leaving.vertex.0 c.requires.given.program_form c.requires.leaves.low x.inside x.is in
    rw (c.guard_entailment-in-Assert.ensures, c.side_at-side-in-Assert.ensures, c.row_count-n.ensures, x.shaped)
    (side_stands c.requires.given c.args.leaving.vertex.0 c.requires.leaves.low (inside s) assert c.requires.disjunct_here c.args.case c.requires.case_in_bounds)

-- ---- a call

pub entry_entailment-requires-clause-shape_form : goal.entry_entailment-requires-clause-shape_form
unfolding WayForm
entry_entailment-requires-clause-shape_form c =
    let s = (goal.at.entry_entailment-requires-clause-shape_form c).After-row_count-n in
    (shape s, (few s c.in-Call.is).1)

pub returns-then-case-eq0 : goal.returns-then-case-eq0
unfolding Says
returns-then-case-eq0 c =
    let x = told c.requires.leaves c.in-Call.is in
    let first : c.args.case ≡ 0 = omega (arith, c.if-case-eq0.true) in
    rw (c.entry_entailment.ensures, c.row_count-n.ensures, x.shaped, first) (entry_at c.requires.given (is_call c.requires.leaves.low x) c.requires.disjunct_here)

-- a return is by a disjunct of the summary, and the place that is looked up is the disjunct's
by_disjunct : (c : Else-case-eq0) → c.args.case - 1 < (summary_target c.args.sizes c.args.witness.now c.in-Call.row.callee.0).count
unfolding Says
by_disjunct c = return_few c.requires.given (is_call c.requires.leaves.low (told c.requires.leaves c.in-Call.is)) _ c.args.case (omega (arith, c.if-case-eq0.false)) c.requires.case_in_bounds

looked_up : (c : Else-case-eq0) → let t = summary_target c.args.sizes c.args.witness.now c.in-Call.row.callee.0 in
    get_or c.args.summaries.now (c.args.case - 1) 0 ≡ disjuncts_end t.form c.args.rows.now (summary_columns c.args.leaving.shape) (c.args.case - 1) t.place
unfolding PlacesAt
looked_up c = held_for_call c.requires.summaries_at c.in-Call.is (c.args.case - 1) (by_disjunct c)

pub summary_added-added-requires-clause-j_in_bounds : goal.summary_added-added-requires-clause-j_in_bounds
summary_added-added-requires-clause-j_in_bounds c =
    let e = (goal.at.summary_added-added-requires-clause-j_in_bounds c).Else-case-eq0 in
    let most = (entry_few c.args.sizes c.args.witness.now (c.args.sizes.statements + c.args.sizes.procedures + c.in-Call.row.callee.0)).1 in
    omega (arith, by_disjunct e, most, c.requires.summaries_at.long)

pub summary_added-added-requires-clause-j_in_bounds_2 : goal.summary_added-added-requires-clause-j_in_bounds_2
unfolding Says
summary_added-added-requires-clause-j_in_bounds_2 c =
    let e = (goal.at.summary_added-added-requires-clause-j_in_bounds_2 c).Else-case-eq0 in
    let x = told c.requires.leaves c.in-Call.is in
    rw (looked_up e, x.shaped) (summary_inside c.requires.given (is_call c.requires.leaves.low x) (c.args.case - 1) (by_disjunct e))

pub return_entailment-requires-clause-shape_form : goal.return_entailment-requires-clause-shape_form
unfolding WayForm
return_entailment-requires-clause-shape_form c =
    let s = (goal.at.return_entailment-requires-clause-shape_form c).After-row_count-n in
    (shape s, (few s c.in-Call.is).0)

pub returns-else-case-eq0 : goal.returns-else-case-eq0
unfolding Says
returns-else-case-eq0 c =
    let e = (goal.at.returns-else-case-eq0 c).Else-case-eq0 in
    let x = told c.requires.leaves c.in-Call.is in
    rw (c.return_entailment.ensures, c.summary_added-added.ensures, looked_up e, c.row_count-n.ensures, x.shaped)
    (return_at c.requires.given (is_call c.requires.leaves.low x) c.requires.disjunct_here c.args.case (omega (arith, c.if-case-eq0.false)) c.requires.case_in_bounds)
