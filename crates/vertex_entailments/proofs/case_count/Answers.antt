-- `case_count` meets its contract: the number of a vertex's cases is the law of its kind.
use Rattle.std.proofs.Common.{◌≡◌, ℕ, ◌+◌, ◌≤◌, sym, ap, subst, ◌∙◌, arith}
use Rattle.words.specs.Limits.{most_procedures}
use Rattle.certificates.specs.CertificateWords.{count_of}
use Rattle.programs.specs.ProgramWords.{n, p}
use Rattle.vertex_entailments.specs.Conditions.{is_branch, is_assert, condition_count}
use Rattle.vertex_entailments.specs.CountLaws.{exit_count, skip_count, assign_count, call_count}
use Rattle.vertex_entailments.specs.Leaving.{Says, WayForm}
use Rattle.vertex_entailments.specs.LeavingLaws.{told, is_call}
use Rattle.vertex_entailments.proofs.case_count.Goals as goal
use Rattle.vertex_entailments.proofs.case_count.Goals.{In-Call}

-- ---- one case

pub returns-in-Skip-clause-value : goal.returns-in-Skip-clause-value
unfolding Says
returns-in-Skip-clause-value c = λ program d h f l. let x = told l c.in-Skip.is in sym (skip_count program c.args.witness.now c.args.leaving.vertex.0 l.low x.inside d x.is)

pub returns-in-Assign-clause-value : goal.returns-in-Assign-clause-value
unfolding Says
returns-in-Assign-clause-value c = λ program d h f l. let x = told l c.in-Assign.is in sym (assign_count program c.args.witness.now c.args.leaving.vertex.0 l.low x.inside d x.is)

pub returns-in-Exit-clause-value : goal.returns-in-Exit-clause-value
unfolding Says
returns-in-Exit-clause-value c = λ program d h f l. let x = told l c.in-Exit.is in sym (exit_count program c.args.witness.now c.args.leaving.vertex.0 x.past d)

-- ---- a condition

pub returns-in-Branch-clause-value : goal.returns-in-Branch-clause-value
unfolding Says
returns-in-Branch-clause-value c = λ program d h f l. let x = told l c.in-Branch.is in
    c.sides_count.ensures.value ∙ sym (condition_count (is_branch program c.args.witness.now c.args.leaving.vertex.0 f l.low x.inside x.is) d)

pub returns-in-Assert-clause-value : goal.returns-in-Assert-clause-value
unfolding Says
returns-in-Assert-clause-value c = λ program d h f l. let x = told l c.in-Assert.is in
    c.sides_count-in-Assert.ensures.value ∙ sym (condition_count (is_assert program c.args.witness.now c.args.leaving.vertex.0 f l.low x.inside x.is) d)

-- ---- a call

callee_few : (c : In-Call) → c.in-Call.row.callee.0 ≤ most_procedures
unfolding WayForm
callee_few c = let f = subst WayForm c.in-Call.is c.requires.way_form in f.1

pub summary_entry-entry-requires-clause-q_le_most_procedures : goal.summary_entry-entry-requires-clause-q_le_most_procedures
summary_entry-entry-requires-clause-q_le_most_procedures c = callee_few (goal.at.summary_entry-entry-requires-clause-q_le_most_procedures c).In-Call

pub entry_count-requires : goal.entry_count-requires
entry_count-requires c = omega (arith, c.summary_entry-entry.ensures, callee_few (goal.at.entry_count-requires c).In-Call, c.requires.procedures_bound)

pub returns-in-Call-clause-value : goal.returns-in-Call-clause-value
unfolding Says
returns-in-Call-clause-value c = λ program d h f l. let x = told l c.in-Call.is in
    let slot : c.summary_entry-entry.result ≡ n program + p program + c.in-Call.row.callee.0 = omega (arith, c.summary_entry-entry.ensures, h.statements, h.procedures) in
    ap (λ (y : ℕ). 1 + y) (c.entry_count.ensures.value ∙ ap (count_of c.args.witness.now) slot) ∙ sym (call_count program c.args.witness.now c.args.leaving.vertex.0 f (is_call l.low x) d)
