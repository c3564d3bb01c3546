-- A contradiction's 0 names no disjunct; the others count from 1.
use Rattle.std.specs.Prelude.{Some}
use Rattle.std.proofs.Common.{◌-◌, ap, ◌∙◌, arith}
use Rattle.certificate_readers.specs.Disjuncts.{first_formed}
use Rattle.entailment_judge.specs.TrueTargets.{place_none, place_some}
use Rattle.entailment_judge.proofs.true_targets.named.Goals as goal

pub returns-then-j-eq0 : goal.returns-then-j-eq0
returns-then-j-eq0 c = let a = c.args in place_none a.rows.now a.e a.j c.if-j-eq0.true

pub disjunct_place-requires-clause-disjuncts_form :
    goal.disjunct_place-requires-clause-disjuncts_form
disjunct_place-requires-clause-disjuncts_form c =
    let a = c.args in
    first_formed a.e.form a.rows.now a.e.width (a.j - 1) (omega (arith, c.requires.j_le_count.0)) c.requires.disjuncts_form

pub returns : goal.returns
returns c = let a = c.args in ap Some c.disjunct_place.ensures ∙ place_some a.rows.now a.e a.j (omega arith)
