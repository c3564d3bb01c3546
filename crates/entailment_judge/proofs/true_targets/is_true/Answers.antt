-- Where there is a disjunct, its row count is compared.
use Rattle.entailment_judge.specs.TrueTargets.{is_true}
use Rattle.entailment_judge.proofs.true_targets.is_true.Goals as goal

pub returns-in-Some : goal.returns-in-Some
unfolding is_true
returns-in-Some c = rw (c.in-Some.is, ← c.row_count.ensures)

pub returns-in-None : goal.returns-in-None
unfolding is_true
returns-in-None c = rw c.in-None.is
