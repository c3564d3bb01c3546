-- The coefficients before entry k are 0.
use Rattle.entailment_judge.proofs.Sums.{SameBefore, zeros}
use Rattle.entailment_judge.proofs.is_refuted.Given as goal

abbrev pub invariant-loop-k : goal.invariant-loop-k
invariant-loop-k l = SameBefore l.columns l.sum (zeros l.columns l.sum) l.k
