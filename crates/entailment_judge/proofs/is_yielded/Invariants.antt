-- The coefficients before entry i are those of the multiple.
use Rattle.entailment_judge.proofs.Sums.{SameBefore, multiple}
use Rattle.entailment_judge.proofs.is_yielded.Given as goal

abbrev pub invariant-loop-i : goal.invariant-loop-i
invariant-loop-i l = SameBefore l.columns l.sum (multiple l.columns l.sum l.target l.divisor) l.i
