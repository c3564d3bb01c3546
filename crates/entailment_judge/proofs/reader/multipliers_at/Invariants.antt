-- After i turns the first i multipliers are tested.
use Rattle.std.proofs.Common.{◌≡◌}
use Rattle.entailment_judge.specs.WitnessReader.{all_multipliers}
use Rattle.entailment_judge.proofs.reader.multipliers_at.Given as goal

abbrev pub invariant-loop-i : goal.invariant-loop-i
invariant-loop-i l = l.all ≡ all_multipliers l.words l.at l.i
