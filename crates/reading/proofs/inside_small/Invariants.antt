-- After j turns it has what `all_small` says of j words.
use Rattle.std.proofs.Common.{◌≡◌}
use Rattle.words.specs.Words.{all_small}
use Rattle.reading.proofs.inside_small.Given as goal

abbrev pub invariant-loop-x : goal.invariant-loop-x
invariant-loop-x l = l.all ≡ all_small l.words l.limit l.at l.x-index
