-- A multiplier's two bounds are the test that a word is one of 0..1,000.
use Rattle.std.proofs.Common.{to_z-of_z}
use Rattle.words.specs.Limits.{most_multiplier}
use Rattle.words.proofs.Ranges.{within_bounds}
use Rattle.entailment_judge.proofs.reader.is_multiplier.Goals as goal

pub returns : goal.returns
returns c = rw (to_z-of_z c.ranges.x) (within_bounds most_multiplier c.args.x)
