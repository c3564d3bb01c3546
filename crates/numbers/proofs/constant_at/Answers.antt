-- `constant_at` meets its contract: both words are there, and they are those that `constant_at` reads.
use Rattle.std.proofs.Common.{rules}
use Rattle.words.specs.RowWords.{constant_at}
use Rattle.numbers.proofs.constant_at.Goals as goal

pub returns : goal.returns
unfolding constant_at
returns c = search rules
