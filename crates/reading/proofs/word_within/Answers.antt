-- `word_within` meets its contract: by what the word is as a natural number.
use Rattle.std.proofs.Common.{rules}
use Rattle.words.specs.Words.{word}
use Rattle.reading.proofs.Laws.{within_natural}
use Rattle.reading.proofs.word_within.Goals as goal

pub returns : goal.returns
returns c = rw (within_natural c.args.low c.args.high (word c.args.words.now c.args.i), ← c.natural_at.ensures) (search rules)
