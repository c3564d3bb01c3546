-- `word_small` meets its contract: past the end a word is 0 and passes.
use Rattle.std.proofs.Common.{sym}
use Rattle.reading.proofs.SmallWords.{small_past}
use Rattle.reading.proofs.word_small.Goals as goal

pub returns-then-words-i : goal.returns-then-words-i
returns-then-words-i c = sym (small_past c.args.words.now c.args.limit c.args.i c.if-words-i.true)
