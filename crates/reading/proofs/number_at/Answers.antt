-- `number_at` meets its contract: past the end a word is 0, and so is its number.
use Rattle.std.proofs.Common.{sym, ap, ◌∙◌, pos}
use Rattle.std.proofs.Math.ListN.{get_or-eq_default}
use Rattle.words.specs.Words.{number}
use Rattle.reading.proofs.Laws.{number_zero}
use Rattle.reading.proofs.number_at.Goals as goal

pub returns-then-words-i-clause-value : goal.returns-then-words-i-clause-value
returns-then-words-i-clause-value c =
    sym (ap (number c.args.most) (get_or-eq_default c.args.words.now (pos 0) c.if-words-i.true) ∙ number_zero c.args.most)
