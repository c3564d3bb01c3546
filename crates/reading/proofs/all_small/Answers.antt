-- `all_small` meets its contract: the words that are there say it of all, and if there are none it holds.
use Rattle.std.proofs.Common.{◌-◌, length, ◌∙◌, arith}
use Rattle.reading.proofs.SmallWords.{all_inside, none_inside}
use Rattle.reading.proofs.all_small.Goals as goal

pub returns-then-words-at : goal.returns-then-words-at
returns-then-words-at c = let a = c.args in none_inside a.words.now a.limit a.at a.count c.if-words-at.true

pub returns-then-left-count : goal.returns-then-left-count
returns-then-left-count c =
    let a = c.args in
    c.inside_small.ensures
    ∙ all_inside a.words.now a.limit a.at (length a.words.now - a.at) a.count (omega arith) (omega arith)
