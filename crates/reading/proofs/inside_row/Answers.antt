-- `inside_row` meets its contract: the two tests are those of `row_passes`.
use Rattle.std.proofs.Common.{rules}
use Rattle.words.specs.RowWords.{constant_passes, row_passes}
use Rattle.reading.proofs.inside_row.Goals as goal

pub returns : goal.returns
unfolding constant_passes row_passes
returns c = search rules
