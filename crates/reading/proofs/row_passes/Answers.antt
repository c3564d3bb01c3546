-- `row_passes` meets its contract: the two tests are those of `row_passes`.
use Rattle.words.specs.RowWords.{row_passes}
use Rattle.reading.proofs.row_passes.Goals as goal

pub returns : goal.returns
unfolding row_passes
returns c = cc
