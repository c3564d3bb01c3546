-- Each used column adds what it becomes, so after j turns the image is put into the row with its first j coefficients.
use Rattle.std.proofs.Common.{◌≡◌}
use Rattle.row_buffers.specs.Spread.{written}
use Rattle.entailments.specs.Meaning.{image_rows}
use Rattle.images.proofs.UsedSums.{part_put}
use Rattle.images.proofs.used_columns.sum_used.Given as goal

abbrev pub invariant-loop-j : goal.invariant-loop-j
invariant-loop-j l = l.target ≡ written l.columns (part_put (image_rows l.words l.s l.image) l.m l.rows l.from l.j) l.fn.target
