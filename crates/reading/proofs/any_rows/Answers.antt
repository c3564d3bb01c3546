-- `any_rows` meets its contract: `rows_pass` grows at its end.
use Rattle.std.proofs.Common.{refl, add-one}
use Rattle.words.specs.RowWords.{rows_pass}
use Rattle.reading.proofs.any_rows.Goals as goal

pub loop-i-init : goal.loop-i-init
unfolding rows_pass
loop-i-init c = refl

pub loop-i-preserved : goal.loop-i-preserved
unfolding rows_pass
loop-i-preserved c = rw (add-one, ← c.row_words-size.ensures, ← c.loop-i.invariant, ← c.row_passes-one.ensures) refl
