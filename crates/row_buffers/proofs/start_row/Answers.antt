-- A constant is stored over the first of the zeros.
use Rattle.std.proofs.Common.{◌∙◌}
use Rattle.words.specs.RowWords.{constant_at}
use Rattle.numbers.specs.Magnitudes.{back64}
use Rattle.row_buffers.proofs.Starting.{constant_stored}
use Rattle.row_buffers.proofs.start_row.Goals as goal

pub returns : goal.returns
returns c =
    let a = c.args in
    constant_stored a.columns _ (constant_at a.words.now a.from) a.target.now _ c.clear_row.ensures (back64 c.constant_at.type_inv ∙ c.constant_at.ensures)
