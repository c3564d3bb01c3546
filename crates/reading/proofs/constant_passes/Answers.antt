-- `constant_passes` meets its contract: the two words are those that `constant_passes` tests.
use Rattle.std.proofs.Common.{to_z-of_z}
use Rattle.words.specs.RowWords.{constant_passes}
use Rattle.reading.proofs.constant_passes.Goals as goal

pub returns : goal.returns
unfolding constant_passes
returns c =
    rw (to_z-of_z (record { sfits = c.word_at.type_inv }), to_z-of_z (record { sfits = c.word_at-2.type_inv }), c.word_at.ensures, c.word_at-2.ensures)
    at c.is_constant.ensures
