-- The four bytes that are read are the word's.
use Rattle.std.proofs.Common.{w32, ◌∙◌, to_z-of_z}
use Rattle.plan_text.specs.ByteWords.{word_at}
use Rattle.plan_text.proofs.byte_words.word_at.Goals as goal

pub returns : goal.returns
unfolding word_at
returns c = to_z-of_z {w = w32} (record { sfits = c.word_of.type_inv }) ∙ c.word_of.ensures
