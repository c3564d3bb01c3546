-- The loop's invariant: the words passed stand at the buffer's front, and the rest is as it came.
use Rattle.std.proofs.Common.{◌≡◌}
use Rattle.plan_text.specs.ByteWords.{words_of}
use Rattle.plan_text.specs.ByteWordLaws.{fronted}
use Rattle.plan_text.proofs.byte_words.read_words.Given as goal

abbrev pub invariant-loop-i : goal.invariant-loop-i
invariant-loop-i l = l.words ≡ fronted (words_of l.bytes) l.fn.words l.i
