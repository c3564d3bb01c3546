-- Below 0 the bits are 2^32 - 1 less -1 - x, which fits; else they are the number itself.
use Rattle.std.proofs.Common.{ap, sym, w32}
use Rattle.plan_text.specs.ByteWords.{bits_in}
use Rattle.plan_text.proofs.SignedLaws.{below, not_below_lem}
use Rattle.plan_text.proofs.word_bytes.bits_in.Goals as goal

pub returns-then-word-lt0 : goal.returns-then-word-lt0
unfolding bits_in
returns-then-word-lt0 c = let b = below w32 c.args.word c.ranges.word c.if-word-lt0.true in rw b.back (ap bits_in (sym b.is))

pub returns-else-word-lt0 : goal.returns-else-word-lt0
unfolding bits_in
returns-else-word-lt0 c = let o = not_below_lem w32 c.args.word c.ranges.word c.if-word-lt0.false in rw o.back (ap bits_in (sym o.is))
