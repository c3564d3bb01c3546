-- One word more is put at its place, and there is one for each four bytes.
use Rattle.std.proofs.Common.{◌∙◌, w32, arith, to_z-of_z}
use Rattle.plan_text.proofs.ByteWordLaws.{length_words, one_more}
use Rattle.plan_text.proofs.byte_words.read_words.Goals as goal

pub loop-i-preserved : goal.loop-i-preserved
loop-i-preserved c =
    let l = c.loop-i in
    let e = to_z-of_z {w = w32} {z = c.word_at.result} (record { sfits = c.word_at.type_inv }) ∙ c.word_at.ensures in
    rw (e, l.invariant) (one_more c.args.bytes.now c.args.words.now l.i (omega (arith, c.least-count.ensures)) (omega (arith, c.least-count.ensures)))

pub returns-clause-value : goal.returns-clause-value
returns-clause-value c = rw (length_words c.args.bytes.now) c.least-count.ensures
