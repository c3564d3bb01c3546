-- `put_words` meets its contract: one more word put behind those that stand there.
use Rattle.std.proofs.Common.{pos, drop, arith, add-one, length-drop}
use Rattle.std.proofs.Math.Seq.{paste-suc, get_or-drop}
use Rattle.numbers.specs.Magnitudes.{back64}
use Rattle.trace_steps.proofs.starts.put_words.Goals as goal

pub loop-i-preserved : goal.loop-i-preserved
loop-i-preserved c =
    let there = drop c.args.at c.args.witness.now in
    rw (back64 c.wide.type_inv, c.wide.ensures.is, c.loop-i.invariant, add-one c.loop-i.i, ← get_or-drop c.args.at c.args.witness.now c.loop-i.i (pos 0))
    (paste-suc c.args.values.now c.args.to there c.loop-i.i (pos 0) (omega arith) (rw (length-drop c.args.at c.args.witness.now) (omega arith)))
