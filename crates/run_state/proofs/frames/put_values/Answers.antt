-- `put_values` meets its contract: one more value of the list put behind those that stand there.
use Rattle.std.proofs.Common.{rules, ◌+◌, pos, drop, get_or, arith, w64, SFits, to_z-of_z, add-one, length-drop}
use Rattle.std.proofs.Math.Seq.{paste-suc, get_or-drop}
use Rattle.run_state.proofs.frames.put_values.Goals as goal

pub loop-i-preserved : goal.loop-i-preserved
loop-i-preserved c =
    let f : SFits w64 (get_or c.args.values.now (c.args.from + c.loop-i.i) (pos 0)) = search rules in
    let there = drop c.args.from c.args.values.now in
    rw (to_z-of_z f, c.loop-i.invariant, add-one c.loop-i.i, ← get_or-drop c.args.from c.args.values.now c.loop-i.i (pos 0))
    (paste-suc c.args.buffer.now c.args.at there c.loop-i.i (pos 0) (omega arith) (rw (length-drop c.args.from c.args.values.now) (omega arith)))
