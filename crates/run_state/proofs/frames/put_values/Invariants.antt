-- `put_values` meets its contract. The loop's invariant: the values passed stand in the buffer, and the rest is as it came.
use Rattle.std.proofs.Common.{◌≡◌, drop}
use Rattle.std.proofs.Math.Seq.{paste}
use Rattle.run_state.proofs.frames.put_values.Given as goal

abbrev pub invariant-loop-i : goal.invariant-loop-i
invariant-loop-i l = l.buffer ≡ paste l.initial.buffer l.at (drop l.from l.values) l.i
