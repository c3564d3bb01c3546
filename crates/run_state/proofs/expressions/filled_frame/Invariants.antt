-- `filled_frame` meets its contract. The loop's invariant: the words passed stand in the frame, and the rest is as it came.
use Rattle.std.proofs.Common.{◌≡◌, length}
use Rattle.std.proofs.Math.Seq.{paste}
use Rattle.run_state.specs.Frames.{frame_size}
use Rattle.run_state.proofs.expressions.filled_frame.Given as goal

abbrev pub invariant-loop-i : goal.invariant-loop-i
invariant-loop-i l = record {
  size : length l.filled ≡ frame_size;
  so_far : l.filled ≡ paste l.initial.filled l.from l.left l.i;
}
