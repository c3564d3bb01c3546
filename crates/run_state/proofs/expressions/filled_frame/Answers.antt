-- `filled_frame` meets its contract: one more word put behind those that stand in the frame.
use Rattle.std.proofs.Common.{◌+◌, pos, arith, add-one, length-set}
use Rattle.std.proofs.Math.Seq.{paste-suc}
use Rattle.numbers.specs.Magnitudes.{back64}
use Rattle.run_state.proofs.expressions.filled_frame.Goals as goal

pub loop-i-preserved : goal.loop-i-preserved
loop-i-preserved c =
    record {
      size = simp length-set c.loop-i.invariant.size;
      so_far =
          rw (back64 c.wide.type_inv, c.wide.ensures.is, c.loop-i.invariant.so_far, add-one c.loop-i.i)
          (paste-suc c.args.frame (2 + c.args.count) c.args.left.now c.loop-i.i (pos 0) (omega arith) (omega arith));
    }
