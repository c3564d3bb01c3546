-- `entered_frame` meets its contract: one more value is put behind those that stand in the frame.
use Rattle.std.proofs.Common.{◌≡◌, refl, sym, ap, pos, arith, length-set, w64, to_z}
use mir.Facts.{to_z_pos}
use Rattle.rows.specs.Columns.{zeros}
use Rattle.numbers.specs.Magnitudes.{back64}
use Rattle.run_state.specs.Frames.{frame_size, padded}
use Rattle.run_state.specs.ScopeValues.{values_of, width_of}
use Rattle.run_state.specs.ExpressionLaws.{no_actual, next_actual}
use Rattle.run_state.proofs.expressions.entered_frame.Goals as goal

pub loop-i-init : goal.loop-i-init
unfolding zeros
loop-i-init c =
    let a = c.args in
    let callee : to_z w64 a.callee.0 ≡ pos a.callee.0 = to_z_pos w64 (omega arith) in
    let vertex : to_z w64 a.vertex.0 ≡ pos a.vertex.0 = to_z_pos w64 (omega arith) in
    record {
      size = refl;
      so_far =
          rw (callee, vertex)
          (ap (padded frame_size) (sym (no_actual a.program.now a.at (width_of a.scope) (values_of a.globals.now a.frames.now a.scope) (pos a.callee.0) (pos a.vertex.0))));
    }

pub loop-i-preserved : goal.loop-i-preserved
loop-i-preserved c =
    let a = c.args in
    record {
      size = simp length-set c.loop-i.invariant.size;
      so_far =
          rw (back64 c.value_at.type_inv, c.value_at.ensures, c.row_words-width.ensures, c.loop-i.invariant.so_far)
          (next_actual a.program.now a.at (width_of a.scope) (values_of a.globals.now a.frames.now a.scope) (pos a.callee.0) (pos a.vertex.0) c.loop-i.i (omega arith));
    }
