-- `entered_frame` meets its contract. The loop's invariant: behind the first two numbers, those before the loop, stand the values of the
-- expressions passed, and then 0.
use Rattle.std.proofs.Common.{◌≡◌, ◌∷◌, pos, length, drop}
use Rattle.rows.specs.Rows.{values}
use Rattle.words.specs.RowWords.{rows_of}
use Rattle.run_state.specs.Frames.{frame_size, padded}
use Rattle.run_state.specs.ScopeValues.{values_of, width_of}
use Rattle.run_state.proofs.expressions.entered_frame.Given as goal

abbrev pub invariant-loop-i : goal.invariant-loop-i
invariant-loop-i l = record {
  size : length l.frame ≡ frame_size;
  so_far : l.frame ≡ padded frame_size (pos l.fn.callee.0 ∷ pos l.fn.vertex.0 ∷ values (rows_of (width_of l.scope) l.i (drop l.at l.program)) (values_of l.globals l.frames l.scope));
}
