-- A run record beside its buffers: where the run stands. And a record that was moved on still holds the buffers that it came with, each at its
-- last numbers and as long as before.
use Rattle.std.specs.Prelude.{◌≡◌, length}
use denote.Ref.{at_last}
use Rattle.run_state.specs.declared.changes.Standing.{Standing}
use Rattle.run_state.specs.declared.record.RunRecord.{RunRecord}

abbrev pub standing_in : RunRecord → Standing
standing_in h = record { vertex = h.vertex; depth = h.depth; used = h.used }

pub record SameBuffers (h h' : RunRecord) : Type 0 where
  pub same_globals : h'.globals ≡ at_last h.globals h'.globals.now
  pub same_frames : h'.frames ≡ at_last h.frames h'.frames.now
  pub globals_length : length h'.globals.now ≡ length h.globals.now
  pub frames_length : length h'.frames.now ≡ length h.frames.now
