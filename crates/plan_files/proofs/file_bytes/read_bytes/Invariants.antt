-- Each read puts bytes behind those that are there, the next ones that were to come, and the buffer keeps its length. One that gives bytes leaves less
-- to fill, and one that is made again uses up one of the times.
use Rattle.std.proofs.Common.{◌≡◌, ◌≤◌, ◌+◌, ◌-◌, length, take}
use Rattle.std.specs.Io.KnownBytes.{Consumes}
use Rattle.plan_files.proofs.file_bytes.read_bytes.Given as goal

abbrev pub invariant-loop-done : goal.invariant-loop-done
invariant-loop-done g l =
    record {
      within : l.done ≤ length l.bytes;
      kept : length l.bytes ≡ length l.fn.bytes;
      told : Consumes (g.F.Read.remaining l.fn.file) (g.F.Read.remaining l.file) (take l.done l.bytes);
    }

abbrev pub decreases-loop-done : goal.decreases-loop-done
decreases-loop-done g l = (length l.initial.bytes - l.done) + l.left
