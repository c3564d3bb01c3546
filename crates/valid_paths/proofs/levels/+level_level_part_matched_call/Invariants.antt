-- M, by the three functions that read it: `level` goes on part by part, and its loop knows a level stretch up to where it stands; `level_part` reads
-- one part or none; `matched_call` reads a level stretch inside its call, on fewer remaining vertices.
use Rattle.std.proofs.Common.{◌+◌, ◌-◌, ◌*◌}
use Rattle.run_state.specs.State.{state_at, configuration_of}
use Rattle.valid_paths.specs.LevelLaws.{Reading}
use Rattle.valid_paths.proofs.levels.+level_level_part_matched_call.Given as goal

abbrev pub decreases-level : goal.decreases-level
decreases-level l = 3 * (l.trace.steps - l.from.at) + 2

abbrev pub decreases-level_part : goal.decreases-level_part
decreases-level_part l = 3 * (l.trace.steps - l.from.at) + 1

abbrev pub decreases-matched_call : goal.decreases-matched_call
decreases-matched_call l = 3 * (l.trace.steps - l.from.at)

abbrev pub invariant-level-loop-at : goal.invariant-level-loop-at
invariant-level-loop-at l =
    Reading l.program l.witness l.entries l.fn.trace l.fn.from.at (configuration_of l.program (state_at l.fn.globals l.fn.frames l.entries l.fn.from.here)) l.at l.globals l.frames
    (record { vertex = l.vertex; depth = l.depth; used = l.used })

abbrev pub decreases-level-loop-at : goal.decreases-level-loop-at
decreases-level-loop-at l = l.steps - l.at
