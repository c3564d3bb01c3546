-- `all_steps` meets its contract. The loop's invariant: the replay stands there after the steps passed.
use Rattle.trace_steps.specs.Runs.{Here}
use Rattle.replay.proofs.runs.all_steps.Given as goal

abbrev pub invariant-loop-i : goal.invariant-loop-i
invariant-loop-i l = Here l.program l.witness l.entries l.trace l.i l.globals l.frames (record { vertex = l.vertex; depth = l.depth; used = l.used })
