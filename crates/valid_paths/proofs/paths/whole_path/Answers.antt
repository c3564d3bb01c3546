-- `whole_path` meets its contract: a valid path from main's start, with the table of the returns to come.
use Rattle.std.proofs.Common.{arith}
use Rattle.trace_steps.specs.Runs.{at_start, Here}
use Rattle.trace_steps.specs.StepOnLaws.{here_first}
use Rattle.valid_paths.proofs.paths.whole_path.Goals as goal
use Rattle.valid_paths.proofs.paths.whole_path.Goals.{After-trace_sizes-trace}

-- where the reading starts
begins : (c : After-trace_sizes-trace) → Here c.args.program.now c.args.witness.now c.args.entries.now c.trace_sizes-trace.result 0 c.args.globals.now c.args.frames.now at_start
begins c = here_first _ c.args.sizes _ _ c.args.steps _ _ c.trace_sizes-trace.result c.trace_sizes-trace.ensures c.requires

pub fill_returns-requires-clause-sized : goal.fill_returns-requires-clause-sized
fill_returns-requires-clause-sized c = (begins (goal.at.fill_returns-requires-clause-sized c).After-trace_sizes-trace).sized

pub fill_returns-requires-clause-steps_in_bounds : goal.fill_returns-requires-clause-steps_in_bounds
fill_returns-requires-clause-steps_in_bounds c = let h = begins (goal.at.fill_returns-requires-clause-steps_in_bounds c).After-trace_sizes-trace in omega (arith, h.sized.few)

pub valid-requires-clause-here : goal.valid-requires-clause-here
valid-requires-clause-here c = rw (c.reached_at-start.ensures, c.standing.ensures) (begins (goal.at.valid-requires-clause-here c).After-trace_sizes-trace)
