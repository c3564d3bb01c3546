-- V, on fewer remaining vertices with each call that doesn't come back.
use Rattle.std.proofs.Common.{◌-◌}
use Rattle.valid_paths.proofs.paths.+valid.Given as goal

abbrev pub decreases-valid : goal.decreases-valid
decreases-valid l = l.trace.steps - l.from.at
