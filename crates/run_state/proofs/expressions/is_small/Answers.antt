-- `is_small` meets its contract.
use Rattle.std.proofs.Common.{to_z-of_z}
use Rattle.run_state.specs.ValueLaws.{small_two}
use Rattle.run_state.proofs.expressions.is_small.Goals as goal

pub returns : goal.returns
returns c = rw (to_z-of_z c.ranges.x) (small_two c.args.x)
