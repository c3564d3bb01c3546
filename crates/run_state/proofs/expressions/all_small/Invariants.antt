-- `all_small` meets its contract. The loop's invariant: the answer so far is that for the values passed.
use Rattle.std.proofs.Common.{◌≡◌, take, drop}
use Rattle.words.specs.Limits.{value_limit}
use Rattle.traces.specs.Replay.{all_values}
use Rattle.run_state.proofs.expressions.all_small.Given as goal

abbrev pub invariant-loop-i : goal.invariant-loop-i
invariant-loop-i l = l.all ≡ all_values value_limit (take l.i (drop l.from l.values))
