-- `all_small` meets its contract: one more value is tested, and the answers so far hold with it.
use Rattle.std.proofs.Common.{rules, refl, ◌+◌, ◌<◌, pos, length, drop, get_or, arith, w64, SFits, to_z-of_z, length-drop}
use Rattle.std.proofs.Math.Seq.{get_or-drop}
use Rattle.words.specs.Limits.{value_limit}
use Rattle.traces.specs.Replay.{all_values}
use Rattle.run_state.specs.ValueLaws.{next_small}
use Rattle.run_state.proofs.expressions.all_small.Goals as goal

pub loop-i-init : goal.loop-i-init
unfolding all_values
loop-i-init c = refl

pub loop-i-preserved : goal.loop-i-preserved
loop-i-preserved c =
    let f : SFits w64 (get_or c.args.values.now (c.args.from + c.loop-i.i) (pos 0)) = search rules in
    let there : c.loop-i.i < length (drop c.args.from c.args.values.now) = simp length-drop (omega arith) in
    rw (next_small value_limit (drop c.args.from c.args.values.now) c.loop-i.i there, get_or-drop c.args.from c.args.values.now c.loop-i.i (pos 0), c.loop-i.invariant, c.is_small-one.ensures, to_z-of_z f) refl
