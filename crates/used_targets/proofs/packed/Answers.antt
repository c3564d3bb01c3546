-- Each turn puts a flag of 0 or 1 in front of those behind it, whose byte is 127 at most.
use Rattle.std.proofs.Common.{◌-◌, ◌≤◌, sym, arith}
use Rattle.used_targets.proofs.PackedLaws.{packed_none, packed_next, packed_fits}
use Rattle.used_targets.proofs.packed.Goals as goal
use Rattle.used_targets.proofs.packed.Goals.{In-loop-i}

pub loop-i-init : goal.loop-i-init
loop-i-init c = sym (packed_none c.args.flags.now c.requires.0)

-- the byte so far
small : (c : In-loop-i) → c.loop-i.byte ≤ 127
small c = omega (arith, c.loop-i.invariant, packed_fits c.args.flags.now c.requires.0 c.requires.1 c.loop-i.i (omega arith))

pub overflow_add-byte : goal.overflow_add-byte
overflow_add-byte c = omega (arith, small (goal.at.overflow_add-byte c).In-loop-i)

pub overflow_add-byte-in-loop-i : goal.overflow_add-byte-in-loop-i
overflow_add-byte-in-loop-i c = omega (arith, small (goal.at.overflow_add-byte-in-loop-i c).In-loop-i, c.requires.1 (7 - c.loop-i.i))

pub loop-i-preserved : goal.loop-i-preserved
loop-i-preserved c = rw c.loop-i.invariant (packed_next c.args.flags.now c.requires.0 c.loop-i.i (omega arith))
