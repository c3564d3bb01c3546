-- The byte is that of the flags from the last one on; each turn puts one more in front of them.
use Rattle.std.proofs.Common.{◌≡◌, ◌-◌, drop}
use Rattle.used_targets.specs.Packed.{packed_of}
use Rattle.used_targets.proofs.packed.Given as goal

abbrev pub invariant-loop-i : goal.invariant-loop-i
invariant-loop-i l = l.byte ≡ packed_of (drop (8 - l.i) l.flags)
