-- `put_words` meets its contract. The loop's invariant: the words passed stand among the values, and the rest is as it came.
use Rattle.std.proofs.Common.{◌≡◌, drop}
use Rattle.std.proofs.Math.Seq.{paste}
use Rattle.trace_steps.proofs.starts.put_words.Given as goal

abbrev pub invariant-loop-i : goal.invariant-loop-i
invariant-loop-i l = l.values ≡ paste l.initial.values l.to (drop l.at l.witness) l.i
