-- The loop's invariant: the bytes passed are copied, and the rest of the line is as it came.
use Rattle.std.proofs.Common.{◌≡◌}
use Rattle.std.proofs.Math.Seq.{paste}
use Rattle.plan_text.proofs.answer_lines.push.Given as goal

abbrev pub invariant-loop-i : goal.invariant-loop-i
invariant-loop-i l = l.line ≡ paste l.fn.line l.at l.bytes l.i
