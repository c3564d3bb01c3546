-- The loop's invariant: the values passed are put, each in at most 21 bytes, and the rest of the line is as it came.
use Rattle.std.proofs.Common.{◌≤◌, ◌+◌, ◌*◌, take}
use Rattle.plan_text.specs.Lines.{values_in}
use Rattle.plan_text.specs.PushLaws.{Pushed}
use Rattle.plan_text.proofs.answer_lines.push_values.Given as goal

abbrev pub invariant-loop-i : goal.invariant-loop-i
invariant-loop-i l = record { short : l.end ≤ l.at + l.i * 21; told : Pushed l.fn.line l.at (values_in (take l.i l.values)) l.end l.line }
