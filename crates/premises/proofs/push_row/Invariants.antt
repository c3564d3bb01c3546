-- After i turns the first i entries of the row stand behind the n rows.
use Rattle.std.proofs.Common.{◌≡◌}
use Rattle.premises.proofs.Copying.{pushed_part}
use Rattle.premises.proofs.MovedEntries.{moved}
use Rattle.premises.proofs.push_row.Given as goal

abbrev pub invariant-loop-i : goal.invariant-loop-i
invariant-loop-i l = l.premises ≡ pushed_part l.columns l.n l.i (moved l.words l.place l.k l.variant.negative l.shift l.variant.plus) l.fn.premises
