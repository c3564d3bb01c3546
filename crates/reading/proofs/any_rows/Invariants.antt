-- After i turns it has what `rows_pass` says of i rows.
use Rattle.std.proofs.Common.{◌≡◌}
use Rattle.words.specs.RowWords.{rows_pass}
use Rattle.reading.proofs.any_rows.Given as goal

abbrev pub invariant-loop-i : goal.invariant-loop-i
invariant-loop-i l = l.all ≡ rows_pass l.words l.at l.columns l.i
