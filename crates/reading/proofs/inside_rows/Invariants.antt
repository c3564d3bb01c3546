-- After i turns it has what `rows_pass` says of i rows, and stands where row i begins.
use Rattle.std.proofs.Common.{◌≡◌, ◌+◌, ◌*◌}
use Rattle.words.specs.RowWords.{rows_pass}
use Rattle.reading.proofs.inside_rows.Given as goal

abbrev pub invariant-loop-i : goal.invariant-loop-i
invariant-loop-i l = (l.from ≡ l.at + l.i * l.size) × (l.all ≡ rows_pass l.words l.at l.columns l.i)
