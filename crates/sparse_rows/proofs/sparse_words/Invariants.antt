-- After i turns the size is that of the first i rows; a row takes at most 131 words.
use Rattle.std.proofs.Common.{◌≡◌, ◌*◌, ◌≤◌, drop}
use Rattle.words.specs.SparseRows.{sparse_words}
use Rattle.sparse_rows.proofs.sparse_words.Given as goal

abbrev pub invariant-loop-i : goal.invariant-loop-i
invariant-loop-i l = (l.size ≤ l.i * 131) × (l.size ≡ sparse_words l.columns l.i (drop l.at l.words))
