-- Before turn i the first i rows have as many coefficients as the first, and so take i times its words.
use Rattle.std.proofs.Common.{◌≡◌, ◌+◌, ◌*◌, drop}
use Rattle.words.specs.SparseRows.{sparse_size, sparse_words}
use Rattle.sparse_rows.proofs.alike.Given as goal

abbrev pub invariant-loop-i : goal.invariant-loop-i
invariant-loop-i l =
    (l.from ≡ l.at + sparse_words l.columns l.i (drop l.at l.words)) × (sparse_words l.columns l.i (drop l.at l.words) ≡ l.i * sparse_size l.many)
