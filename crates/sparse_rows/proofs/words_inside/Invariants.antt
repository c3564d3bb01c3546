-- Before each turn the words up to `from` are those of the rows that aren't left; a turn goes over as many of these as are alike.
use Rattle.std.proofs.Common.{◌≡◌, ◌+◌, ◌-◌, ◌≤◌, drop}
use Rattle.words.specs.SparseRows.{sparse_words}
use Rattle.sparse_rows.proofs.words_inside.Given as goal

abbrev pub invariant-loop-left : goal.invariant-loop-left
invariant-loop-left l = (l.left ≤ l.count) × (l.from ≡ l.at + sparse_words l.columns (l.count - l.left) (drop l.at l.words))

abbrev pub decreases-loop-left : goal.decreases-loop-left
decreases-loop-left l = l.left
