-- After j turns the first j columns and coefficients were tested; the last column decides which one may come next, as long as all are in range.
use Rattle.std.proofs.Common.{◌≡◌, true, pos, ◌+ℤ◌}
use Rattle.sparse_rows.specs.SparseLoops.{passes_to, strict_to, least_to}
use Rattle.sparse_rows.proofs.arrays_tested.Given as goal

abbrev pub invariant-loop-j : goal.invariant-loop-j
invariant-loop-j l =
    (l.passes ≡ passes_to l.columns l.first l.used l.words l.j)
    × (l.passes ≡ true → (l.strict ≡ strict_to l.columns l.first l.used l.words l.j) × (l.last +ℤ pos 1 ≡ pos (least_to l.columns l.first l.used l.words l.j)))
