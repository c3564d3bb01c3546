-- After i turns the first i rows are all there and have passed test 5, and `from` is where they end; a row takes at most 131 words.
use Rattle.std.proofs.Common.{◌≡◌, ◌+◌, ◌*◌, ◌≤◌, ℕ, Bool, true, List, ℤ, length, drop}
use Rattle.words.specs.SparseRows.{sparse_words, sparse_rows_pass, sparse_rows_strict}
use Rattle.sparse_rows.specs.Walks.{sparse_rows_filled}
use Rattle.sparse_rows.proofs.rows_walked.Given as goal

pub record Turns (words : List ℤ) (at columns : ℕ) (strict filled : Bool) (from i : ℕ) : Type 0 where
  pub near : from ≤ at + i * 131
  pub inside : from ≤ length words
  pub ends : from ≡ at + sparse_words columns i (drop at words)
  pub pass : sparse_rows_pass columns i (drop at words) ≡ true
  pub strictly : strict ≡ sparse_rows_strict columns i (drop at words)
  pub filling : filled ≡ sparse_rows_filled columns i (drop at words)

abbrev pub invariant-loop-i : goal.invariant-loop-i
invariant-loop-i l = Turns l.words l.at l.columns l.strict l.filled l.from l.i
