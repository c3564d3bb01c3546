-- Test 9 of values that stand one behind the other, as the code makes it: the start values are such a family, and the entry values another.
use Rattle.std.specs.Prelude.{List, ℕ, ◌+◌, ℤ}
use Rattle.words.specs.Limits.{start_limit}
use Rattle.words.specs.Words.{word, small}
use Rattle.words.specs.Tests.{Test, test}

-- of the i-th value behind a place, from 1
unfoldable pub value_test : List ℤ → ℕ → ℕ → Test
value_test witness before i = test 9 (before + i) (small start_limit (word witness (before + i)))
