-- Bytes put into a line from an index on, the rest as it was: what is put behind other bytes is put as one with them. So a line is made
-- part by part, and the values one by one.
use Rattle.std.specs.Prelude.{◌≡◌, ℕ, ◌+◌}
use mathlib.Core.List.{List, ◌++◌}
use Rattle.std.proofs.Math.ListN.{length, take, drop}

unfoldable pub put : List ℕ → ℕ → List ℕ → List ℕ
put line at bytes = take at line ++ bytes ++ drop (at + length bytes) line

-- what a function that puts bytes at an index promises of the index after them and of the line
pub record Pushed (line : List ℕ) (at : ℕ) (bytes : List ℕ) (end : ℕ) (after : List ℕ) : Type 0 where
  pub ends : end ≡ at + length bytes
  pub holds : after ≡ put line at bytes
