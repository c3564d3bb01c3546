-- Every word that decoding reads is a word of the program: the sizes, the kind and the row place of each vertex, and each row whole,
-- its expressions included. The total is exact, so the two arrays are all there; a row's place and length stay within the pool's Q words.
use Rattle.std.specs.Prelude.{ℕ, ◌+◌, ◌≤◌, ◌<◌, List, ℤ, length}
use Rattle.programs.specs.ProgramWords.{n, p, kind_place, row, exit_words, statement_words}

pub record LookUps (words : List ℤ) : Type 0 where
  pub sizes : 4 ≤ length words
  pub kinds : (v : ℕ) → 1 ≤ v → v ≤ n words + p words → kind_place v < length words
  pub places : (v : ℕ) → 1 ≤ v → v ≤ n words + p words → 3 + (n words + p words) + v < length words
  pub exit_rows : (q : ℕ) → 1 ≤ q → q ≤ p words → row words (n words + q) + exit_words ≤ length words
  pub statement_rows : (v : ℕ) → 1 ≤ v → v ≤ n words → row words v + statement_words words v ≤ length words
