-- The table of procedures: what it holds, and how the procedure is carried from one vertex to the next.
use Rattle.std.specs.Prelude.{◌≡◌, List, ℕ, ◌+◌, ◌≤◌, ◌<◌, T, ℤ, length, get_or}
use Rattle.words.specs.Limits.{most_statements}
use Rattle.programs.specs.ProgramWords.{n, p, first, procedure_of}
use Rattle.programs.specs.ProgramTests.{exit_passes}
use Rattle.program_readers.specs.Sizes.{Header}
use Rattle.program_readers.specs.declared.places.Sizes.{Sizes}

-- test 2 passes for every exit
unfoldable pub ExitsPass : List ℤ → Type 0
ExitsPass words = (q : ℕ) → 1 ≤ q → q ≤ p words → T (exit_passes words q)

-- q is the last procedure that begins at the vertex or before it; 0 if none does
pub record Reached (words : List ℤ) (v q : ℕ) : Type 0 where
  pub known : q ≤ p words
  pub begins : 1 ≤ q → first words q ≤ v
  pub next : q < p words → v < first words (q + 1)

-- entry v of the table is the procedure of the vertex v, for v from 1 to n
unfoldable pub Owners : List ℤ → List ℕ → Type 0
Owners words table = (most_statements < length table) × ((v : ℕ) → 1 ≤ v → v ≤ n words → get_or table v 0 ≡ procedure_of words v)

-- v is a statement of the program that the sizes and the table belong to
pub record IsStatement (words : List ℤ) (sizes : Sizes) (table : List ℕ) (v : ℕ) : Type 0 where
  pub header : Header words sizes
  pub owners : Owners words table
  pub low : 1 ≤ v
  pub high : v ≤ sizes.statements
