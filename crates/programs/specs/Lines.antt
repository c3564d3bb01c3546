-- Lines, from the words: that of a statement's row for refusal 3, and that of a vertex that a run leaves for 10 to 12. A word is the number that
-- it is read as where it is in range, and the form of a program has every statement's line in range.
use Rattle.std.specs.Prelude.{◌≡◌, List, ℕ, ◌≤◌, ◌<◌, ℤ, pos}
use Rattle.words.specs.Limits.{most_line}
use Rattle.words.specs.Words.{word}
use Rattle.words.specs.Ranges.{Between}
use Rattle.programs.specs.ProgramWords.{n, row, line_words, line}
use Rattle.programs.specs.ProgramForm.{RowInPool}

module _ (words : List ℤ) (v : ℕ) where
  -- the row's first word, as a line
  abbrev pub LineInRange : Type 0
  LineInRange = Between (pos 0) (pos most_line) (word words (row words v))

  -- "its row's first word, whatever the kind, if there and in range; .. else 0"
  pub record RowLine (line : ℕ) : Type 0 where
    pub stands : RowInPool words v line_words → LineInRange → word words (row words v) ≡ pos line
    pub absent : ¬ RowInPool words v line_words → line ≡ 0
    pub beyond : ¬ LineInRange → line ≡ 0

  -- "that of the vertex .., if a statement; else 0"
  pub record VertexLine (line : ℕ) : Type 0 where
    pub statement : 1 ≤ v → v ≤ n words → word words (row words v) ≡ pos line
    pub other : (1 ≤ v → n words < v) → line ≡ 0
