-- Lines, from the words: that of a statement's row for refusal 3, and that of a vertex that a run leaves for 10 to 12. A word is the number that
-- it is read as where it is in range, and the form of a program has every statement's line in range.
use Rattle.std.specs.Prelude.{◌≡◌, Bool, cond, List, ℕ, ℤ, pos}
use Rattle.std.proofs.Math.Path.{refl}
use Rattle.std.proofs.Common.{sym, ap, ◌∙◌, arith}
use Rattle.std.proofs.Math.Bool.{true, false}
use Rattle.basics.proofs.Booleans.{holds}
use Rattle.words.specs.Limits.{most_line}
use Rattle.words.specs.Words.{word}
use Rattle.words.proofs.Ranges.{number_between, number_none}
use Rattle.programs.specs.Program.{line_at}
use Rattle.programs.specs.ProgramWords.{row, line_words, line}
use Rattle.programs.specs.ProgramTests.{row_fits, row_line}
use Rattle.programs.specs.ProgramForm.{ProgramForm}
use Rattle.programs.proofs.ProgramForm.{row_in_pool}
use Rattle.programs.specs.Decode.{program}
use Rattle.programs.proofs.Formed.{line_is, no_line}
use Rattle.programs.specs.Lines.{LineInRange, RowLine, VertexLine}

module _ (words : List ℤ) (v : ℕ) where
  line_range_lem : (LineInRange words v) → word words (row words v) ≡ pos (line words v)
  unfolding line
  line_range_lem b = number_between 0 most_line most_line (word words (row words v)) (omega arith) b

  line_beyond : ¬ (LineInRange words v) → line words v ≡ 0
  unfolding line
  line_beyond h = number_none most_line (word words (row words v)) h

  pub row_line_lem : (RowLine words v) (row_line words v)
  unfolding row_line
  row_line_lem = go (row_fits words v line_words) refl
    where
      go : (b : Bool) → row_fits words v line_words ≡ b → (RowLine words v) (cond b (line words v) 0)
      go true q = record { stands = λ r b. line_range_lem b; absent = λ h. absurd (h ((row_in_pool words v line_words).0 (holds q))); beyond = line_beyond }
      go false q = record { stands = λ r b. absurd (rw q at ((row_in_pool words v line_words).1 r)); absent = λ h. refl; beyond = λ h. refl }

  pub vertex_line : ProgramForm words → (VertexLine words v) (line_at (program words) v)
  vertex_line f = record { statement = λ l h. line_range_lem (f.statements v l h).line_range ∙ ap pos (sym (line_is words v l h)); other = no_line words v }
