-- What of a program is read from which words: sizes, kinds and places from the front, a procedure from its exit row, a statement from its own row.
-- So where two lists of words are the same but in one statement's row, they have the same procedures and the same other statements, and the form
-- of all but that one is the same.
use Rattle.std.specs.Prelude.{◌≡◌, List, ℤ, pos, length}
use Prim.Native.Nat.{ℕ, ◌+◌, ◌*◌, ◌-◌, ◌≤◌, ◌<◌}
use Rattle.words.specs.Words.{word}
use Rattle.words.specs.RowWords.{row_size}
use Rattle.words.specs.Ranges.{Between}
use Rattle.words.specs.SameWords.{Same}
use Rattle.programs.specs.ProgramWords.{n, p, kind_word, row, exit_words, parameters, k, field, procedure_field, statement_words}
use Rattle.programs.specs.ProgramForm.{ProgramForm}

-- ---- the same words but in the row of v

pub record SameBut (words' words : List ℤ) (v : ℕ) : Type 0 where
  pub long : length words' ≡ length words
  pub front : (i : ℕ) → i < 4 + (n words + p words) + (n words + p words) → word words' i ≡ word words i
  pub exits : (q : ℕ) → 1 ≤ q → q ≤ p words → Same words' words (row words (n words + q)) exit_words
  pub statements : (u : ℕ) → 1 ≤ u → u ≤ n words → ¬ (u ≡ v) → Same words' words (row words u) (statement_words words u)

module _ {words' words : List ℤ} {v : ℕ} (s : SameBut words' words v) where
  module _ (f : ProgramForm words) where
    -- ---- a statement's row, all of whose words are the same

    module _ (u : ℕ) (l : 1 ≤ u) (h : u ≤ n words) (other : ¬ (u ≡ v)) where
      module _ (e : kind_word words u ≡ pos 5) (q : Between (pos 1) (pos (p words)) (field words u 1)) where
        abbrev pub actuals_size : ℕ
        actuals_size = parameters words (procedure_field words u 1) * row_size (k words u)
