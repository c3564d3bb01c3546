-- A choice made definite, in the program's words, document 02, CR 13: "one `?` branch whose row shares no words gets a condition with <, >, ≤ or ≥ inside
-- the limits". Operator and expression take the place of those of the branch. The words keep their form, and the program that they are has the condition
-- there and differs in nothing else, since no other row has a word that changed.
use Rattle.std.specs.Prelude.{◌≡◌, List, ◌∷◌, ℕ, ◌+◌, ◌≤◌, ℤ, pos}
use Rattle.std.proofs.Common.{arith}
use Rattle.std.proofs.lemmas.List.Edits.{sets}
use Rattle.rows.specs.Rows.{Row}
use Rattle.words.specs.RowLimits.{RowWithin}
use Rattle.words.specs.RowCode.{row_code}
use Rattle.programs.specs.ProgramWords.{n, p, kind_word, k, fields, field}
use Rattle.programs.specs.ProgramForm.{ProgramForm}
use Rattle.programs.specs.UnsharedRows.{Unshared}
use Rattle.programs.specs.RowReads as reads

-- where operator and expression of a branch's row stand: after its line and its two successors
abbrev pub condition_place : List ℤ → ℕ → ℕ
condition_place words v = fields words v + 2

-- operator and expression as words
abbrev pub condition_words : ℕ → Row → List ℤ
condition_words op e = pos op ∷ row_code e

-- the program's words with the condition at vertex v
unfoldable pub definite_program : List ℤ → ℕ → ℕ → Row → List ℤ
definite_program words v op e = sets words (condition_place words v) (condition_words op e)

-- "one `?` branch"
pub record IsChoice (words : List ℤ) (v : ℕ) : Type 0 where
  pub low : 1 ≤ v
  pub high : v ≤ n words
  pub branches : kind_word words v ≡ pos 3
  pub undecided : field words v 2 ≡ pos 0

-- "one `?` branch whose row shares no words gets a condition .. inside the limits", with any operator but 0, which is `?`
pub record GetsCondition (words : List ℤ) (v op : ℕ) (e : Row) : Type 0 where
  pub is_choice : IsChoice words v
  pub unshared : Unshared words v
  pub least : 1 ≤ op
  pub most : op ≤ 6
  pub within : RowWithin (k words v) e

module _ (words : List ℤ) (v op : ℕ) (e : Row) (f : ProgramForm words) (g : GetsCondition words v op e) where
  abbrev pub words' : List ℤ
  words' = definite_program words v op e

  abbrev pub at : ℕ
  at = condition_place words v

  -- ---- the row of v

  abbrev pub vertex : v ≤ n words + p words
  vertex = omega (arith, g.is_choice.high)
