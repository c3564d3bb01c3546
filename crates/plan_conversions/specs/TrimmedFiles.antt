-- What a trimmed file promises, document 02, CR 11, for the bytes of files: "that result is accepted .. and trimming it again changes nothing". All that is
-- used of `plan_conversion` is its contract, by which the new file reads as the words that `trim` writes into a buffer of 16,384 words, so that these
-- are the theorems of trimmed_words for the files' words.
use Rattle.std.specs.Prelude.{◌≡◌, List, ◌++◌, ℕ, ◌≤◌, Result, Ok}
use Rattle.answers.specs.declared.Refusal.{Refusal}
use Rattle.plan_text.specs.Lines.{number, safe_word, line_end}
use Rattle.plan_files.specs.PlanLines.{plan_line}
use Rattle.plan_conversions.specs.declared.Conversion.TheVariants.{Trimmed}
use Rattle.plan_conversions.specs.PlanConversions.{FileConverts}
use Rattle.plan_conversions.specs.FilePromises.{file}

module _ {program certificate result after : List ℕ} {r : Result ℕ Refusal} (c : FileConverts Trimmed program certificate result r after) (n : ℕ) (e : r ≡ Ok n) where
  -- both lines are `safe` and a number, which isn't larger afterwards
  pub record BothSafe : Type 0 where
    pub before : ℕ
    pub left : ℕ
    pub old : plan_line program certificate ≡ safe_word ++ number before ++ line_end
    pub new : plan_line program (file c n e) ≡ safe_word ++ number left ++ line_end
    pub fewer : left ≤ before
