-- The certificate in a file, converted to the other form or trimmed: from the bytes of two files to those of a new one. No file that is read has more
-- than 16,384 words, so that a longer result is refused, with 26 at 0, as one for which the buffer is too short.
use Rattle.std.specs.Prelude.{◌≡◌, List, ◌++◌, ℕ, ◌≤◌, ℤ, take, Result}
use Rattle.std.proofs.Math.ListN.{length, drop}
use Rattle.words.specs.Writing as writing
use Rattle.words.specs.Writing.{written, unwritten}
use Rattle.trimmed_words.specs.Trim.{trim}
use Rattle.conversions.specs.Conversions.{converted}
use Rattle.answers.specs.Answers.{told}
use Rattle.answers.specs.Written.{writing_for}
use Rattle.answers.specs.declared.Refusal.{Refusal}
use Rattle.plan_text.specs.ByteWords.{file_words, bytes_of}
use Rattle.plan_conversions.specs.declared.Conversion.{Conversion}
use Rattle.plan_conversions.specs.declared.Conversion.TheVariants.{From, Trimmed}

-- a certificate's words into a buffer of so many; the form is the one that is read
abbrev pub converted_by : Conversion → List ℤ → List ℤ → ℕ → writing.Writing
converted_by (From form) program certificate buffer = converted program certificate form buffer
converted_by Trimmed program certificate buffer = trim program certificate buffer

unfoldable pub plan_conversion : List ℕ → List ℕ → Conversion → writing.Writing
plan_conversion program certificate conversion = converted_by conversion (file_words program) (file_words certificate) 16384

-- the result's buffer afterwards: the file's bytes at its front, and the rest as it was; after a refusal all of it
unfoldable pub bytes_after : writing.Writing → List ℕ → List ℕ
bytes_after (written words) result = bytes_of words ++ drop (length (bytes_of words)) result
bytes_after (unwritten r) result = result

-- the bytes of the words that are written are those of a file that reads as these words
unfoldable pub ReadsBack : writing.Writing → Type 0
ReadsBack (written words) = file_words (bytes_of words) ≡ words
ReadsBack (unwritten r) = Unit

-- what `plan_conversion` promises of its answer r and of the result's buffer afterwards
pub record FileConverts (conversion : Conversion) (program certificate result : List ℕ) (r : Result ℕ Refusal) (after : List ℕ) : Type 0 where
  pub answer : told r ≡ writing_for (plan_conversion program certificate conversion)
  pub bytes : after ≡ bytes_after (plan_conversion program certificate conversion) result
  pub back : ReadsBack (plan_conversion program certificate conversion)

-- ---- the words that stand in the buffer

-- so many at its front are what is written
pub record Front (w : writing.Writing) (n : ℕ) (after : List ℤ) : Type 0 where
  pub placed : n ≤ length after
  pub is : w ≡ written (take n after)
