-- What a trimmed file promises, document 02, CR 11, for the bytes of files: "that result is accepted .. and trimming it again changes nothing". All that is
-- used of `plan_conversion` is its contract, by which the new file reads as the words that `trim` writes into a buffer of 16,384 words, so that these
-- are the theorems of trimmed_words for the files' words.
use Rattle.std.specs.Prelude.{◌≡◌, List, ◌++◌, ℕ, ◌*◌, take, Result, Ok}
use Rattle.std.proofs.Math.Path.{sym}
use Rattle.std.proofs.Common.{ap, ◌∙◌}
use Rattle.words.specs.Writing.{written}
use Rattle.checker.specs.Demand2.{Accepted}
use Rattle.checker.proofs.Demand2.{safe_answered}
use Rattle.trimmed_words.specs.Trim.{trimmed_words}
use Rattle.trimmed_words.specs.TrimRefusals.{Trimmable}
use Rattle.trimmed_words.proofs.TrimRefusals.{trim_written}
use Rattle.trimmed_words.specs.TrimmedAccepted.{Trims}
use Rattle.trimmed_words.proofs.TrimmedAccepted.{written_trims}
use Rattle.answers.specs.Answers.{same_told, told}
use Rattle.answers.specs.Written.{writing_for}
use Rattle.answers.specs.declared.Refusal.{Refusal}
use Rattle.plan_text.specs.ByteWords.{file_words}
use Rattle.plan_text.specs.Lines.{number, safe_word, line_end}
use Rattle.plan_files.specs.PlanLines.{plan_line}
use Rattle.plan_files.specs.LinePromises.{safe_line}
use Rattle.plan_conversions.specs.declared.Conversion.TheVariants.{Trimmed}
use Rattle.plan_conversions.specs.PlanConversions.{plan_conversion, FileConverts}
use Rattle.plan_conversions.specs.FilePromises.{file}
use Rattle.plan_conversions.proofs.FilePromises.{file_written}
use Rattle.plan_conversions.specs.TrimmedFiles.{BothSafe}

-- the line of files whose certificate is accepted
accepted_line : (program witness : List ℕ) (count : ℕ) → Accepted (file_words program) (file_words witness) 16 count → plan_line program witness ≡ safe_word ++ number count ++ line_end
accepted_line program witness count a = (safe_line program witness count).1 ((safe_answered (file_words program) (file_words witness) 16 count).0 a)

module _ {program certificate result after : List ℕ} {r : Result ℕ Refusal} (c : FileConverts Trimmed program certificate result r after) (n : ℕ) (e : r ≡ Ok n) where
  -- the certificate was accepted, and the words fit; these are the words
  trimmable : Trimmable (file_words program) (file_words certificate) 16384 16 × (file_words (file c n e) ≡ trimmed_words (file_words program) (file_words certificate))
  trimmable = (trim_written (file_words program) (file_words certificate) 16384 16 (file_words (file c n e))).0 (file_written c n e)

  pub file_words_lem : file_words (file c n e) ≡ trimmed_words (file_words program) (file_words certificate)
  file_words_lem = trimmable.1

  -- all that is promised of them
  pub file_trims : Trims (file_words program) (file_words certificate) (file_words (file c n e))
  file_trims = written_trims (file_words program) (file_words certificate) (file_words (file c n e)) 16384 (file_written c n e)

  pub both_safe_lem : (BothSafe c n e)
  both_safe_lem =
      let t = trimmable.0 in
      let accepted = file_trims.accepted 16 in
      record {
        before = t.count;
        left = _;
        old = accepted_line program certificate t.count t.accepted;
        new = accepted_line program (file c n e) _ accepted;
        fewer = file_trims.fewer 16 t.count t.accepted;
      }

  -- trimmed again, the new file's own words are written
  same_again : plan_conversion program (file c n e) Trimmed ≡ written (file_words (file c n e))
  unfolding plan_conversion
  same_again = file_trims.again 16384 (rw file_words_lem trimmable.0.enough.fits)

  first_written : plan_conversion program certificate Trimmed ≡ written (file_words (file c n e))
  unfolding plan_conversion
  first_written = file_written c n e

module _ {program certificate result after result' after' : List ℕ} {r r' : Result ℕ Refusal} (n : ℕ) (c : FileConverts Trimmed program certificate result r after) (e : r ≡ Ok n)
    (d : FileConverts Trimmed program (take (n * 4) after) result' r' after') where
  -- "trimming it again changes nothing": as many words are written, the same ones
  pub again_written : r' ≡ Ok n
  again_written = same_told r' (Ok n) (d.answer ∙ (ap writing_for (same_again c n e) ∙ (sym (ap writing_for (first_written c n e)) ∙ (sym c.answer ∙ ap told e))))

  pub again_words : file_words (take (n * 4) after') ≡ file_words (take (n * 4) after)
  unfolding plan_conversion
  again_words =
      file_words_lem d n again_written
      ∙ sym ((trim_written (file_words program) (file_words (take (n * 4) after)) 16384 16 (file_words (take (n * 4) after))).0 (same_again c n e)).1
