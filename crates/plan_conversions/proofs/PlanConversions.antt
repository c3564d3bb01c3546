-- The certificate in a file, converted to the other form or trimmed: from the bytes of two files to those of a new one. No file that is read has more
-- than 16,384 words, so that a longer result is refused, with 26 at 0, as one for which the buffer is too short.
use Rattle.std.specs.Prelude.{◌≡◌, refl, List, ◌++◌, ℕ, ◌*◌, ◌≤◌, ℤ, take, Result, Ok, Err}
use Rattle.std.proofs.Common.{sym, ◌∙◌, arith}
use Rattle.std.proofs.Math.Path.{ap, subst}
use Rattle.std.proofs.Math.ListN.{length, drop}
use Rattle.std.proofs.Math.Seq.{drop-append_seam}
use Rattle.words.specs.Tests as tests
use Rattle.words.specs.Writing as writing
use Rattle.words.specs.Writing.{written, unwritten, buffer_after}
use Rattle.answers.specs.Written.{writing_for, Wrote, as_written, as_refused}
use Rattle.answers.specs.Answers.{refusal_of, told}
use Rattle.answers.specs.declared.Refusal.{Refusal}
use Rattle.plan_text.specs.ByteWords.{words_of, file_words, bytes_of}
use Rattle.plan_text.proofs.WordByteLaws.{length_bytes, file_back}
use Rattle.plan_files.specs.PlanLines.{at_front, front_placed}
use Rattle.plan_conversions.specs.declared.Conversion.{Conversion}
use Rattle.plan_conversions.specs.PlanConversions.{FileConverts, Front, ReadsBack, bytes_after, plan_conversion}

module _ {w : writing.Writing} {buffer after : List ℤ} {r : Result ℕ Refusal} (c : Wrote w buffer r after) where
  pub front : (n : ℕ) → r ≡ Ok n → Front w n after
  unfolding buffer_after
  front n e =
      let x = (as_written w n).0 (sym c.answer ∙ ap told e) in
      let holds = c.result ∙ ap (λ (v : writing.Writing). buffer_after v buffer) x.1 in
      record { placed = front_placed x.0 _ x.2 holds; is = x.1 ∙ ap written (sym (at_front x.0 _ x.2 holds)) }

  pub nothing : (q : Refusal) → r ≡ Err q → w ≡ unwritten (refusal_of q)
  nothing q e = (as_refused w (refusal_of q)).0 (sym c.answer ∙ ap told e)

-- ---- the promise, from what was converted

module _ (conversion : Conversion) (program certificate result : List ℕ) {r : Result ℕ Refusal} (a : told r ≡ writing_for (plan_conversion program certificate conversion)) where
  pub told_written : (words : List ℤ) {n : ℕ} {after : List ℕ} → plan_conversion program certificate conversion ≡ written words → length words ≤ 16384
      → n ≡ length (bytes_of words) → after ≡ bytes_of words ++ drop n result → words_of (bytes_of words) ≡ words → FileConverts conversion program certificate result r after
  unfolding bytes_after ReadsBack
  told_written words e l q f b = record { answer = a; bytes = rw e (f ∙ ap (λ (k : ℕ). bytes_of words ++ drop k result) q); back = rw e (file_back words b l) }

  pub told_refused : {q : tests.Refusal} → plan_conversion program certificate conversion ≡ unwritten q → FileConverts conversion program certificate result r result
  unfolding bytes_after ReadsBack
  told_refused e = record { answer = a; bytes = rw e refl; back = rw e tt }

-- ---- what stands at the result's front

module _ {conversion : Conversion} {program certificate result after : List ℕ} {r : Result ℕ Refusal} (c : FileConverts conversion program certificate result r after) where
  -- a file of so many words, which reads as these
  pub new_file : (n : ℕ) → r ≡ Ok n → (words : List ℤ) × (plan_conversion program certificate conversion ≡ written words) × (file_words (take (n * 4) after) ≡ words)
      × (n * 4 ≤ length after) × (drop (n * 4) after ≡ drop (n * 4) result)
  unfolding bytes_after ReadsBack
  new_file n e =
      let x = (as_written (plan_conversion program certificate conversion) n).0 (sym c.answer ∙ ap told e) in
      let words = x.0 in
      let size : n * 4 ≡ length (bytes_of words) = omega (arith, x.2, length_bytes words) in
      let holds : after ≡ bytes_of words ++ drop (length (bytes_of words)) result = c.bytes ∙ ap (λ (v : writing.Writing). bytes_after v result) x.1 in
      let back : file_words (bytes_of words) ≡ words = subst ReadsBack x.1 c.back in (
        words,
        x.1,
        ap file_words (at_front (bytes_of words) _ size holds) ∙ back,
        front_placed (bytes_of words) _ size holds,
        ap (drop (n * 4)) holds ∙ (ap (λ (k : ℕ). drop k (bytes_of words ++ drop (length (bytes_of words)) result)) size
            ∙ (drop-append_seam (bytes_of words) (drop (length (bytes_of words)) result) ∙ ap (λ (k : ℕ). drop k result) (sym size))),
      )
