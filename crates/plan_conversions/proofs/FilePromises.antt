-- What a new file promises: of any conversion, that it reads as the words that are written; and of a certificate in its other form what document 02,
-- CR 9, does, for the bytes of files. All that is used of `plan_conversion` is its contract, `FileConverts`. The answer is then one of a converter with
-- a buffer of 16,384 words, so that all promises of leukarion/ConversionPromises are promises of it, those of refusals too.
use Rattle.std.specs.Prelude.{◌≡◌, List, ◌++◌, ℕ, ◌*◌, ℤ, pos, take, drop, Result, Ok, Err}
use Rattle.std.proofs.Math.Path.{refl, ap}
use Rattle.std.proofs.Common.{sym, subst, ◌∙◌, arith}
use Rattle.std.proofs.lemmas.List.{length-replicate}
use Rattle.words.specs.Answer.{Answer, safe}
use Rattle.words.specs.Writing.{written, buffer_after}
use Rattle.words.specs.declared.StoredForm.{StoredForm}
use Rattle.words.specs.declared.StoredForm.TheVariants.{Dense, Sparse}
use Rattle.certificates.specs.CertificateForm.{FormIn}
use Rattle.traces.specs.Replay.{final_values}
use Rattle.checker.specs.Check.{check}
use Rattle.checker.specs.Demand2.{witness_start}
use Rattle.conversions.specs.Conversions.{other_form, other_words, converted, to_sparse, to_dense}
use Rattle.conversions.proofs.RoundTrips as trips
use Rattle.conversions.specs.RoundTrips.{SameIn, LaidOutAs}
use Rattle.conversions.proofs.RoundTrips.{written_iff}
use Rattle.conversions.specs.JudgedAlike.{AlikeButPlaces, both_safe, both_refused}
use Rattle.conversions.proofs.JudgedAlike.{converted_alike}
use Rattle.answers.specs.Answers.{refusal_of, told}
use Rattle.answers.specs.Written.{as_refused}
use Rattle.answers.specs.declared.Refusal.{Refusal}
use Rattle.leukarion.specs.ConversionPromises as promises
use Rattle.leukarion.specs.ConversionPromises.{Converts}
use Rattle.plan_text.specs.ByteWords.{file_words}
use Rattle.plan_text.specs.Lines.{safe_word, line_of}
use Rattle.plan_text.proofs.LineLaws.{begins_safe}
use Rattle.plan_files.specs.PlanLines.{check_line, plan_line}
use Rattle.plan_conversions.specs.declared.Conversion.{Conversion}
use Rattle.plan_conversions.specs.declared.Conversion.TheVariants.{From}
use Rattle.plan_conversions.specs.PlanConversions.{converted_by, plan_conversion, bytes_after, FileConverts}
use Rattle.plan_conversions.proofs.PlanConversions.{new_file}
use Rattle.plan_conversions.specs.FilePromises.{file, zeros}

-- both are safe, or neither is
alike_safe : {start other : ℕ} {a b : Answer} → AlikeButPlaces start other a b → {count : ℕ} → a ≡ safe count → b ≡ safe count
alike_safe (both_safe n) e = e
alike_safe (both_refused number further low high) e = absurd (let z : ◌≡◌ {A = ℕ} 0 1 = cc in omega arith)

safe_alike : {start other : ℕ} {a b : Answer} → AlikeButPlaces start other a b → {count : ℕ} → b ≡ safe count → a ≡ safe count
safe_alike (both_safe n) e = e
safe_alike (both_refused number further low high) e = absurd (let z : ◌≡◌ {A = ℕ} 0 1 = cc in omega arith)

-- the line of a safe answer has no values
same_line : (a b : Answer) (values others : List ℤ) {count : ℕ} → a ≡ safe count → b ≡ safe count → line_of a values ≡ line_of b others
unfolding line_of
same_line a b values others e f = rw (e, f) refl

-- ---- of any conversion

module _ {conversion : Conversion} {program certificate result after : List ℕ} {r : Result ℕ Refusal} (c : FileConverts conversion program certificate result r after) where
  -- "A refusal writes nothing"
  pub refused_bytes : (q : Refusal) → r ≡ Err q → after ≡ result
  unfolding bytes_after
  refused_bytes q e = rw ((as_refused (plan_conversion program certificate conversion) (refusal_of q)).0 (sym c.answer ∙ ap told e)) at c.bytes

  module _ (n : ℕ) (e : r ≡ Ok n) where
    -- they spell the words that are written; "and the rest stays"
    pub file_written : converted_by conversion (file_words program) (file_words certificate) 16384 ≡ written (file_words (file c n e))
    unfolding plan_conversion
    file_written = let x = new_file c n e in x.1 ∙ ap written (sym x.2)

    pub file_rest : drop (n * 4) after ≡ drop (n * 4) result
    file_rest = (new_file c n e).4

-- ---- of a certificate in its other form

module _ {form : StoredForm} {program certificate result after : List ℕ} {r : Result ℕ Refusal} (c : FileConverts (From form) program certificate result r after) where
  -- the same answer as for the files' words
  pub words_converted : Converts form (file_words program) (file_words certificate) zeros r (buffer_after (plan_conversion program certificate (From form)) zeros)
  unfolding plan_conversion
  words_converted =
      let e = ap (converted (file_words program) (file_words certificate) form) (length-replicate 16384 (pos 0)) in
      rw e (record { wrote = record { answer = c.answer; result = refl } })

  module _ (n : ℕ) (e : r ≡ Ok n) where
    -- the new file's bytes spell the certificate's words in the other form
    pub file_words_lem : file_words (file c n e) ≡ other_words (file_words program) (file_words certificate) form
    file_words_lem = ((written_iff (file_words program) (file_words certificate) form 16384 (file_words (file c n e))).0 (file_written c n e)).1

    -- it has the other form, with equal disjuncts and witness words
    pub file_form : FormIn (file_words program) (file_words (file c n e)) (other_form form) × SameIn (file_words program) (file_words certificate) (file_words (file c n e)) form (other_form form)
    file_form =
        let same = (promises.written_words words_converted n e).0 ∙ sym file_words_lem in
        subst (λ (l : List ℤ). FormIn (file_words program) l (other_form form) × SameIn (file_words program) (file_words certificate) l form (other_form form)) same
        (promises.written_form words_converted n e)

    alike : AlikeButPlaces (witness_start (file_words program) (file_words certificate)) (witness_start (file_words program) (file_words (file c n e))) (check (file_words program) (file_words certificate) 16) (check (file_words program) (file_words (file c n e)) 16)
    alike = converted_alike (file_words program) (file_words certificate) (file_words (file c n e)) form 16384 16 16 (file_written c n e)

    -- "Both forms are judged alike": the line of one begins with `safe` if and only if that of the other does, and then it is the same line
    pub safe_still : {rest : List ℕ} → plan_line program certificate ≡ safe_word ++ rest → plan_line program (file c n e) ≡ plan_line program certificate
    unfolding plan_line check_line
    safe_still h =
        let one = (begins_safe (check (file_words program) (file_words certificate) 16) (final_values (file_words program) (file_words certificate)) h).1 in
        same_line _ _ _ _ (alike_safe alike one) one

    pub safe_before : {rest : List ℕ} → plan_line program (file c n e) ≡ safe_word ++ rest → plan_line program certificate ≡ plan_line program (file c n e)
    unfolding plan_line check_line
    safe_before h =
        let two = (begins_safe (check (file_words program) (file_words (file c n e)) 16) (final_values (file_words program) (file_words (file c n e))) h).1 in
        same_line _ _ _ _ (safe_alike alike two) two

-- ---- there and back, "Where neither way is refused"

module _ {program first result result' after after' : List ℕ} {n m : ℕ} where
  pub dense_round : FileConverts (From Dense) program first result (Ok n) after → FileConverts (From Sparse) program (take (n * 4) after) result' (Ok m) after'
      → LaidOutAs (file_words program) (file_words first) (file_words (take (m * 4) after'))
  unfolding to_sparse to_dense
  dense_round c d = trips.dense_round (file_words program) (file_words first) _ _ 16384 16384 (file_written c n refl) (file_written d m refl)

  pub sparse_round : FileConverts (From Sparse) program first result (Ok n) after → FileConverts (From Dense) program (take (n * 4) after) result' (Ok m) after'
      → file_words (take (m * 4) after') ≡ file_words first
  unfolding to_sparse to_dense
  sparse_round c d = trips.sparse_round (file_words program) (file_words first) _ _ 16384 16384 (file_written c n refl) (file_written d m refl)
