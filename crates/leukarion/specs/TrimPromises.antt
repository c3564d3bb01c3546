-- What `trim` promises of its answer r and of the buffer afterwards, document 02, CR 11. All that is used of it is its contract, `Wrote` of
-- answers/specs/Written.antt, at what trimmed_words/Trim says that is written; and of `check`, whose answers it is compared with, its contract.
use Rattle.std.specs.Prelude.{◌≡◌, refl, ◌↔◌, List, ℕ, ◌≤◌, ℤ, pos, take, drop, Result, Ok, Err}
use Rattle.std.proofs.Math.Path.{sym, ap}
use Rattle.std.proofs.Common.{ap₂, ◌∙◌, inl}
use Rattle.std.proofs.Math.Logic.Iff.{trans as iff_trans}
use Rattle.std.proofs.Math.ListN.{length}
use Rattle.words.specs.Words.{word}
use Rattle.words.specs.Writing.{buffer_after, written, unwritten, Fits}
use Rattle.programs.specs.ProgramForm.{ProgramForm}
use Rattle.programs.specs.Decode as decode
use Rattle.certificates.specs.CertificateWords.{certificate_mark, sparse_mark}
use Rattle.certificates.specs.Entailments.{entailments}
use Rattle.traces.specs.TraceWords.{trace_mark}
use Rattle.trimmed_words.specs.Trim.{trimmed_words, certificate_left, trim}
use Rattle.trimmed_words.proofs.TrimRefusals as refusals
use Rattle.trimmed_words.proofs.TrimmedAccepted as accepted
use Rattle.trimmed_words.specs.TrimmedAccepted.{Trims}
use Rattle.answers.specs.Answers as answers
use Rattle.answers.specs.Answers.{refusal_of, same_told}
use Rattle.answers.specs.Written.{Wrote, as_written, as_refused}
use Rattle.answers.specs.declared.Answer.{Answer}
use Rattle.answers.specs.declared.Answer.TheVariants.{Safe, Refused}
use Rattle.answers.specs.declared.Refusal.{Refusal}
use Rattle.leukarion.specs.Promises.{Checked, answers_as}
use Rattle.leukarion.specs.ConversionPromises.{refuse}

-- ---- the contract

-- that of `trim` in trimmer/src/lib.rt
pub record TrimWrote (program certificate buffer : List ℤ) (r : Result ℕ Refusal) (after : List ℤ) : Type 0 where
  pub wrote : Wrote (trim program certificate (length buffer)) buffer r after

module _ {program certificate buffer after : List ℤ} {r : Result ℕ Refusal} (c : TrimWrote program certificate buffer r after) where
  -- ---- words are written

  words_for : (n : ℕ) → r ≡ Ok n → (words : List ℤ) × (trim program certificate (length buffer) ≡ written words) × (n ≡ length words)
  words_for n e = (as_written (trim program certificate (length buffer)) n).0 (sym c.wrote.answer ∙ ap answers.told e)

  -- "else the sheet stands at the room's front, its word count is answered and the rest stays"
  pub written_words : (n : ℕ) → r ≡ Ok n → (take n after ≡ trimmed_words program certificate) × (drop n after ≡ drop n buffer) × (length after ≡ length buffer)
  written_words n e =
      let w = words_for n e in
      let x = accepted.trim_buffer program certificate buffer w.0 w.1 in
      let is : w.0 ≡ trimmed_words program certificate = ((refusals.trim_written program certificate (length buffer) 0 w.0).0 w.1).1 in (
        ap₂ take w.2 c.wrote.result ∙ (x.0 ∙ is),
        ap₂ drop w.2 c.wrote.result ∙ (x.1 ∙ ap (λ (k : ℕ). drop k buffer) (sym w.2)),
        ap length c.wrote.result ∙ x.2,
      )

  written_at : (n : ℕ) → r ≡ Ok n → trim program certificate (length buffer) ≡ written (take n after)
  written_at n e = let w = words_for n e in w.1 ∙ ap written (((refusals.trim_written program certificate (length buffer) 0 w.0).0 w.1).1 ∙ sym (written_words n e).0)

  -- "that result is accepted, keeps exactly that least set, and trimming it again changes nothing": the fields of `Trims`
  pub written_trims : (n : ℕ) → r ≡ Ok n → Trims program certificate (take n after)
  written_trims n e = accepted.written_trims program certificate (take n after) (length buffer) (written_at n e)

  -- the check answers safe for it, with as many entailments as are left
  pub written_safe : (n : ℕ) → r ≡ Ok n → {values left : List ℤ} {told : Answer} → Checked program (take n after) values told left
      → told ≡ Safe (length (entailments (decode.program program) (certificate_left program certificate)))
  written_safe n e {values} d = (answers_as d (Safe _)).1 ((written_trims n e).accepted (length values))

  -- which are not more than before
  pub written_fewer : (n : ℕ) → r ≡ Ok n → {values left : List ℤ} {told : Answer} → Checked program certificate values told left → (count : ℕ) → told ≡ Safe count
      → length (entailments (decode.program program) (certificate_left program certificate)) ≤ count
  written_fewer n e {values} d count s = (written_trims n e).fewer (length values) count ((answers_as d (Safe count)).0 s)

  -- "trimming it again changes nothing": of a buffer that holds the words
  pub written_again : (n : ℕ) → r ≡ Ok n → {buffer' after' : List ℤ} {r' : Result ℕ Refusal} → n ≤ length buffer' → TrimWrote program (take n after) buffer' r' after'
      → (r' ≡ Ok n) × (take n after' ≡ take n after)
  unfolding buffer_after
  written_again n e {buffer'} {after'} {r'} h d = (again, written_as)
    where
      size : length (take n after) ≡ n
      size = let w = words_for n e in ap length ((written_words n e).0 ∙ sym ((refusals.trim_written program certificate (length buffer) 0 w.0).0 w.1).1) ∙ sym w.2

      same : trim program (take n after) (length buffer') ≡ written (take n after)
      same = (written_trims n e).again (length buffer') (rw size h)

      again : r' ≡ Ok n
      again = same_told r' (Ok n) (d.wrote.answer ∙ (as_written (trim program (take n after) (length buffer')) n).1 (take n after, same, sym size))

      written_as : take n after' ≡ take n after
      written_as = ap₂ take (sym size) d.wrote.result ∙ (accepted.trim_buffer program (take n after) buffer' (take n after) same).0

  -- ---- a refusal

  refused_as : (q : Refusal) → (r ≡ Err q) ↔ (trim program certificate (length buffer) ≡ unwritten (refusal_of q))
  refused_as q = let x = as_refused (trim program certificate (length buffer)) (refusal_of q) in (λ e. x.0 (sym c.wrote.answer ∙ ap answers.told e), λ e. same_told r (Err q) (c.wrote.answer ∙ x.1 e))

  -- "A refusal writes nothing"
  pub refused_buffer : (q : Refusal) → r ≡ Err q → after ≡ buffer
  refused_buffer q e = c.wrote.result ∙ accepted.trim_nothing program certificate buffer (refusal_of q) ((refused_as q).0 e)

  -- "any kind but 1 and 4 with refusal 4", where the program has its form
  pub other_kinds : ProgramForm program → ¬ (word certificate 0 ≡ pos certificate_mark) → ¬ (word certificate 0 ≡ pos sparse_mark) → r ≡ refuse 4 0
  other_kinds f one four = (refused_as _).1 (refusals.other_kinds program certificate (length buffer) f one four)

  -- against an answer of `check`, with any result buffer
  module _ {values left : List ℤ} {told : Answer} (d : Checked program certificate values told left) where
    -- written if and only if the check says safe and the result is within 1,000,000 words and fits the buffer
    pub written_answered : (n : ℕ) → (r ≡ Ok n) ↔ (((count : ℕ) × (told ≡ Safe count)) × Fits (trimmed_words program certificate) (length buffer) × (n ≡ length (trimmed_words program certificate)))
    written_answered n = (there, back)
      where
        there : r ≡ Ok n → ((count : ℕ) × (told ≡ Safe count)) × Fits (trimmed_words program certificate) (length buffer) × (n ≡ length (trimmed_words program certificate))
        there e =
            let w = words_for n e in
            let x = (refusals.trim_written program certificate (length buffer) (length values) w.0).0 w.1 in
            ((x.0.count, (answers_as d (Safe x.0.count)).1 x.0.accepted), x.0.enough, w.2 ∙ ap length x.1)

        back : ((count : ℕ) × (told ≡ Safe count)) × Fits (trimmed_words program certificate) (length buffer) × (n ≡ length (trimmed_words program certificate)) → r ≡ Ok n
        back ((count, s), f, m) =
            let e = (refusals.trim_written program certificate (length buffer) (length values) (trimmed_words program certificate)).1 (record { count = count; accepted = (answers_as d (Safe count)).0 s; enough = f }, refl) in
            same_told r (Ok n) (c.wrote.answer ∙ (as_written (trim program certificate (length buffer)) n).1 (trimmed_words program certificate, e, m))

    -- "It refuses what the judge refuses, by the same number and place": of all but a trace, which `check` replays
    pub refused_alike : ¬ (word certificate 0 ≡ pos trace_mark) → (q : Refusal) → told ≡ Refused q → r ≡ Err q
    refused_alike other q e =
        (refused_as q).1 ((refusals.trim_refused program certificate (length buffer) (length values) (refusal_of q)).1 (inl (sym (refusals.judged_checked program certificate (length values) other) ∙ (answers_as d (Refused q)).0 e)))

    -- "and too little room or a longer result with 26 at 0 after those"
    pub refused_twenty_six : (place : ℕ) → (r ≡ refuse 26 place) ↔ (((count : ℕ) × (told ≡ Safe count)) × (place ≡ 0) × ¬ Fits (trimmed_words program certificate) (length buffer))
    refused_twenty_six place = iff_trans (refused_as _) (iff_trans (refusals.trim_twenty_six program certificate (length buffer) (length values) _ refl) (
      λ x. ((x.0, (answers_as d (Safe x.0)).1 x.1), ap (λ y. y.place) x.2.0, x.2.1),
      λ x. (x.0.0, (answers_as d (Safe x.0.0)).0 x.0.1, (ap (λ (k : ℕ). refusal_of (record { number = 26; place = k; line = 0 })) x.1, x.2)),
    ))
