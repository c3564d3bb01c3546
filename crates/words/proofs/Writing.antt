-- What a writer of words answers, its last test, and the buffer that it was given, afterwards. The words stand at the buffer's front, so what is beyond
-- them is as it was, and where they fit the length stays.
use Rattle.std.specs.Prelude.{◌≡◌, refl, ◌↔◌, List, [], ◌∷◌, ℕ, ◌≤◌, T, ℤ, length, take, drop}
use Rattle.std.proofs.Math.Path.{sym, ap}
use Rattle.std.proofs.Common.{◌∙◌, arith, length-append, length-drop}
use Rattle.std.proofs.Math.Option.{Option, none, some}
use Rattle.std.proofs.Math.Seq.{take-append_seam, drop-append_seam}
use Rattle.basics.proofs.Booleans.{tests}
use Rattle.words.specs.Tests.{Refusal, first_failure}
use Rattle.words.proofs.FirstFailure.{test_fails}
use Rattle.words.specs.Writing.{Fits, Writing, buffer_after, buffer_test, fits_buffer, unwritten, word_count, writing_after, written}

pub front_after : (words buffer : List ℤ) → take (length words) (buffer_after (written words) buffer) ≡ words
unfolding buffer_after
front_after words buffer = take-append_seam words _

pub rest_after : (w : Writing) (buffer : List ℤ) → drop (word_count w) (buffer_after w buffer) ≡ drop (word_count w) buffer
unfolding word_count buffer_after
rest_after (written words) buffer = drop-append_seam words (drop (length words) buffer)
rest_after (unwritten r) buffer = refl

pub length_after : (w : Writing) (buffer : List ℤ) → word_count w ≤ length buffer → length (buffer_after w buffer) ≡ length buffer
unfolding word_count buffer_after
length_after (written words) buffer h = length-append words (drop (length words) buffer) ∙ omega (arith, h, length-drop (length words) buffer)
length_after (unwritten r) buffer h = refl

module _ (words : List ℤ) (buffer : ℕ) where
  pub buffer_fits : T (fits_buffer words buffer) ↔ (Fits words buffer)
  unfolding fits_buffer
  buffer_fits = (λ t. let x = simp tests at t in record { short = x.0; fits = x.1 }, λ f. simp tests (f.short, f.fits))

  pub buffer_fails : (r : Refusal) → (first_failure (buffer_test words buffer ∷ []) ≡ some r) ↔ ((r.number ≡ 26) × (r.place ≡ 0) × (r.line ≡ 0) × ¬ (Fits words buffer))
  buffer_fails r = test_fails 26 0 0 (fits_buffer words buffer) buffer_fits r

-- ---- which of the two it is

same_words : {k l : List ℤ} → written k ≡ written l → k ≡ l
same_words e = cc

same_refusal : {q r : Refusal} → unwritten q ≡ unwritten r → q ≡ r
same_refusal e = cc

not_both : {l : List ℤ} {r : Refusal} → written l ≡ unwritten r → ⊥
not_both e = let z : ◌≡◌ {A = ℕ} 0 1 = cc in omega arith

module _ (o : Option Refusal) (words : List ℤ) where
  pub written_after : (l : List ℤ) → (writing_after o words ≡ written l) ↔ ((o ≡ none) × (l ≡ words))
  unfolding writing_after
  written_after l = (there o, λ x. rw (x.0, x.1))
    where
      there : (o : Option Refusal) → writing_after o words ≡ written l → (o ≡ none) × (l ≡ words)
      there none e = (refl, sym (same_words e))
      there (some r) e = absurd (not_both (sym e))

  pub unwritten_after : (r : Refusal) → (writing_after o words ≡ unwritten r) ↔ (o ≡ some r)
  unfolding writing_after
  unwritten_after r = (there o, λ e. rw e)
    where
      there : (o : Option Refusal) → writing_after o words ≡ unwritten r → o ≡ some r
      there none e = absurd (not_both e)
      there (some q) e = ap some (same_refusal e)
