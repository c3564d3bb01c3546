-- What trimming refuses, if and only if, number, place and line: what the judge refuses, and then, of an accepted certificate, a result that is too long or
-- that the buffer doesn't hold, with 26 at 0; else the words are written. For a certificate the judge's answer is the check's, and every other kind
-- it refuses with 4.
use Rattle.std.proofs.Math.Path.{◌≡◌}
use Rattle.std.specs.Prelude.{List, ℕ, ℤ}
use Rattle.words.specs.Tests.{Refusal, refusal_at}
use Rattle.words.specs.Writing.{Fits}
use Rattle.checker.specs.Demand2.{Accepted}
use Rattle.trimmed_words.specs.Trim.{trimmed_words}

-- ---- by the judge's answer

module _ (words : List ℤ) (buffer : ℕ) where
  -- 26 at 0, and the words are too many or the buffer is too short
  abbrev pub Unfit : Refusal → Type 0
  Unfit r = (r ≡ refusal_at 26 0) × ¬ Fits words buffer

-- ---- by the words; `values` is the length of the check's result buffer

module _ (program witness : List ℤ) (buffer values : ℕ) where
  abbrev pub words : List ℤ
  words = trimmed_words program witness

  -- accepted, and the result fits
  pub record Trimmable : Type 0 where
    pub count : ℕ
    pub accepted : Accepted program witness values count
    pub enough : Fits (trimmed_words program witness) buffer
