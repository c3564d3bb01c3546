-- What a writer of words answers, its last test, and the buffer that it was given, afterwards. The words stand at the buffer's front, so what is beyond
-- them is as it was, and where they fit the length stays.
use Rattle.std.specs.Prelude.{Bool, ◌&&◌, List, ◌++◌, ℕ, ◌≤◌, leb, ℤ, length, drop}
use Rattle.std.proofs.Math.Option.{Option, none, some}
use Rattle.words.specs.Limits.{most_words}
use Rattle.words.specs.Tests.{Refusal, Test, test}

-- document 02, CR 1: "A refusal writes nothing, here and in CR 9 and 11"; else there are words
pub data Writing : Type 0 where
  written : List ℤ → Writing
  unwritten : Refusal → Writing

-- the refusal of the first test that failed, else the words
unfoldable pub writing_after : Option Refusal → List ℤ → Writing
writing_after none words = written words
writing_after (some r) words = unwritten r

-- "its word count is answered"
unfoldable pub word_count : Writing → ℕ
word_count (written words) = length words
word_count (unwritten r) = 0

-- the buffer afterwards: "the sheet stands at the room's front, .. and the rest stays"
unfoldable pub buffer_after : Writing → List ℤ → List ℤ
buffer_after (written words) buffer = words ++ drop (length words) buffer
buffer_after (unwritten r) buffer = buffer

-- ---- 26, the last test of each writer

-- document 02, CR 9 and 11: "too little room or a result past 1,000,000 words", "a longer result"
unfoldable pub fits_buffer : List ℤ → ℕ → Bool
fits_buffer words buffer = leb (length words) most_words && leb (length words) buffer

-- "with 26 at 0"
abbrev pub buffer_test : List ℤ → ℕ → Test
buffer_test words buffer = test 26 0 (fits_buffer words buffer)

module _ (words : List ℤ) (buffer : ℕ) where
  -- the words are not too many, and a buffer of so many words holds them
  pub record Fits : Type 0 where
    pub short : length words ≤ most_words
    pub fits : length words ≤ buffer
