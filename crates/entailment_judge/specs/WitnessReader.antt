-- What a reader gives and where it stands afterwards. Document 01: "a reader that holds the witness sheet and its next unread word", and "thin functions
-- read one word or say none is left".
use Rattle.std.specs.Prelude.{ℕ, zero, suc, ◌+◌, Bool, true, cond, ◌&&◌, List, leb, ltb, ℤ, pos, length, get_or, Option, Some, None}
use Rattle.std.specs.Borrow.{Bor}
use Rattle.words.specs.Limits.{most_multiplier}
use Rattle.words.specs.Words.{word, within}
use Rattle.reading.specs.Reading.{natural}
use Rattle.entailment_judge.specs.declared.reader.ReadNumber.{ReadNumber}
use Rattle.entailment_judge.specs.declared.reader.ReadWord.{ReadWord}
use Rattle.entailment_judge.specs.declared.reader.Reader.{Reader}

-- the word at a place, or that none is left
abbrev pub next_word : List ℤ → ℕ → Option ℤ
next_word words at = cond (ltb at (length words)) (Some (get_or words at (pos 0))) None

-- the place of the word after it; past the last word there is none to pass
abbrev pub place_after : List ℤ → ℕ → ℕ
place_after words at = cond (ltb at (length words)) (at + 1) at

abbrev pub read_at : List ℤ → ℕ → ReadWord
read_at words at = record { next = next_word words at; at = place_after words at }

-- the reader of these words whose next unread one stands at a place
abbrev pub reader_at : Bor (List ℤ) → ℕ → Reader
reader_at words at = record { words = words; at = at }

-- the reader once it has read a word: the same words, and the place after it
abbrev pub moved_on : Reader → Reader
moved_on r = reader_at r.words (place_after r.words.now r.at)

-- ---- multipliers, so many at a time

-- each of the n words from a place on is a multiplier
unfoldable pub all_multipliers : List ℤ → ℕ → ℕ → Bool
all_multipliers words at zero = true
all_multipliers words at (suc i) = all_multipliers words at i && within 0 most_multiplier (word words (at + i))

-- and all are there
unfoldable pub next_multipliers : List ℤ → ℕ → ℕ → Bool
next_multipliers words at n = leb (at + n) (length words) && all_multipliers words at n

-- the place of the word after them; where one is missing or beyond its range none is passed
abbrev pub place_past : List ℤ → ℕ → ℕ → ℕ
place_past words at n = cond (next_multipliers words at n) (at + n) at

-- it, where they are passed
abbrev pub multipliers_at : List ℤ → ℕ → ℕ → Option ℕ
multipliers_at words at n = cond (next_multipliers words at n) (Some (at + n)) None

-- the reader once it has read n multipliers: the same words, and the place after them
abbrev pub moved_past : ℕ → Reader → Reader
moved_past n r = reader_at r.words (place_past r.words.now r.at n)

-- ---- one word in its range

-- a number within low..high, with the place after its word
abbrev pub ranged : ℕ → ℕ → ℕ → Option ℕ → Option ReadNumber
ranged low high after (Some n) = cond (ltb n low) None (cond (ltb high n) None (Some (record { number = n; at = after })))
ranged low high after None = None

abbrev pub next_in : ℕ → ℕ → ℕ → Option ℤ → Option ReadNumber
next_in low high after (Some x) = ranged low high after (natural x)
next_in low high after None = None

-- the word at a place and the place after it, where it is there and in its range. Document 01, refusal 6: "witness word missing or beyond its
-- range"
unfoldable pub word_in : List ℤ → ℕ → ℕ → ℕ → Option ReadNumber
word_in words at low high = next_in low high (place_after words at) (next_word words at)
