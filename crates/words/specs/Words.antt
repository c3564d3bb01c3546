-- Words, as they are looked up and tested. A word is read in two ways, apart: as a test, and as a number that is capped, so that sums of
-- numbers stay small with no fact from an earlier test. Every look-up is total.
use Rattle.std.specs.Prelude.{ℕ, zero, suc, ◌+◌, Bool, true, false, cond, ◌&&◌, List, leb, ltb, ℤ, pos, negsuc, nat_abs, get_or}

-- the word at a place, counted from 0; past the end it is 0
abbrev pub word : List ℤ → ℕ → ℤ
word words i = get_or words i (pos 0)

-- ---- tests

-- the word is one of low..high
unfoldable pub within : ℕ → ℕ → ℤ → Bool
within low high (pos m) = leb low m && leb m high
within low high (negsuc m) = false

-- the word is one of 0..high-1
unfoldable pub below : ℕ → ℤ → Bool
below high (pos m) = ltb m high
below high (negsuc m) = false

-- the word is one of -limit..limit
unfoldable pub small : ℕ → ℤ → Bool
small limit z = leb (nat_abs z) limit

-- so many words from a place on are all small
unfoldable pub all_small : List ℤ → ℕ → ℕ → ℕ → Bool
all_small words limit at zero = true
all_small words limit at (suc i) = all_small words limit at i && small limit (word words (at + i))

-- ---- numbers

-- the number that a word is, where it is one of 0..most; else 0
unfoldable pub number : ℕ → ℤ → ℕ
number most (pos m) = cond (leb m most) m 0
number most (negsuc m) = 0
