-- The two words of a constant. Those that spell it give it back; low words being 0..999,999, no others do; and each that document 01 had is within
-- the limit. Both words are division by a million, with a remainder that isn't negative.
use Rattle.std.specs.Prelude.{ℕ, ◌-◌, ◌/◌, ◌%◌, ℤ, pos, negsuc}
use Rattle.words.specs.Limits.{constant_unit, most_low}

unfoldable pub high_of : ℤ → ℤ
high_of (pos n) = pos (n / constant_unit)
high_of (negsuc n) = negsuc (n / constant_unit)

unfoldable pub low_of : ℤ → ℤ
low_of (pos n) = pos (n % constant_unit)
low_of (negsuc n) = pos (most_low - n % constant_unit)

-- document 01 had "constants −1,000,000..1,000,000": each is within the limit, keeps its meaning and has just one new spelling
abbrev pub constants_before : ℕ
constants_before = 1000000
