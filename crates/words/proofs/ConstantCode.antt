-- The two words of a constant. Those that spell it give it back; low words being 0..999,999, no others do; and each that document 01 had is within
-- the limit. Both words are division by a million, with a remainder that isn't negative.
use Rattle.std.specs.Prelude.{◌≡◌, ◌-◌, ◌/◌, ◌%◌, T, ℤ, pos, negsuc, ◌*ℤ◌}
use Rattle.std.proofs.Common.{sym, arith}
use Rattle.basics.proofs.Booleans.{and}
use Rattle.basics.specs.Integers.{sum}
use Rattle.basics.proofs.Integers.{ints, times, negation}
use Rattle.words.specs.Limits.{constant_limit, constant_unit, most_low}
use Rattle.words.specs.Words.{within, small}
use Rattle.words.specs.RowWords.{constant_of, is_constant}
use Rattle.words.specs.Ranges.{Between, Small}
use Rattle.words.proofs.Ranges.{within_between, small_between}
use Rattle.words.specs.ConstantCode.{constants_before, high_of, low_of}

-- reading what was spelled gives the constant back
pub spelled_read : (c : ℤ) → constant_of (high_of c) (low_of c) ≡ c
unfolding constant_of high_of low_of
spelled_read (pos n) = omega (arith, ints, sum (pos constant_unit *ℤ pos (n / constant_unit)) (pos (n % constant_unit)), times constant_unit (pos (n / constant_unit)))
spelled_read (negsuc n) =
    omega (arith, ints, sum (pos constant_unit *ℤ negsuc (n / constant_unit)) (pos (most_low - n % constant_unit)), times constant_unit (negsuc (n / constant_unit)))

pub low_range : (c : ℤ) → Between (pos 0) (pos most_low) (low_of c)
unfolding low_of
low_range (pos n) = record { least = omega (arith, ints); most = omega (arith, ints) }
low_range (negsuc n) = record { least = omega (arith, ints); most = omega (arith, ints) }

-- each constant has just one spelling
module _ (high low high' low' : ℤ) (b : Between (pos 0) (pos most_low) low) (b' : Between (pos 0) (pos most_low) low') where
  pub one_spelling : constant_of high low ≡ constant_of high' low' → (high ≡ high') × (low ≡ low')
  unfolding constant_of
  one_spelling e =
      let x = sum (pos constant_unit *ℤ high) low in
      let y = sum (pos constant_unit *ℤ high') low' in
      let u = times constant_unit high in
      let v = times constant_unit high' in
      (omega (arith, ints, e, x, y, u, v, b.least, b.most, b'.least, b'.most), omega (arith, ints, e, x, y, u, v, b.least, b.most, b'.least, b'.most))

-- so words that spell a constant are its words
pub words_are : (high low : ℤ) → Between (pos 0) (pos most_low) low → (high ≡ high_of (constant_of high low)) × (low ≡ low_of (constant_of high low))
words_are high low b = let c = constant_of high low in one_spelling high low (high_of c) (low_of c) b (low_range c) (sym (spelled_read c))

-- a constant within its limit: its words pass the test
pub spelled_passes : (c : ℤ) → Small constant_limit c → T (is_constant (high_of c) (low_of c))
unfolding is_constant
spelled_passes c h = rw (spelled_read c) (and (within 0 most_low (low_of c)) (small constant_limit c) ((within_between 0 most_low (low_of c)).1 (low_range c)) ((small_between constant_limit c).1 h))

-- and are words of 32 bits: the low one is below a million, and the high one at most 4,000 in size
pub high_range : (c : ℤ) → Small constant_limit c → Small 4000 (high_of c)
unfolding high_of
high_range (pos n) h = record { least = omega (arith, ints, negation (pos 4000)); most = omega (arith, ints, h.most) }
high_range (negsuc n) h = record { least = omega (arith, ints, h.least, negation (pos 4000), negation (pos constant_limit)); most = omega (arith, ints) }

pub constant_kept : (c : ℤ) → Small constants_before c → T (is_constant (high_of c) (low_of c)) × (constant_of (high_of c) (low_of c) ≡ c)
constant_kept c h = (spelled_passes c (record { least = omega (arith, ints, h.least, negation (pos constants_before), negation (pos constant_limit)); most = omega (arith, ints, h.most) }), spelled_read c)
