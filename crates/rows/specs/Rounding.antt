-- ROUNDING TO WHOLE NUMBERS: which constants fit a row. From k + d × x ≤ 0 it follows for every whole number x that c + x ≤ 0 just where k is
-- at least d × (c − 1) + 1: with that constant x can't be 1 − c or more, and with a smaller one x = 1 − c meets the first and not the second.
use Rattle.std.specs.Prelude.{Bool, ℕ, ℤ, ◌-ℤ◌, ◌*ℤ◌}
use Rattle.std.proofs.Math.IntN.{pos}
use Rattle.std.specs.Int.Signed.{le_z}
use Rattle.basics.specs.Integers.{sum}

module _ (d : ℕ) (c k : ℤ) where
  -- d times the row's constant less 1
  abbrev pub least : ℤ
  least = pos d *ℤ (c -ℤ pos 1)

-- ---- the rule without rounding, document 01's: "its constant is not below divisor times the row's"

unfoldable pub not_below : ℕ → ℤ → ℤ → Bool
not_below divisor target sum = le_z (pos divisor *ℤ target) sum
