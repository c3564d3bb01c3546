-- Rows within their limits, whatever words they stand in.
use Rattle.std.specs.Prelude.{ℕ, pos}
use Rattle.std.proofs.Common.{arith}
use Rattle.basics.proofs.Integers.{ints, negation}
use Rattle.words.specs.Ranges.{Small}

pub zero_small : (limit : ℕ) → Small limit (pos 0)
zero_small limit = record { least = omega (arith, ints, negation (pos limit)); most = omega (arith, ints) }
