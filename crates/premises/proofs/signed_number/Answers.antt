-- An entry is far from the ends of 64 bits, and so is its negative.
use Rattle.std.proofs.Common.{◌≡◌, refl, true, ◌≤◌, ℤ, pos, nat_abs, ◌-ℤ◌, arith, SFits, w64, to_z-of_z}
use Rattle.std.proofs.Math.IntN.{neg_ℤ, +ℤ_idl}
use Rattle.numbers.specs.Magnitudes.{sfits_size}
use Rattle.row_buffers.specs.EntryLimits.{entry_limit}
use Rattle.entailments.specs.GuardRows.{signed}
use Rattle.entailments.proofs.GuardRows.{size_signed}
use Rattle.premises.proofs.signed_number.Goals as goal

negated_is : (x : ℤ) → pos 0 -ℤ x ≡ signed true x
unfolding signed
negated_is x = +ℤ_idl (neg_ℤ x)

negated_fits : (x : ℤ) → nat_abs x ≤ entry_limit → SFits w64 (pos 0 -ℤ x)
negated_fits x h = sfits_size (pos 0 -ℤ x) (rw (negated_is, size_signed) (omega arith))

pub returns-then-negative-clause-is : goal.returns-then-negative-clause-is
returns-then-negative-clause-is c =
    let x = c.args.x in
    rw (to_z-of_z {z = x} c.ranges.x, to_z-of_z (negated_fits x c.requires), c.if-negative.true, negated_is x) refl

pub returns-clause-is : goal.returns-clause-is
unfolding signed
returns-clause-is c = rw (to_z-of_z c.ranges.x, c.if-negative.false) refl
