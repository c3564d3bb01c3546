-- The multiple of the target's constant less 1, and 1, is within 64 bits, since the divisor and the constant are within their limits, so the
-- sum is compared as it is.
use Rattle.std.proofs.Common.{◌∙◌, pos, ◌-ℤ◌, ◌*ℤ◌, to_z-of_z}
use lib.IntN.{+ℤ_comm}
use Rattle.rows.specs.Rows.{fits_constant}
use Rattle.numbers.specs.Magnitudes.{back64}
use Rattle.entailment_judge.proofs.constant_fits.Goals as goal

pub returns : goal.returns
unfolding fits_constant
returns c =
    let a = c.args in
    c.le64.ensures
    ∙ rw (
      to_z-of_z c.ranges.sum,
      back64 c.add_mul.type_inv,
      c.add_mul.ensures,
      back64 c.from_usize.type_inv,
      c.from_usize.ensures,
      back64 c.less_one.type_inv,
      c.less_one.ensures,
      to_z-of_z c.ranges.x,
      +ℤ_comm (pos 1) (pos a.divisor *ℤ (a.x -ℤ pos 1)),
    )
