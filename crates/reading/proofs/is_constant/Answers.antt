-- `is_constant` meets its contract: the low word's two bounds and the constant's are the two tests of `is_constant`.
use Rattle.std.proofs.Common.{Bool, ap₂, to_z-of_z}
use mathlib.Core.Bool.{◌&&◌}
use Rattle.words.specs.Limits.{constant_limit, most_low}
use Rattle.words.specs.RowWords.{constant_of, is_constant}
use Rattle.words.proofs.Ranges.{within_bounds}
use Rattle.numbers.specs.Magnitudes.{back64}
use Rattle.reading.proofs.SmallWords.{small_bounds}
use Rattle.reading.proofs.is_constant.Goals as goal

pub returns : goal.returns
unfolding is_constant
returns c =
    let a = c.args in
    let k = c.constant_of-constant in
    let e = rw (to_z-of_z c.ranges.high, to_z-of_z c.ranges.low) at k.ensures in
    rw (to_z-of_z c.ranges.low, back64 {z = k.result} k.type_inv, e)
    (ap₂ (λ (x y : Bool). x && y) (within_bounds most_low a.low) (small_bounds constant_limit (constant_of a.high a.low)))
