-- `constant_of` meets its contract: a word is at most 2^31 in size, so neither the product nor the sum leaves 64 bits.
use Rattle.std.proofs.Common.{ℤ, pos, ◌+ℤ◌, ◌*ℤ◌, arith, refl, w32, w64, SFits, to_z-of_z}
use mir.Facts.{sfits_widen}
use lib.Signed.{nat_abs-le}
use Rattle.words.specs.RowWords.{constant_of}
use Rattle.numbers.specs.Magnitudes.{sfits_size, size_sum, size_product}
use Rattle.numbers.proofs.constant_of.Goals as goal

wide : {z : ℤ} → SFits w32 z → SFits w64 z
wide f = sfits_widen tt f

product_fits : (z : ℤ) → SFits w32 z → SFits w64 (pos 1000000 *ℤ z)
product_fits z h = sfits_size (pos 1000000 *ℤ z) (rw size_product (omega (arith, nat_abs-le z h.sfits)))

sum_fits : (high low : ℤ) → SFits w32 high → SFits w32 low → SFits w64 (pos 1000000 *ℤ high +ℤ low)
sum_fits high low h l =
    sfits_size (pos 1000000 *ℤ high +ℤ low)
    (omega (arith, size_sum (pos 1000000 *ℤ high) low, size_product (pos 1000000) high, nat_abs-le high h.sfits, nat_abs-le low l.sfits))

pub returns : goal.returns
unfolding constant_of
returns c =
    let h = c.ranges.high in
    let l = c.ranges.low in
    rw (to_z-of_z h, to_z-of_z (wide h), to_z-of_z (product_fits c.args.high h), to_z-of_z l, to_z-of_z (wide l), to_z-of_z (sum_fits c.args.high c.args.low h l)) refl
