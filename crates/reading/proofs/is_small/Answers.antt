-- `is_small` meets its contract: no word is past a limit of more than its bits, and below that a limit is a word too, and so is its negative.
use Rattle.std.proofs.Common.{◌≡◌, sym, arith, pos, ◌-ℤ◌, w32, SFits, to_z, to_z-of_z}
use mir.Facts.{to_z_pos}
use Rattle.reading.proofs.SmallWords.{small_any, small_bounds, low_fits}
use Rattle.reading.proofs.is_small.Goals as goal

pub returns-then-limit-gt-LARGEST_WORD : goal.returns-then-limit-gt-LARGEST_WORD
returns-then-limit-gt-LARGEST_WORD c = sym (small_any c.args.limit c.args.x c.ranges.x (omega arith))

pub returns : goal.returns
returns c =
    let limit32 : to_z w32 c.args.limit ≡ pos c.args.limit = to_z_pos w32 (omega arith) in
    let low : SFits w32 (pos 0 -ℤ pos c.args.limit) = low_fits c.args.limit (omega arith) in
    rw (limit32, to_z-of_z low, to_z-of_z c.ranges.x) (small_bounds c.args.limit c.args.x)
