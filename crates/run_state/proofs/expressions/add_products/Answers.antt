-- `add_products` meets its contract: a value and a coefficient are small, so the total with one more product fits.
use Rattle.std.proofs.Common.{sym, ◌+◌, pos, get_or, arith, w64, SFits, to_z-of_z}
use Rattle.words.specs.Limits.{value_limit}
use Rattle.numbers.specs.Magnitudes.{back64, sfits_size}
use Rattle.numbers.specs.SmallLaws.{small_at}
use Rattle.run_state.specs.ValueLaws.{no_product, next_product, product_fits}
use Rattle.run_state.proofs.expressions.add_products.Goals as goal
use Rattle.run_state.proofs.expressions.add_products.Goals.{In-loop-i}

element : (c : In-loop-i) → SFits w64 (get_or c.args.values.now (c.args.from + c.loop-i.i) (pos 0))
element c = sfits_size _ (let s = small_at value_limit c.args.values.now c.requires.bounded.small (c.args.from + c.loop-i.i) in omega arith)

pub loop-i-init : goal.loop-i-init
loop-i-init c = rw (to_z-of_z c.ranges.sum) (sym (no_product c.args.program.now c.args.at c.args.values.now c.args.from c.args.count c.args.sum c.requires.coefficients c.requires.bounded))

pub add_mul-total-requires : goal.add_mul-total-requires
add_mul-total-requires c =
    rw (c.loop-i.invariant, to_z-of_z c.ranges.sum, back64 c.wide.type_inv, c.wide.ensures.is, to_z-of_z (element (goal.at.add_mul-total-requires c).In-loop-i))
    (product_fits c.args.program.now c.args.at c.args.values.now c.args.from c.args.count c.args.sum c.requires.coefficients c.requires.bounded c.loop-i.i (omega arith))

pub loop-i-preserved : goal.loop-i-preserved
loop-i-preserved c =
    rw (back64 c.add_mul-total.type_inv, c.add_mul-total.ensures, c.loop-i.invariant, to_z-of_z c.ranges.sum, back64 c.wide.type_inv, c.wide.ensures.is, to_z-of_z (element (goal.at.loop-i-preserved c).In-loop-i))
    (sym (next_product c.args.program.now c.args.at c.args.values.now c.args.from c.args.count c.args.sum c.requires.coefficients c.requires.bounded c.loop-i.i (omega arith)))
