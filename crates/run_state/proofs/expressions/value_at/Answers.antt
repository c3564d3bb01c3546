-- `value_at` meets its contract: the constant, the globals' products and the locals'.
use Rattle.numbers.specs.Magnitudes.{back64}
use Rattle.run_state.specs.ExpressionLaws.{locals_coefficients, value_parts}
use Rattle.run_state.proofs.expressions.value_at.Goals as goal

pub add_products-requires-clause-coefficients : goal.add_products-requires-clause-coefficients
add_products-requires-clause-coefficients c =
    rw (back64 c.add_products-sum.type_inv, c.add_products-sum.ensures, back64 c.constant_at-constant.type_inv, c.constant_at-constant.ensures, c.coefficients_from-from.ensures)
    (locals_coefficients c.args.program.now c.args.at c.args.globals.now c.args.frames.now c.args.scope c.requires.expression c.requires.scoped)

pub returns : goal.returns
returns c =
    rw (
      back64 c.add_products.type_inv,
      c.add_products.ensures,
      back64 c.add_products-sum.type_inv,
      c.add_products-sum.ensures,
      back64 c.constant_at-constant.type_inv,
      c.constant_at-constant.ensures,
      c.coefficients_from-from.ensures,
    ) (value_parts c.args.program.now c.args.at c.args.globals.now c.args.frames.now c.args.scope c.requires.expression c.requires.scoped)
