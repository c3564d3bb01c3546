-- `add_products` meets its contract. The loop's invariant: the total is the sum with the products of the columns passed.
use Rattle.std.proofs.Common.{◌≡◌, ◌+ℤ◌, take, drop}
use Rattle.rows.specs.Rows.{dot}
use Rattle.run_state.proofs.expressions.add_products.Given as goal

abbrev pub invariant-loop-i : goal.invariant-loop-i
invariant-loop-i l = l.total ≡ l.sum +ℤ dot (take l.i (drop l.at l.program)) (take l.i (drop l.from l.values))
