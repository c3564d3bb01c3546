-- `new_number` meets its contract: a byte that is 1 is one more of the kept ones, and any other isn't.
use Rattle.std.proofs.Common.{ℕ, ◌+◌, sym, ap, ◌∙◌, arith}
use Rattle.entailment_sources.specs.NewNumbers.{flagged, number_none, number_kept, number_passed, number_most}
use Rattle.entailment_sources.proofs.new_numbers.new_number.Goals as goal
use Rattle.entailment_sources.proofs.new_numbers.new_number.Goals.{then-flags-i-eq1, else-flags-i-eq1}

pub loop-i-init : goal.loop-i-init
loop-i-init c = sym (number_none _)

pub overflow_add-number : goal.overflow_add-number
overflow_add-number c = omega (arith, c.loop-i.invariant, number_most (flagged c.args.flags.now) c.loop-i.i)

pub loop-i-preserved : goal.loop-i-preserved
loop-i-preserved c =
    elim c.if-flags-i-eq1.branch [
      | then-flags-i-eq1 w ↦ w.number-is ∙ (ap (λ (n : ℕ). n + 1) c.loop-i.invariant ∙ sym (number_kept c.args.flags.now c.loop-i.i w.if-flags-i-eq1.true))
      | else-flags-i-eq1 w ↦ w.number-is ∙ (c.loop-i.invariant ∙ sym (number_passed c.args.flags.now c.loop-i.i w.if-flags-i-eq1.false))
    ]

pub returns-clause-upper_bound : goal.returns-clause-upper_bound
returns-clause-upper_bound c = omega (arith, c.loop-i.invariant, number_most (flagged c.args.flags.now) c.loop-i.i)
