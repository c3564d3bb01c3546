-- `keep_target` meets its contract, by the last bit.
use Rattle.std.proofs.Common.{◌%◌, T, sym, ◌∙◌}
use Rattle.std.proofs.Math.Dec.{eqb→eq}
use Rattle.basics.proofs.Booleans.{eq_test}
use Rattle.used_targets.specs.UseTable.{names}
use Rattle.kept_disjuncts.specs.Queue.{filled_none, filled_as}
use Rattle.kept_disjuncts.proofs.keep_target.Goals as goal
use Rattle.kept_disjuncts.proofs.keep_target.Goals.{Then-rest-eq1}

named : (c : Then-rest-eq1) → T (names c.args.rest 0)
unfolding names
named c = (eq_test (c.args.rest % 2) 1).1 c.if-rest-eq1.true

pub byte_of-place-requires-clause-le : goal.byte_of-place-requires-clause-le
byte_of-place-requires-clause-le c = let h = c.requires.le (named (goal.at.byte_of-place-requires-clause-le c).Then-rest-eq1) in (h.0, h.1)

pub byte_of-place-requires-clause-j_lt_most_disjuncts : goal.byte_of-place-requires-clause-j_lt_most_disjuncts
byte_of-place-requires-clause-j_lt_most_disjuncts c = (c.requires.le (named (goal.at.byte_of-place-requires-clause-j_lt_most_disjuncts c).Then-rest-eq1)).2

pub returns-then-rest-eq1 : goal.returns-then-rest-eq1
returns-then-rest-eq1 c =
    let place = c.byte_of-place.ensures.value in
    filled_as c.keep_one.ensures (λ b n. n.1 ∙ sym place) (λ b e. (named (goal.at.returns-then-rest-eq1 c).Then-rest-eq1, e ∙ place))

pub returns : goal.returns
unfolding names
returns c = filled_none c.requires.queued (λ b n. absurd (c.if-rest-eq1.false (eqb→eq _ _ n.0)))
