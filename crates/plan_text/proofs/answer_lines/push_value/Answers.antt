-- The blank, the sign where the test says so, and behind them the digits, of which a signed number of 64 bits has at most 19.
use Rattle.std.proofs.Common.{◌≡◌, [], ◌∷◌, ◌++◌, ◌^◌, ◌<◌, nat_abs, Bool, not, T, ℤ, pos, ◌<ℤ◌, ◌≤ℤ◌, sym, ap, subst, ◌∙◌, arith, to_z-of_z}
use Rattle.std.specs.Int.Signed.{lt_z_yes, lt_z_no}
use lib.Signed.{nat_abs-le}
use Rattle.plan_text.specs.Lines.{digits, value}
use Rattle.plan_text.proofs.DigitLaws.{length_digits}
use Rattle.plan_text.proofs.PushLaws.{marked, negative_value, other_value}
use Rattle.plan_text.proofs.answer_lines.push_value.Goals as goal
use Rattle.plan_text.proofs.answer_lines.push_value.Goals.{After-magnitude-size, Then-x-lt0, Else-x-lt0}

-- the size, which is below 10^19, and the text by what the test says of the number
sized : (c : After-magnitude-size) → c.magnitude-size.result ≡ nat_abs c.args.x
sized c = c.magnitude-size.ensures ∙ ap nat_abs (to_z-of_z c.ranges.x)

bounded : (c : After-magnitude-size) → c.magnitude-size.result < 10 ^ 19
bounded c = let l = nat_abs-le c.args.x c.ranges.x.sfits in omega (arith, sized c, l)

pub push_digits-requires : goal.push_digits-requires
push_digits-requires c = let m = (goal.at.push_digits-requires c).After-magnitude-size in omega (arith, c.push-minus.ensures.ends, length_digits 18 m.magnitude-size.result (bounded m))

pub returns-then-x-lt0 : goal.returns-then-x-lt0
returns-then-x-lt0 c =
    let m = (goal.at.returns-then-x-lt0 c).After-magnitude-size in
    let h = subst (λ (z : ℤ). z <ℤ pos 0) (to_z-of_z c.ranges.x) (lt_z_yes (subst T (sym c.if-x-lt0.true) tt)) in
    let e : value c.args.x ≡ (32 ∷ 45 ∷ []) ++ digits c.magnitude-size.result = rw (sized m) (negative_value c.args.x h) in
    let p = marked c.args.line.now c.args.at (32 ∷ 45 ∷ []) 18 c.magnitude-size.result (omega arith) (bounded m) e c.push-minus.ensures c.push_digits.ensures in
    record { pushed = p.0; upper_bound = p.1 }

pub push_digits-requires-2 : goal.push_digits-requires-2
push_digits-requires-2 c = let m = (goal.at.push_digits-requires-2 c).After-magnitude-size in omega (arith, c.push-plain.ensures.ends, length_digits 18 m.magnitude-size.result (bounded m))

pub returns : goal.returns
returns c =
    let m = (goal.at.returns c).After-magnitude-size in
    let h = subst (λ (z : ℤ). pos 0 ≤ℤ z) (to_z-of_z c.ranges.x) (lt_z_no (subst (λ (b : Bool). T (not b)) (sym c.if-x-lt0.false) tt)) in
    let e : value c.args.x ≡ (32 ∷ []) ++ digits c.magnitude-size.result = rw (sized m) (other_value c.args.x h) in
    let p = marked c.args.line.now c.args.at (32 ∷ []) 19 c.magnitude-size.result (omega arith) (omega (arith, bounded m)) e c.push-plain.ensures c.push_digits-2.ensures in
    record { pushed = p.0; upper_bound = p.1 }
