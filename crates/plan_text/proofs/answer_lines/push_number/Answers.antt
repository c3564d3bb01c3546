-- The blank, and behind it the digits, of which a number of 64 bits has at most 20.
use Rattle.std.proofs.Common.{[], ◌∷◌, refl, arith}
use Rattle.plan_text.specs.Lines.{number}
use Rattle.plan_text.proofs.DigitLaws.{length_digits}
use Rattle.plan_text.proofs.PushLaws.{marked}
use Rattle.plan_text.proofs.answer_lines.push_number.Goals as goal

pub push_digits-requires : goal.push_digits-requires
push_digits-requires c = omega (arith, c.push-blank.ensures.ends, length_digits 19 c.args.n (omega (arith, c.ranges.n)))

pub returns : goal.returns
unfolding number
returns c =
    let m = marked c.args.line.now c.args.at (32 ∷ []) 19 c.args.n (omega arith) (omega (arith, c.ranges.n)) refl c.push-blank.ensures c.push_digits.ensures in
    record { pushed = m.0; upper_bound = m.1 }
