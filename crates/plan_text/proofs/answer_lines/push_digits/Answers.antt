-- The system library's digits are the definition's.
use Rattle.std.proofs.Common.{◌≡◌, List, ℕ, length, take, ap, subst, ◌∙◌, arith}
use Rattle.plan_text.specs.Lines.{digits}
use Rattle.plan_text.proofs.DigitLaws.{same_digits}
use Rattle.plan_text.specs.PushLaws.{Pushed}
use Rattle.plan_text.proofs.answer_lines.push_digits.Goals as goal
use Rattle.plan_text.proofs.answer_lines.push_digits.Goals.{After-decimal-count}

spelt : (c : After-decimal-count) → take c.decimal-count.result c.decimal-count.new.out ≡ digits c.args.n
spelt c = let e = c.decimal-count.ensures in e.digits ∙ same_digits c.args.n c.decimal-count.result e.len

pub push-requires : goal.push-requires
push-requires c = let e = ap length (spelt (goal.at.push-requires c).After-decimal-count) in omega (arith, e)

pub returns : goal.returns
returns c = subst (λ (l : List ℕ). Pushed c.args.line.now c.args.at l c.push.result c.push.new.line) (spelt (goal.at.returns c).After-decimal-count) c.push.ensures
