-- The check of an empty buffer answers, and what it asks for is the number: the code and the definition go by the same four cases.
use Rattle.std.proofs.Common.{refl, sym, ap, ◌∙◌, eq-eqb, ne_eqb}
use Rattle.answers.specs.Answers.{answer_of}
use Rattle.leukarion.specs.ValueCount.{wanted, value_count}
use Rattle.leukarion.proofs.value_count.Goals as goal

pub returns-then-refusal-number : goal.returns-then-refusal-number
unfolding value_count wanted
returns-then-refusal-number c = rw (sym c.check-answer.ensures.answer ∙ ap answer_of c.in-Refused.is, eq-eqb _ 13 (c.if-refusal-number.true ∙ c.number.ensures)) refl

pub returns-in-Safe : goal.returns-in-Safe
unfolding value_count wanted
returns-in-Safe c = rw (sym c.check-answer.ensures.answer ∙ ap answer_of c.in-Safe.is) refl

pub returns-in-Trace : goal.returns-in-Trace
unfolding value_count wanted
returns-in-Trace c = rw (sym c.check-answer.ensures.answer ∙ ap answer_of c.in-Trace.is) refl

pub returns-else-refusal-number : goal.returns-else-refusal-number
unfolding value_count wanted
returns-else-refusal-number c = rw (sym c.check-answer.ensures.answer ∙ ap answer_of c.in-Refused.is, ne_eqb _ 13 (λ e. c.if-refusal-number.false (e ∙ sym c.number.ensures))) refl
