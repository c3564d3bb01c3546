-- The first word chooses, as the definition does; what is chosen answers by its own definition, and leaves the buffer that goes with it.
use Rattle.std.proofs.Common.{sym, ap, ◌∙◌}
use Rattle.checker.specs.Check.{buffer_after}
use Rattle.leukarion.specs.Choice.{chosen, replayed_buffer, judged_buffer, judged_count}
use Rattle.leukarion.proofs.check_counted.Goals as goal

pub returns-then-word_within-clause-checked : goal.returns-then-word_within-clause-checked
returns-then-word_within-clause-checked c =
    let p = c.args.program.now in
    let q = c.args.witness.now in
    let b = c.args.buffer.now in
    let two = sym c.word_within.ensures ∙ c.if-word_within.true in
    let a = c.replay_counted.ensures in
    record { answer = a.answer_value ∙ sym (chosen p q two _); result = a.buffer_after ∙ (ap (λ x. buffer_after p q x b) a.answer_value ∙ replayed_buffer p q two b) }

pub returns-clause-checked : goal.returns-clause-checked
returns-clause-checked c =
    let p = c.args.program.now in
    let q = c.args.witness.now in
    let other = sym c.word_within.ensures ∙ c.if-word_within.false in
    record { answer = c.judge-answer.ensures ∙ sym (chosen p q other _); result = judged_buffer p q other c.args.buffer.now }

pub returns-clause-count_value : goal.returns-clause-count_value
returns-clause-count_value c =
    judged_count c.args.program.now c.args.witness.now (sym c.word_within.ensures ∙ c.if-word_within.false) _ c.judge-answer.ensures
