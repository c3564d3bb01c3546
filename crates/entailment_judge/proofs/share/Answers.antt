-- A share, once its words are read; the buffer holds the sum as written.
use Rattle.std.proofs.Common.{take, drop, refl, sym, ap, ◌∙◌}
use Rattle.row_buffers.specs.HeldRows.{held_row, held_rows}
use Rattle.row_buffers.proofs.FlatRows.{narrow_held_rows}
use Rattle.row_buffers.proofs.SumTests.{yielded_alike}
use Rattle.entailment_judge.specs.Answers.{leaf_of}
use Rattle.entailment_judge.proofs.Words.{Multipliers}
use Rattle.entailment_judge.proofs.Targets.{read_sum}
use Rattle.entailment_judge.proofs.Shares.{Shared, divisor_most, shared, not_shared, weights, share_judged}
use Rattle.entailment_judge.proofs.share.Goals.{In_ok-words}
use Rattle.entailment_judge.proofs.share.Goals as goal

-- the words that were read
found_words : (c : In_ok-words) → Shared c.args.w.now c.args.at c.args.n c.in_ok-words.words
found_words c = shared c.args.w.now c.args.at c.args.n (sym c.share_words.ensures ∙ c.in_ok-words.was)

read : (c : In_ok-words) → Multipliers c.args.w.now c.in_ok-words.words.first c.args.n c.in_ok-words.words.next
read c = weights c.args.w.now c.args.at c.args.n (found_words c)

pub returns-in_err-words : goal.returns-in_err-words
returns-in_err-words c =
    let a = c.args in
    rw c.from_residual.ensures
    (sym (ap (leaf_of a.w.now) (not_shared a.w.now a.at a.n (held_rows a.columns a.n a.premises.now) (held_row a.columns a.target.now) (sym c.share_words.ensures ∙ c.in_err-words.was))))

pub sum_rows-requires-clause-n_in_bounds : goal.sum_rows-requires-clause-n_in_bounds
sum_rows-requires-clause-n_in_bounds c =
    let k = read (goal.at.sum_rows-requires-clause-n_in_bounds c).In_ok-words in
    (k.inside, k.small)

pub sum_rows-requires-clause-natural : goal.sum_rows-requires-clause-natural
sum_rows-requires-clause-natural c = (read (goal.at.sum_rows-requires-clause-natural c).In_ok-words).natural

pub is_yielded-fits-requires-clause-divisor_le_most_divisor :
    goal.is_yielded-fits-requires-clause-divisor_le_most_divisor
is_yielded-fits-requires-clause-divisor_le_most_divisor c =
    let a = c.args in (
      divisor_most a.w.now a.at a.n (found_words (goal.at.is_yielded-fits-requires-clause-divisor_le_most_divisor c).In_ok-words),
      c.requires.columns_in_bounds.1,
    )

pub returns : goal.returns
returns c =
    let a = c.args in
    let k = found_words (goal.at.returns c).In_ok-words in
    share_judged a.w.now a.at a.n (held_rows a.columns a.n a.premises.now) (held_row a.columns a.target.now) c.is_yielded-fits.result k
    (c.is_yielded-fits.ensures
    ∙ yielded_alike c.in_ok-words.words.divisor (read_sum (narrow_held_rows a.columns a.n a.premises.now) (take a.n (drop c.in_ok-words.words.first a.w.now)) _ a.sum.now c.sum_rows.ensures) (record { same = λ i. refl }))
