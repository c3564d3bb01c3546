-- A share, once its words are read: the buffer holds the sum of the disjunct's own rows, and then with that of the added ones.
use Rattle.std.proofs.Common.{◌+◌, refl, sym, ap, ◌∙◌, arith}
use Rattle.row_buffers.specs.HeldRows.{held_row}
use Rattle.row_buffers.proofs.SumTests.{yielded_alike}
use Rattle.entailment_judge.specs.Parted.{parted_rows}
use Rattle.entailment_judge.specs.Answers.{leaf_of}
use Rattle.entailment_judge.proofs.Words.{Multipliers}
use Rattle.entailment_judge.proofs.PartSums.{own_weights, added_weights, own_small, parted_sum}
use Rattle.entailment_judge.proofs.Shares.{Shared, divisor_most, shared, not_shared, weights, share_judged}
use Rattle.entailment_judge.proofs.in_place.share.Goals.{In_ok-words}
use Rattle.entailment_judge.proofs.in_place.share.Goals as goal

-- the words that were read
found_words : (c : In_ok-words) → Shared c.args.w.now c.args.at (c.args.n.own + c.args.n.added) c.in_ok-words.words
found_words c = shared c.args.w.now c.args.at (c.args.n.own + c.args.n.added) (sym c.share_words.ensures ∙ c.in_ok-words.was)

read : (c : In_ok-words) → Multipliers c.args.w.now c.in_ok-words.words.first (c.args.n.own + c.args.n.added) c.in_ok-words.words.next
read c = weights c.args.w.now c.args.at (c.args.n.own + c.args.n.added) (found_words c)

pub returns-in_err-words : goal.returns-in_err-words
returns-in_err-words c =
    let a = c.args in
    rw c.from_residual.ensures
    (sym (ap (leaf_of a.w.now) (not_shared a.w.now a.at (a.n.own + a.n.added) (parted_rows a.rows.now a.places.now a.n a.premises.now) (held_row a.n.columns a.target.now) (sym c.share_words.ensures ∙ c.in_err-words.was))))

pub sum_sparse-requires-clause-n_in_bounds : goal.sum_sparse-requires-clause-n_in_bounds
sum_sparse-requires-clause-n_in_bounds c =
    let k = own_weights c.args.n.own c.args.n.added (read (goal.at.sum_sparse-requires-clause-n_in_bounds c).In_ok-words) in
    (k.inside, k.small)

pub sum_sparse-requires-clause-natural : goal.sum_sparse-requires-clause-natural
sum_sparse-requires-clause-natural c = (own_weights c.args.n.own c.args.n.added (read (goal.at.sum_sparse-requires-clause-natural c).In_ok-words)).natural

pub overflow_add-first : goal.overflow_add-first
overflow_add-first c = omega (arith, (own_weights c.args.n.own c.args.n.added (read (goal.at.overflow_add-first c).In_ok-words)).inside)

pub add_rows-requires-clause-n_in_bounds : goal.add_rows-requires-clause-n_in_bounds
add_rows-requires-clause-n_in_bounds c =
    let k = added_weights c.args.n.own c.args.n.added (read (goal.at.add_rows-requires-clause-n_in_bounds c).In_ok-words) in
    (k.inside, k.small)

pub add_rows-requires-clause-natural : goal.add_rows-requires-clause-natural
add_rows-requires-clause-natural c = (added_weights c.args.n.own c.args.n.added (read (goal.at.add_rows-requires-clause-natural c).In_ok-words)).natural

pub add_rows-requires-clause-columns_in_bounds : goal.add_rows-requires-clause-columns_in_bounds
add_rows-requires-clause-columns_in_bounds c =
    let a = c.args in
    let k = own_weights a.n.own a.n.added (read (goal.at.add_rows-requires-clause-columns_in_bounds c).In_ok-words) in
    (omega arith, own_small c.requires.parted a.w.now c.in_ok-words.words.first a.sum.now c.sum_sparse.new.target c.sum_sparse.ensures k)

pub is_yielded-fits-requires-clause-divisor_le_most_divisor :
    goal.is_yielded-fits-requires-clause-divisor_le_most_divisor
is_yielded-fits-requires-clause-divisor_le_most_divisor c =
    let a = c.args in (
      divisor_most a.w.now a.at (a.n.own + a.n.added) (found_words (goal.at.is_yielded-fits-requires-clause-divisor_le_most_divisor c).In_ok-words),
      c.requires.columns_in_bounds.1,
    )

pub returns : goal.returns
returns c =
    let a = c.args in
    let n = a.n in
    let k = found_words (goal.at.returns c).In_ok-words in
    share_judged a.w.now a.at (n.own + n.added) (parted_rows a.rows.now a.places.now n a.premises.now) (held_row n.columns a.target.now) c.is_yielded-fits.result k
    (c.is_yielded-fits.ensures
    ∙ yielded_alike c.in_ok-words.words.divisor
    (parted_sum c.requires.parted a.w.now c.in_ok-words.words.first a.sum.now c.sum_sparse.new.target c.sum_sparse.ensures (own_weights n.own n.added (read (goal.at.returns c).In_ok-words)).inside c.add_rows.new.target c.add_rows.ensures)
    (record { same = λ i. refl }))
