-- A contradiction, by each way through its words; the sum's buffer holds the sum of both parts.
use Rattle.std.proofs.Common.{◌+◌, replicate, pos, sym, ◌∙◌, arith}
use Rattle.row_buffers.proofs.SumTests.{refuted_alike}
use Rattle.entailment_judge.specs.Parted.{parted_rows}
use Rattle.entailment_judge.proofs.TestedMultipliers.{read_so}
use Rattle.entailment_judge.proofs.Words.{Multipliers, multipliers}
use Rattle.entailment_judge.proofs.PartSums.{own_weights, added_weights, own_small, parted_sum}
use Rattle.entailment_judge.proofs.Shares.{contradiction_missing, contradiction_judged}
use Rattle.entailment_judge.proofs.in_place.judge_contradiction.Goals.{In_ok-end}
use Rattle.entailment_judge.proofs.in_place.judge_contradiction.Goals as goal

read : (c : In_ok-end) → Multipliers c.args.w.now c.args.at (c.args.n.own + c.args.n.added) c.in_ok-end.end
read c = multipliers c.args.w.now c.args.at (c.args.n.own + c.args.n.added) _ c.requires.at_in_bounds (sym (c.read_multipliers.ensures ∙ read_so c.args.w.now c.args.at (c.args.n.own + c.args.n.added) c.requires.at_in_bounds) ∙ c.in_ok-end.was)

pub returns-in_err-end : goal.returns-in_err-end
returns-in_err-end c =
    let a = c.args in
    rw c.from_residual.ensures (contradiction_missing a.w.now a.at (a.n.own + a.n.added) (parted_rows a.rows.now a.places.now a.n a.premises.now) (sym (c.read_multipliers.ensures ∙ read_so c.args.w.now c.args.at (c.args.n.own + c.args.n.added) c.requires.at_in_bounds) ∙ c.in_err-end.was))

pub sum_sparse-requires-clause-n_in_bounds : goal.sum_sparse-requires-clause-n_in_bounds
sum_sparse-requires-clause-n_in_bounds c =
    let k = own_weights c.args.n.own c.args.n.added (read (goal.at.sum_sparse-requires-clause-n_in_bounds c).In_ok-end) in
    (k.inside, k.small)

pub sum_sparse-requires-clause-natural : goal.sum_sparse-requires-clause-natural
sum_sparse-requires-clause-natural c = (own_weights c.args.n.own c.args.n.added (read (goal.at.sum_sparse-requires-clause-natural c).In_ok-end)).natural

pub add_rows-requires-clause-n_in_bounds : goal.add_rows-requires-clause-n_in_bounds
add_rows-requires-clause-n_in_bounds c =
    let k = added_weights c.args.n.own c.args.n.added (read (goal.at.add_rows-requires-clause-n_in_bounds c).In_ok-end) in
    (k.inside, k.small)

pub add_rows-requires-clause-natural : goal.add_rows-requires-clause-natural
add_rows-requires-clause-natural c = (added_weights c.args.n.own c.args.n.added (read (goal.at.add_rows-requires-clause-natural c).In_ok-end)).natural

pub add_rows-requires-clause-columns_in_bounds : goal.add_rows-requires-clause-columns_in_bounds
add_rows-requires-clause-columns_in_bounds c =
    let a = c.args in
    let k = own_weights a.n.own a.n.added (read (goal.at.add_rows-requires-clause-columns_in_bounds c).In_ok-end) in
    (omega arith, own_small c.requires.parted a.w.now a.at (replicate 41 (pos 0)) c.sum_sparse.new.target c.sum_sparse.ensures k)

pub returns : goal.returns
returns c =
    let a = c.args in
    let n = a.n in
    let k = read (goal.at.returns c).In_ok-end in
    contradiction_judged a.w.now a.at (n.own + n.added) (parted_rows a.rows.now a.places.now n a.premises.now) k c.is_refuted-fits.result
    (c.is_refuted-fits.ensures
    ∙ refuted_alike (parted_sum c.requires.parted a.w.now a.at (replicate 41 (pos 0)) c.sum_sparse.new.target c.sum_sparse.ensures (own_weights n.own n.added k).inside c.add_rows.new.target c.add_rows.ensures))
