-- A contradiction, by each way through its words; the sum's buffer holds the sum as written.
use Rattle.std.proofs.Common.{take, drop, replicate, pos, sym, ◌∙◌}
use Rattle.row_buffers.specs.HeldRows.{held_rows}
use Rattle.row_buffers.proofs.FlatRows.{narrow_held_rows}
use Rattle.row_buffers.proofs.SumTests.{refuted_alike}
use Rattle.entailment_judge.proofs.TestedMultipliers.{read_so}
use Rattle.entailment_judge.proofs.Words.{Multipliers, multipliers}
use Rattle.entailment_judge.proofs.Targets.{read_sum}
use Rattle.entailment_judge.proofs.Shares.{contradiction_missing, contradiction_judged}
use Rattle.entailment_judge.proofs.judge_contradiction.Goals.{In_ok-end}
use Rattle.entailment_judge.proofs.judge_contradiction.Goals as goal

read : (c : In_ok-end) → Multipliers c.args.w.now c.args.at c.args.n c.in_ok-end.end
read c = multipliers c.args.w.now c.args.at c.args.n _ c.requires.at_in_bounds (sym (c.read_multipliers.ensures ∙ read_so c.args.w.now c.args.at c.args.n c.requires.at_in_bounds) ∙ c.in_ok-end.was)

pub returns-in_err-end : goal.returns-in_err-end
returns-in_err-end c =
    let a = c.args in
    rw c.from_residual.ensures (contradiction_missing a.w.now a.at a.n (held_rows a.columns a.n a.premises.now) (sym (c.read_multipliers.ensures ∙ read_so c.args.w.now c.args.at c.args.n c.requires.at_in_bounds) ∙ c.in_err-end.was))

pub sum_rows-requires-clause-n_in_bounds : goal.sum_rows-requires-clause-n_in_bounds
sum_rows-requires-clause-n_in_bounds c =
    let k = read (goal.at.sum_rows-requires-clause-n_in_bounds c).In_ok-end in
    (k.inside, k.small)

pub sum_rows-requires-clause-natural : goal.sum_rows-requires-clause-natural
sum_rows-requires-clause-natural c = (read (goal.at.sum_rows-requires-clause-natural c).In_ok-end).natural

pub returns : goal.returns
returns c =
    let a = c.args in
    contradiction_judged a.w.now a.at a.n (held_rows a.columns a.n a.premises.now) (read (goal.at.returns c).In_ok-end) c.is_refuted-fits.result
    (c.is_refuted-fits.ensures ∙ refuted_alike (read_sum (narrow_held_rows a.columns a.n a.premises.now) (take a.n (drop a.at a.w.now)) _ (replicate 41 (pos 0)) c.sum_rows.ensures))
