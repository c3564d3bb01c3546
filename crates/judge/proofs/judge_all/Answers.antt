-- The start is judged at the first word, and the vertices' entailments follow it where it held.
use Rattle.std.proofs.Common.{◌≡◌, ◌∙◌, arith}
use Rattle.entailment_judge.specs.Answers.{verdict_of}
use Rattle.entailment_judge.specs.Judging.{judged_witness}
use Rattle.judge.specs.StartLaws.{start, start_ended, start_refused, start_next, start_counted}
use Rattle.judge.proofs.judge_all.Goals.{After-judge_entailment-verdict}
use Rattle.judge.proofs.judge_all.Goals as goal

-- the step is that of the start
answered : (c : After-judge_entailment-verdict) → c.judge_entailment-verdict.result ≡ verdict_of c.args.w.now (judged_witness (start c.requires.given) c.args.w.now)
answered c = rw (c.start_entailment-start.ensures c.args.rows.now c.requires.given).is at c.judge_entailment-verdict.ensures

pub returns-in-Err : goal.returns-in-Err
returns-in-Err c =
    let g = c.requires.given in
    let w = c.args.w.now in
    let j = c.judge_entailment-verdict.result in
    let e = answered (goal.at.returns-in-Err c).After-judge_entailment-verdict in
    record { result_value = start_ended g w j e _ c.in-Err.is; inside_words = omega arith; result_value_2 = start_refused g w j e _ c.in-Err.is }

pub returns-in-Ok : goal.returns-in-Ok
returns-in-Ok c =
    let g = c.requires.given in
    let w = c.args.w.now in
    let j = c.judge_entailment-verdict.result in
    let e = answered (goal.at.returns-in-Ok c).After-judge_entailment-verdict in
    let s = c.search.ensures in
    record {
      result_value = s.result_value ∙ start_next g w j e _ c.in-Ok.is;
      inside_words = s.inside_words;
      result_value_2 = s.result_value_2 ∙ start_counted g w j e _ c.in-Ok.is;
    }
