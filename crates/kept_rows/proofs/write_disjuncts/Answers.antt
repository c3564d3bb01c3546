-- `write_disjuncts` meets its contract: after j turns the kept ones of j disjuncts are counted, and written where all fit; the others stand from
-- `from` on.
use Rattle.std.proofs.Common.{◌≡◌, ◌+◌, ◌-◌, arith}
use Rattle.layout_writers.specs.Runs.{fitted_next, all_fitted}
use Rattle.layout_writers.specs.Steps.{DisjunctsHere, disjuncts_here}
use Rattle.kept_rows.specs.KeptCode.{kept_none, kept_next}
use Rattle.kept_rows.proofs.write_disjuncts.Goals as goal
use Rattle.kept_rows.proofs.write_disjuncts.Goals.{In-loop-j}

-- the disjunct at hand
here : (c : In-loop-j) → DisjunctsHere c.args.form c.args.columns c.args.rows.now (c.args.count - (c.loop-j.j + 1)) c.loop-j.from
here c = disjuncts_here c.args.form c.args.columns c.args.rows.now c.loop-j.j c.args.count c.loop-j.from c.loop-j-test.true c.loop-j.invariant.left

pub write_kept-written-requires-clause-rows_inside : goal.write_kept-written-requires-clause-rows_inside
write_kept-written-requires-clause-rows_inside c = (here (goal.at.write_kept-written-requires-clause-rows_inside c).In-loop-j).rows_here

pub loop-j-preserved : goal.loop-j-preserved
loop-j-preserved c =
    let a = c.args in
    let l = c.loop-j in
    let w = c.write_kept-written in
    rw c.disjunct_words-taken.ensures.value (record {
      near = omega arith;
      few = omega arith;
      left = (here (goal.at.loop-j-preserved c).In-loop-j).behind;
      run = fitted_next l.invariant.run (kept_next a.flags.now a.form a.columns a.rows.now l.from l.j a.count c.loop-j-test.true) w.ensures.value w.auto.buffer w.ensures.buffer_after;
    })

pub returns-clause-value : goal.returns-clause-value
returns-clause-value c =
    let a = c.args in
    let l = c.loop-j in
    let e : a.count - l.j ≡ 0 = omega arith in
    (all_fitted l.invariant.run (rw e (kept_none a.flags.now a.form a.columns a.rows.now l.from l.j))).0

pub returns-clause-buffer_after : goal.returns-clause-buffer_after
returns-clause-buffer_after c =
    let a = c.args in
    let l = c.loop-j in
    let e : a.count - l.j ≡ 0 = omega arith in
    (all_fitted l.invariant.run (rw e (kept_none a.flags.now a.form a.columns a.rows.now l.from l.j))).1
