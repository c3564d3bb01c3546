-- `write_disjuncts` meets its contract: after i turns the words of i disjuncts are written, and the others stand from `from` on.
use Rattle.std.proofs.Common.{◌≡◌, ◌+◌, ◌-◌, ◌≤◌, length, arith}
use Rattle.conversions.specs.Conversions.{other_form}
use Rattle.layout_writers.specs.FormCode.{disjuncts_none, disjuncts_next}
use Rattle.layout_writers.specs.OtherCode.{disjunct_other}
use Rattle.layout_writers.specs.Runs.{part_fits, written_next, all_written}
use Rattle.layout_writers.specs.Steps.{DisjunctsHere, disjuncts_here}
use Rattle.converters.proofs.writers.write_disjuncts.Goals as goal
use Rattle.converters.proofs.writers.write_disjuncts.Goals.{In-loop-i}

-- the disjunct at hand
module _ (c : In-loop-i) where
  here : DisjunctsHere c.args.form c.args.columns c.args.rows.now (c.args.count - (c.loop-i.i + 1)) c.loop-i.from
  here = disjuncts_here c.args.form c.args.columns c.args.rows.now c.loop-i.i c.args.count c.loop-i.from c.loop-i-test.true c.loop-i.invariant.left

  fits : c.args.to + c.loop-i.size + length (disjunct_other c.args.form c.args.columns c.args.rows.now c.loop-i.from) ≤ length c.loop-i.buffer
  fits =
      let a = c.args in
      let l = c.loop-i in
      part_fits l.invariant.run (disjuncts_next (other_form a.form) a.form a.columns a.rows.now l.from l.i a.count c.loop-i-test.true) c.requires.count_in_bounds

pub write_disjunct-written-requires-clause-rows_inside : goal.write_disjunct-written-requires-clause-rows_inside
write_disjunct-written-requires-clause-rows_inside c = (here (goal.at.write_disjunct-written-requires-clause-rows_inside c).In-loop-i).rows_here

pub write_disjunct-written-requires-clause-at_in_bounds : goal.write_disjunct-written-requires-clause-at_in_bounds
write_disjunct-written-requires-clause-at_in_bounds c = fits (goal.at.write_disjunct-written-requires-clause-at_in_bounds c).In-loop-i

pub overflow_add-size : goal.overflow_add-size
overflow_add-size c = omega (arith, fits (goal.at.overflow_add-size c).In-loop-i, c.write_disjunct-written.ensures.value)

pub loop-i-preserved : goal.loop-i-preserved
loop-i-preserved c =
    let a = c.args in
    let l = c.loop-i in
    let w = c.write_disjunct-written in
    rw c.disjunct_words-taken.ensures.value (record {
      near = omega arith;
      left = (here (goal.at.loop-i-preserved c).In-loop-i).behind;
      run = written_next l.invariant.run (disjuncts_next (other_form a.form) a.form a.columns a.rows.now l.from l.i a.count c.loop-i-test.true) w.ensures.value w.ensures.buffer_after;
    })

pub returns : goal.returns
returns c =
    let a = c.args in
    let l = c.loop-i in
    let e : a.count - l.i ≡ 0 = omega arith in
    let (size, stored) = all_written l.invariant.run (rw e (disjuncts_none (other_form a.form) a.form a.columns a.rows.now l.from)) in
    record { value = size; buffer_after = stored }
