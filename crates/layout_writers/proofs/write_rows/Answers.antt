-- `write_rows` meets its contract: after i turns the words of i rows are written, and the others stand from `from` on.
use Rattle.std.proofs.Common.{◌≡◌, ◌+◌, ◌-◌, ◌≤◌, length, drop, arith, ◌∙◌}
use Rattle.words.specs.StoredRows.{row_takes}
use Rattle.conversions.specs.Conversions.{other_form}
use Rattle.layout_writers.specs.FormCode.{rows_none, rows_next}
use Rattle.layout_writers.specs.OtherCode.{row_other}
use Rattle.layout_writers.specs.Runs.{part_fits, written_next, all_written}
use Rattle.layout_writers.specs.Steps.{take_one, RowsHere, rows_here_lem}
use Rattle.layout_writers.proofs.write_rows.Goals as goal
use Rattle.layout_writers.proofs.write_rows.Goals.{In-loop-i, After-loop-i}

-- the row at hand
module _ (c : In-loop-i) where
  here : RowsHere c.args.form c.args.columns c.args.rows.now (c.args.count - (c.loop-i.i + 1)) c.loop-i.from
  here = rows_here_lem c.args.form c.args.columns c.args.rows.now c.loop-i.i c.args.count c.loop-i.from c.loop-i-test.true c.loop-i.invariant.left

  fits : c.args.to + c.loop-i.size + length (row_other c.args.form c.args.columns c.args.rows.now c.loop-i.from) ≤ length c.loop-i.buffer
  fits =
      let a = c.args in
      let l = c.loop-i in
      part_fits l.invariant.run (rows_next (other_form a.form) a.form a.columns a.rows.now l.from l.i a.count c.loop-i-test.true) c.requires.count_in_bounds

pub write_other-written-requires-clause-rows_in_bounds : goal.write_other-written-requires-clause-rows_in_bounds
write_other-written-requires-clause-rows_in_bounds c = (here (goal.at.write_other-written-requires-clause-rows_in_bounds c).In-loop-i).inside

pub write_other-written-requires-clause-row_form_in : goal.write_other-written-requires-clause-row_form_in
write_other-written-requires-clause-row_form_in c = (here (goal.at.write_other-written-requires-clause-row_form_in c).In-loop-i).formed

pub write_other-written-requires-clause-rows_in_bounds_2 : goal.write_other-written-requires-clause-rows_in_bounds_2
write_other-written-requires-clause-rows_in_bounds_2 c = fits (goal.at.write_other-written-requires-clause-rows_in_bounds_2 c).In-loop-i

pub overflow_add-size : goal.overflow_add-size
overflow_add-size c = omega (arith, fits (goal.at.overflow_add-size c).In-loop-i, c.write_other-written.ensures.value)

pub loop-i-preserved : goal.loop-i-preserved
loop-i-preserved c =
    let a = c.args in
    let l = c.loop-i in
    let w = c.write_other-written in
    let e : c.rows_take-taken.result ≡ row_takes a.form a.columns (drop l.from a.rows.now) = c.rows_take-taken.ensures.value ∙ take_one a.form a.columns (drop l.from a.rows.now) in
    rw e (record {
      left = (here (goal.at.loop-i-preserved c).In-loop-i).behind;
      run = written_next l.invariant.run (rows_next (other_form a.form) a.form a.columns a.rows.now l.from l.i a.count c.loop-i-test.true) w.ensures.value w.ensures.buffer_after;
    })

pub returns : goal.returns
returns c =
    let a = c.args in
    let l = c.loop-i in
    let e : a.count - l.i ≡ 0 = omega arith in
    let (size, stored) = all_written l.invariant.run (rw e (rows_none (other_form a.form) a.form a.columns a.rows.now l.from)) in
    record { value = size; buffer_after = stored }
