-- `rows_size` meets its contract: after i turns the words of i rows are counted, and the others stand from `from` on.
use Rattle.std.proofs.Common.{◌≡◌, ◌+◌, ◌-◌, drop, arith, ◌∙◌}
use Rattle.words.specs.StoredRows.{row_takes}
use Rattle.conversions.specs.Conversions.{other_form}
use Rattle.layout_writers.specs.FormCode.{rows_none, rows_next}
use Rattle.layout_writers.specs.Runs.{counted_next, all_counted}
use Rattle.layout_writers.specs.Steps.{take_one, RowsHere, rows_here_lem}
use Rattle.converters.proofs.sizes.rows_size.Goals as goal
use Rattle.converters.proofs.sizes.rows_size.Goals.{In-loop-i}

-- the row at hand
here : (c : In-loop-i) → RowsHere c.args.form c.args.columns c.args.rows.now (c.args.count - (c.loop-i.i + 1)) c.loop-i.from
here c = rows_here_lem c.args.form c.args.columns c.args.rows.now c.loop-i.i c.args.count c.loop-i.from c.loop-i-test.true c.loop-i.invariant.left

pub other_size-words-requires-clause-rows_in_bounds : goal.other_size-words-requires-clause-rows_in_bounds
other_size-words-requires-clause-rows_in_bounds c = (here (goal.at.other_size-words-requires-clause-rows_in_bounds c).In-loop-i).inside

pub other_size-words-requires-clause-row_form_in : goal.other_size-words-requires-clause-row_form_in
other_size-words-requires-clause-row_form_in c = (here (goal.at.other_size-words-requires-clause-row_form_in c).In-loop-i).formed

pub loop-i-preserved : goal.loop-i-preserved
loop-i-preserved c =
    let a = c.args in
    let l = c.loop-i in
    let e : c.rows_take-taken.result ≡ row_takes a.form a.columns (drop l.from a.rows.now) = c.rows_take-taken.ensures.value ∙ take_one a.form a.columns (drop l.from a.rows.now) in
    rw e (record {
      near = omega arith;
      left = (here (goal.at.loop-i-preserved c).In-loop-i).behind;
      counted = counted_next l.invariant.counted (rows_next (other_form a.form) a.form a.columns a.rows.now l.from l.i a.count c.loop-i-test.true) c.other_size-words.ensures.value;
    })

pub returns-clause-value : goal.returns-clause-value
returns-clause-value c =
    let a = c.args in
    let l = c.loop-i in
    let e : a.count - l.i ≡ 0 = omega arith in
    all_counted l.invariant.counted (rw e (rows_none (other_form a.form) a.form a.columns a.rows.now l.from))
