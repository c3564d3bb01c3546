-- `disjuncts_size` meets its contract: after i turns the words of i disjuncts are counted, and the others stand from `from` on.
use Rattle.std.proofs.Common.{◌≡◌, ◌+◌, ◌-◌, length, arith}
use Rattle.conversions.specs.Conversions.{other_form}
use Rattle.layout_writers.specs.FormCode.{disjunct_length, disjuncts_none, disjuncts_next}
use Rattle.layout_writers.specs.OtherCode.{disjunct_other}
use Rattle.layout_writers.specs.Runs.{counted_next, all_counted}
use Rattle.layout_writers.specs.Steps.{DisjunctsHere, disjuncts_here}
use Rattle.converters.proofs.sizes.disjuncts_size.Goals as goal
use Rattle.converters.proofs.sizes.disjuncts_size.Goals.{In-loop-i}

-- the disjunct at hand
here : (c : In-loop-i) → DisjunctsHere c.args.form c.args.columns c.args.rows.now (c.args.count - (c.loop-i.i + 1)) c.loop-i.from
here c = disjuncts_here c.args.form c.args.columns c.args.rows.now c.loop-i.i c.args.count c.loop-i.from c.loop-i-test.true c.loop-i.invariant.left

pub rows_size-words-requires-clause-rows_inside : goal.rows_size-words-requires-clause-rows_inside
rows_size-words-requires-clause-rows_inside c = rw c.row_count-n.ensures (here (goal.at.rows_size-words-requires-clause-rows_inside c).In-loop-i).rows_here

pub loop-i-preserved : goal.loop-i-preserved
loop-i-preserved c =
    let a = c.args in
    let l = c.loop-i in
    let w : 1 + c.rows_size-words.result ≡ length (disjunct_other a.form a.columns a.rows.now l.from)
    = omega (arith, rw c.row_count-n.ensures at c.rows_size-words.ensures.value, disjunct_length (other_form a.form) a.form a.columns a.rows.now l.from) in
    rw c.disjunct_words-taken.ensures.value (record {
      near = omega arith;
      few = omega arith;
      left = (here (goal.at.loop-i-preserved c).In-loop-i).behind;
      counted = counted_next l.invariant.counted (disjuncts_next (other_form a.form) a.form a.columns a.rows.now l.from l.i a.count c.loop-i-test.true) w;
    })

pub returns-clause-value : goal.returns-clause-value
returns-clause-value c =
    let a = c.args in
    let l = c.loop-i in
    let e : a.count - l.i ≡ 0 = omega arith in
    all_counted l.invariant.counted (rw e (disjuncts_none (other_form a.form) a.form a.columns a.rows.now l.from))
