-- Each row is tested where it stands; one that fails, or isn't all there, is the walk's answer.
use Rattle.std.proofs.Common.{◌≡◌, Bool, true, ℕ, ◌+◌, refl, sym, ap, ap₂, ◌∙◌, arith, add-zero, drop}
use mathlib.Core.Bool.{not, ◌&&◌}
use Rattle.std.proofs.Math.Dec.{ltb, eqb}
use Rattle.words.specs.declared.StoredForm.TheVariants.{Sparse}
use Rattle.words.specs.SparseRows.{used_of, sparse_words, sparse_passes, sparse_strict, each_sparse, sparse_rows_pass, sparse_rows_strict}
use Rattle.words.proofs.StoredRows.{take_fewer}
use Rattle.sparse_rows.specs.SparseLoops.{take_next, each_next, filled_is}
use Rattle.sparse_rows.specs.Walks.{sparse_filled, sparse_rows_filled, none_failed, some_passed, rows_past, row_fails, rows_pass}
use Rattle.sparse_rows.proofs.rows_walked.Goals as goal
use Rattle.sparse_rows.proofs.rows_walked.Goals.{After-used_count-used}

-- the row at hand, and where it ends
module _ (c : After-used_count-used) where
  abbrev place : ℕ
  place = c.args.at + sparse_words c.args.columns c.loop-i.i (drop c.args.at c.args.words.now)

  counts : c.used_count-used.result ≡ used_of c.args.columns (drop place c.args.words.now)
  counts = c.used_count-used.ensures.value ∙ ap (λ (p : ℕ). used_of c.args.columns (drop p c.args.words.now)) c.loop-i.invariant.ends

  next : c.loop-i.from + (3 + (c.used_count-used.result + c.used_count-used.result)) ≡ c.args.at + sparse_words c.args.columns (c.loop-i.i + 1) (drop c.args.at c.args.words.now)
  next = omega (arith, take_next Sparse c.args.columns c.loop-i.i c.args.at c.args.words.now, counts, c.loop-i.invariant.ends)

pub loop-i-init : goal.loop-i-init
unfolding sparse_words each_sparse sparse_rows_pass sparse_rows_strict sparse_rows_filled
loop-i-init c = record { near = omega arith; inside = c.requires.at_in_bounds.0; ends = sym (add-zero c.args.at); pass = refl; strictly = refl; filling = refl }

pub used_count-used-requires : goal.used_count-used-requires
used_count-used-requires c = omega (arith, c.loop-i.invariant.near)

pub overflow_add-end-in-loop-i-2 : goal.overflow_add-end-in-loop-i-2
overflow_add-end-in-loop-i-2 c = omega (arith, c.used_count-used.ensures.upper_bound, c.loop-i.invariant.near)

pub returns-then-words-end : goal.returns-then-words-end
returns-then-words-end c =
    let a = c.args in
    let u = (goal.at.returns-then-words-end c).After-used_count-used in
    rows_past a.words.now a.at a.columns a.count
    (omega (arith, c.if-words-end.true, next u, take_fewer Sparse a.columns (c.loop-i.i + 1) a.count (drop a.at a.words.now) (omega (arith, c.loop-i-test.true))))

pub returns-in_err-rises : goal.returns-in_err-rises
returns-in_err-rises c =
    let a = c.args in
    rw c.from_residual.ensures
    (row_fails a.words.now a.at a.columns a.count c.loop-i.i c.loop-i-test.true (rw c.loop-i.invariant.ends at (none_failed _ _ (sym (c.in_err-rises.ensures)))))

pub loop-i-preserved : goal.loop-i-preserved
unfolding sparse_rows_pass sparse_rows_strict sparse_rows_filled
loop-i-preserved c =
    let u = (goal.at.loop-i-preserved c).After-used_count-used in
    let l = c.loop-i in
    let a = c.args in
    let (passes, rises) = some_passed _ _ _ (sym c.in_ok-rises.ensures) in
    let passed : sparse_passes a.columns (drop (place u) a.words.now) ≡ true = rw l.invariant.ends at passes in
    let strictly : c.in_ok-rises.rises ≡ sparse_strict a.columns (drop (place u) a.words.now) = rises ∙ ap (λ (p : ℕ). sparse_strict a.columns (drop p a.words.now)) l.invariant.ends in
    let filled : ltb 0 c.used_count-used.result ≡ sparse_filled a.columns (drop (place u) a.words.now) = filled_is c.used_count-used.result ∙ ap (λ (n : ℕ). not (eqb n 0)) (counts u) in
    record {
      near = omega (arith, c.used_count-used.ensures.upper_bound, l.invariant.near);
      inside = omega (arith, c.if-words-end.false);
      ends = next u;
      pass = each_next a.columns (sparse_passes a.columns) l.i a.at a.words.now ∙ ap₂ (λ (p q : Bool). p && q) l.invariant.pass passed;
      strictly = ap₂ (λ (p q : Bool). p && q) l.invariant.strictly strictly ∙ sym (each_next a.columns (sparse_strict a.columns) l.i a.at a.words.now);
      filling = ap₂ (λ (p q : Bool). p && q) l.invariant.filling filled ∙ sym (each_next a.columns (sparse_filled a.columns) l.i a.at a.words.now);
    }

pub returns : goal.returns
returns c =
    let l = c.loop-i in
    let a = c.args in
    let e : l.i ≡ a.count = omega arith in
    rw (l.invariant.strictly, l.invariant.filling, l.invariant.ends, e) (rows_pass a.words.now a.at a.columns a.count (rw (l.invariant.ends, e) at l.invariant.inside) (rw e at l.invariant.pass))
