-- One row more.
use Rattle.std.proofs.Common.{refl, arith}
use Rattle.words.specs.declared.StoredForm.TheVariants.{Sparse}
use Rattle.words.specs.SparseRows.{sparse_words}
use Rattle.sparse_rows.specs.SparseLoops.{take_next}
use Rattle.sparse_rows.proofs.sparse_words.Goals as goal

pub loop-i-init : goal.loop-i-init
unfolding sparse_words
loop-i-init c = (omega arith, refl)

pub loop-i-preserved : goal.loop-i-preserved
loop-i-preserved c =
    let l = c.loop-i in
    let a = c.args in
    (omega (arith, c.used_count-used.ensures.upper_bound), rw (take_next Sparse a.columns l.i a.at a.words.now, ← l.invariant.1, c.used_count-used.ensures.value) refl)
