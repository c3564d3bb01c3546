-- The disjunct at hand stands in the row words, all of it, so the next place is one that can be written.
use Rattle.std.proofs.Common.{arith, refl, ◌+◌, ◌≤◌, length, drop}
use Rattle.words.specs.declared.StoredForm.TheVariants.{Sparse}
use Rattle.words.specs.SparseRows.{sparse_words}
use Rattle.words.specs.SparseForm.{SparseRowsForm}
use Rattle.certificates.specs.CertificateWords.{disjuncts_end}
use Rattle.certificate_readers.specs.DisjunctEnds.{end_next}
use Rattle.certificate_readers.specs.Disjuncts.{chosen}
use Rattle.certificate_readers.proofs.sparse_place.Goals as goal
use Rattle.certificate_readers.proofs.sparse_place.Goals.{After-row_count-count}

-- the disjunct at hand, all of it
there : (c : After-row_count-count) → let a = c.args in let at = c.loop-i.at in
    (at + 1 + sparse_words a.m c.row_count-count.result (drop (at + 1) a.rows.now) ≤ length a.rows.now) × SparseRowsForm a.m c.row_count-count.result (drop (at + 1) a.rows.now)
there c =
    let a = c.args in
    let stand = (chosen Sparse a.rows.now a.m a.j a.place c.loop-i.i c.requires c.loop-i-test.true).stand in
    rw (c.row_count-count.ensures, c.loop-i.invariant) (omega (arith, stand.ends), stand.formed)

pub loop-i-init : goal.loop-i-init
unfolding disjuncts_end
loop-i-init c = refl

pub overflow_add-at : goal.overflow_add-at
overflow_add-at c = omega (arith, (there (goal.at.overflow_add-at c).After-row_count-count).0)

pub words_inside-size-requires : goal.words_inside-size-requires
words_inside-size-requires c =
    let t = there (goal.at.words_inside-size-requires c).After-row_count-count in
    record { words_in_bounds = t.0; sparse_rows_form = t.1 }

pub overflow_add-at-in-loop-i : goal.overflow_add-at-in-loop-i
overflow_add-at-in-loop-i c = omega (arith, (there (goal.at.overflow_add-at-in-loop-i c).After-row_count-count).0)

pub overflow_add-at-in-loop-i-2 : goal.overflow_add-at-in-loop-i-2
overflow_add-at-in-loop-i-2 c = omega (arith, (there (goal.at.overflow_add-at-in-loop-i-2 c).After-row_count-count).0, c.words_inside-size.ensures)

pub loop-i-preserved : goal.loop-i-preserved
loop-i-preserved c =
    let a = c.args in
    rw (end_next Sparse a.rows.now a.m c.loop-i.i a.place, ← c.loop-i.invariant, c.words_inside-size.ensures, c.row_count-count.ensures) (omega arith)
