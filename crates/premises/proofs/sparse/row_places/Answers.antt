-- The row that is next stands in the row words, and its place comes behind those before.
use Rattle.std.proofs.Common.{◌≡◌, sym, ap, ◌∙◌, List, [], ◌∷◌, ◌++◌, ℕ, ◌+◌, ◌<◌, length, drop, arith}
use Rattle.std.proofs.Math.Seq.{drop-drop}
use Rattle.rows.specs.Rows.{Row}
use Rattle.words.specs.declared.StoredForm.TheVariants.{Sparse}
use Rattle.words.specs.SparseRows.{used_of, sparse_row_of, sparse_rows_of, sparse_words}
use Rattle.words.proofs.StoredRows.{take_none, no_rows_in, more_in}
use Rattle.sparse_rows.specs.SparseLoops.{take_next}
use Rattle.certificate_readers.specs.Disjuncts.{RowStands, row_stands}
use Rattle.row_buffers.specs.PlacedRows.{SparseHere, placed_rows}
use Rattle.row_buffers.proofs.PlacedRows.{none_placed, more_placed, placed_more}
use Rattle.premises.proofs.sparse.row_places.Goals as goal
use Rattle.premises.proofs.sparse.row_places.Goals.{In-loop-j}

pub loop-j-init : goal.loop-j-init
unfolding placed_rows
loop-j-init c =
    let a = c.args in
    let l = drop a.from a.rows.now in
    record { next = omega (arith, take_none Sparse a.m l); stand = none_placed a.m a.rows.now a.places.now; same = sym (no_rows_in Sparse a.m l) }

-- the row that is next
here : (c : In-loop-j) → SparseHere c.args.m c.args.rows.now c.loop-j.place
here c =
    let stands : RowStands Sparse c.args.m c.args.rows.now c.loop-j.place = rw (← c.loop-j.invariant.next) at (row_stands c.requires.disjunct_here c.loop-j.j c.loop-j-test.true) in
    record { inside = stands.inside; formed = stands.formed; strict = stands.strict }

pub used_inside-used-requires : goal.used_inside-used-requires
used_inside-used-requires c = let h = here (goal.at.used_inside-used-requires c).In-loop-j in record { words_in_bounds = h.inside; sparse_row_form = h.formed }

pub overflow_add-size : goal.overflow_add-size
overflow_add-size c = omega (arith, (here (goal.at.overflow_add-size c).In-loop-j).inside, c.used_inside-used.ensures)

pub overflow_add-size-in-loop-j : goal.overflow_add-size-in-loop-j
overflow_add-size-in-loop-j c = omega (arith, (here (goal.at.overflow_add-size-in-loop-j c).In-loop-j).inside, c.used_inside-used.ensures)

pub overflow_add-place : goal.overflow_add-place
overflow_add-place c = omega (arith, (here (goal.at.overflow_add-place c).In-loop-j).inside, c.used_inside-used.ensures)

pub loop-j-preserved : goal.loop-j-preserved
loop-j-preserved c =
    let l = c.loop-j in
    let a = c.args in
    let i = l.invariant in
    let f = drop a.from a.rows.now in
    let at = a.from + sparse_words a.m l.j f in
    let size : c.used_inside-used.result ≡ used_of a.m (drop at a.rows.now) = rw i.next at c.used_inside-used.ensures in
    let free : l.j < length l.places = omega arith in
    let next : sparse_row_of a.m (drop l.place a.rows.now) ≡ sparse_row_of a.m (drop (sparse_words a.m l.j f) f) =
    ap (λ (q : ℕ). sparse_row_of a.m (drop q a.rows.now)) i.next ∙ sym (ap (sparse_row_of a.m) (drop-drop (sparse_words a.m l.j f) a.from a.rows.now)) in
    record {
      next = omega (arith, size, i.next, take_next Sparse a.m l.j a.from a.rows.now);
      stand = more_placed a.m a.rows.now l.place i.stand (omega (arith, c.requires.disjunct_here.stand.few)) free (here (goal.at.loop-j-preserved c).In-loop-j);
      same =
          placed_more a.m a.rows.now l.j l.places l.place free
          ∙ (ap (λ (rs : List Row). rs ++ sparse_row_of a.m (drop l.place a.rows.now) ∷ []) i.same
          ∙ (ap (λ (r : Row). sparse_rows_of a.m l.j f ++ r ∷ []) next ∙ sym (more_in Sparse a.m l.j f)));
    }
