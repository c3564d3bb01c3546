-- The shares from row i on, with what the shares before it came to, decide as all do; the two buffers keep their lengths.
use Rattle.std.proofs.Common.{◌≡◌, ℕ, suc, ◌+◌, ◌-◌, ◌<◌, drop, refl, sym, ap, subst, ◌∙◌, arith}
use Rattle.rows.specs.Rows.{substitute}
use Rattle.words.specs.StoredRows.{row_in, rows_take, row_takes}
use Rattle.words.proofs.StoredRows.{take_none}
use Rattle.certificates.specs.CertificateWords.{row_count}
use Rattle.sparse_rows.specs.SparseLoops.{take_next}
use Rattle.certificate_readers.specs.Disjuncts.{RowStands, row_stands}
use Rattle.row_buffers.specs.HeldRows.{held_row}
use Rattle.row_buffers.specs.Entries.{Alike}
use Rattle.row_buffers.specs.EntryLimits.{target_limit, SmallRow}
use Rattle.entailments.specs.Meaning.{image_rows}
use Rattle.entailments.proofs.ImageSizes.{columns_most}
use Rattle.entailment_judge.specs.Parted.{parted_rows}
use Rattle.entailment_judge.specs.Answers.{leaf_of}
use Rattle.entailment_judge.specs.Judging.{read_share}
use Rattle.entailment_judge.proofs.Targets.{read_target_lem, target_small}
use Rattle.entailment_judge.proofs.Shares.{share_alike, go_on, missing_word, all_judged}
use Rattle.entailment_judge.proofs.in_place.judge_rows.Goals.{In-loop-i, After-target_row-size, After-share}
use Rattle.entailment_judge.proofs.in_place.judge_rows.Goals as goal

-- the row of this turn is one of the disjunct's, and stands in the row words
stands : (c : In-loop-i) → let a = c.args in RowStands a.e.form a.e.width a.rows.now c.loop-i.from
stands c =
    let a = c.args in
    let l = c.loop-i in
    let h : l.i < row_count a.rows.now a.p = rw (← c.row_count-count.ensures) (omega arith) in
    rw l.invariant.from (row_stands c.requires.disjunct_here l.i h)

-- the target's buffer
small : (c : After-target_row-size) → RowStands c.args.e.form c.args.e.width c.args.rows.now c.loop-i.from → SmallRow target_limit (held_row c.args.n.columns c.target_row-size.new.target)
small c h =
    let r = c.target_row-size in
    subst (λ (k : ℕ). SmallRow target_limit (held_row k r.new.target)) (sym c.requires.parted.1) (target_small c.requires.image_here h _ c.loop-i.target r.ensures.target_after)

-- the share, for the row itself
judged : (c : After-share) → RowStands c.args.e.form c.args.e.width c.args.rows.now c.loop-i.from → let a = c.args in let l = c.loop-i in
    c.share.result ≡ leaf_of a.w.now (read_share (parted_rows a.rows.now a.places.now a.n a.premises.now) (substitute (image_rows a.words.now a.e.shape a.e.image) (row_in a.e.form a.e.width (drop l.from a.rows.now))) (a.n.own + a.n.added) (drop l.next a.w.now))
judged c h =
    let a = c.args in
    let l = c.loop-i in
    let r = c.target_row-size in
    let row = substitute (image_rows a.words.now a.e.shape a.e.image) (row_in a.e.form a.e.width (drop l.from a.rows.now)) in
    let alike : Alike (held_row a.n.columns r.new.target) row = subst (λ (k : ℕ). Alike (held_row k r.new.target) row) (sym c.requires.parted.1) (read_target_lem c.requires.image_here h _ l.target r.ensures.target_after) in
    c.share.ensures ∙ ap (leaf_of a.w.now) (share_alike (parted_rows a.rows.now a.places.now a.n a.premises.now) alike (a.n.own + a.n.added) (drop l.next a.w.now))

pub loop-i-init : goal.loop-i-init
loop-i-init c =
    let a = c.args in
    let z : c.row_count-count.result - 0 ≡ row_count a.rows.now a.p = omega (arith, c.row_count-count.ensures) in
    record {
      target_length = refl;
      sum_length = refl;
      from = omega (arith, take_none a.e.form a.e.width (drop (a.p + 1) a.rows.now));
      left = record { inside = c.requires.at_in_bounds; same = rw z };
    }

pub target_row-size-requires-clause-row_stands : goal.target_row-size-requires-clause-row_stands
target_row-size-requires-clause-row_stands c = stands (goal.at.target_row-size-requires-clause-row_stands c).In-loop-i

pub target_row-size-requires-clause-columns_in_bounds :
    goal.target_row-size-requires-clause-columns_in_bounds
target_row-size-requires-clause-columns_in_bounds c = omega (arith, columns_most c.requires.image_here)

pub share-requires-clause-columns_in_bounds : goal.share-requires-clause-columns_in_bounds
share-requires-clause-columns_in_bounds c =
    let at = goal.at.share-requires-clause-columns_in_bounds c in
    (omega (arith, columns_most c.requires.image_here, c.requires.parted.1), small at.After-target_row-size (stands at.In-loop-i))

pub share-requires-clause-columns_in_bounds_2 : goal.share-requires-clause-columns_in_bounds_2
share-requires-clause-columns_in_bounds_2 c = omega (arith, columns_most c.requires.image_here, c.requires.parted.1)

pub overflow_add-from-in-loop-i : goal.overflow_add-from-in-loop-i
overflow_add-from-in-loop-i c = omega (arith, (stands (goal.at.overflow_add-from-in-loop-i c).In-loop-i).inside, c.target_row-size.ensures.value)

pub returns-in_err-one : goal.returns-in_err-one
returns-in_err-one c =
    let at = goal.at.returns-in_err-one c in
    let l = c.loop-i in
    let count = c.row_count-count.result in
    let more : count - l.i ≡ suc (count - (l.i + 1)) = omega arith in
    rw c.from_residual.ensures (missing_word l.invariant.left _ more (sym c.in_err-one.was ∙ judged at.After-share (stands at.In-loop-i)))

pub loop-i-preserved : goal.loop-i-preserved
loop-i-preserved c =
    let at = goal.at.loop-i-preserved c in
    let a = c.args in
    let l = c.loop-i in
    let count = c.row_count-count.result in
    let more : count - l.i ≡ suc (count - (l.i + 1)) = omega arith in
    let s = c.target_row-size in
    let place = a.p + 1 + rows_take a.e.form a.e.width l.i (drop (a.p + 1) a.rows.now) in
    let size : s.result ≡ row_takes a.e.form a.e.width (drop place a.rows.now) = rw l.invariant.from at s.ensures.value in
    record {
      target_length = omega arith;
      sum_length = omega arith;
      from = omega (arith, l.invariant.from, size, take_next a.e.form a.e.width l.i (a.p + 1) a.rows.now);
      left = rw s.ensures.value (go_on l.invariant.left _ more c.in_ok-one.one (sym c.in_ok-one.was ∙ judged at.After-share (stands at.In-loop-i)));
    }

pub returns : goal.returns
returns c = all_judged c.loop-i.invariant.left (omega arith)
