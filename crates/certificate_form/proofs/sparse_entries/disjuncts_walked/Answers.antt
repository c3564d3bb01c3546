-- After i turns the first i disjuncts have passed test 5, and `place` is where they end.
use Rattle.std.proofs.Common.{◌≡◌, ℕ, ◌+◌, ◌≤◌, Bool, true, false, List, ℤ, length, drop, arith, refl, sym, ap, ap₂, ◌∙◌}
use Rattle.std.proofs.Math.Bool.{◌&&◌, and-false}
use Rattle.std.proofs.Math.Dec.{ltb, leb, leb→le}
use Rattle.basics.proofs.Booleans.{holds, and_l}
use Rattle.words.specs.declared.StoredForm.TheVariants.{Sparse}
use Rattle.words.specs.SparseRows.{sparse_words}
use Rattle.words.specs.StoredRows.{rows_strict_in}
use Rattle.certificates.specs.CertificateWords.{row_count, disjuncts_end}
use Rattle.certificates.specs.CertificateTests.{disjunct_passes, disjuncts_pass, disjuncts_strict}
use Rattle.sparse_rows.specs.Walks.{sparse_rows_filled, rows_hold, rows_walk, rows_walked, none_failed, some_passed}
use Rattle.certificate_readers.specs.DisjunctEnds.{end_next}
use Rattle.certificate_form.specs.DisjunctLaws.{pass_next, strict_next}
use Rattle.certificate_form.specs.DisjunctWalks.{disjuncts_filled, filled_next, one_passes, one_fails, all_pass}
use Rattle.certificate_form.proofs.sparse_entries.disjuncts_walked.Goals as goal
use Rattle.certificate_form.proofs.sparse_entries.disjuncts_walked.Goals.{After-word_within-counted, After-rows_walked}

pub loop-i-init : goal.loop-i-init
unfolding disjuncts_pass disjuncts_end disjuncts_strict disjuncts_filled
loop-i-init c = record { near = omega arith; ends = refl; pass = refl; strictly = refl; filling = refl }

-- the disjunct at hand
module _ (c : After-word_within-counted) where
  abbrev rows : List ℤ
  rows = c.args.rows.now

  abbrev place : ℕ
  place = c.loop-i.place

  abbrev starts : Bool
  starts = ltb place (length rows) && c.word_within-counted.result

  -- it passes if its count does and its rows hold
  tested : disjunct_passes Sparse rows c.args.columns place ≡ starts && rows_hold rows (place + 1) c.args.columns (row_count rows place)
  tested = one_passes rows c.args.columns place ∙ ap (λ (b : Bool). (ltb place (length rows) && b) && rows_hold rows (place + 1) c.args.columns (row_count rows place)) (sym c.word_within-counted.ensures)

  -- it is the one that the loop stands at
  found : disjunct_passes Sparse rows c.args.columns (disjuncts_end Sparse rows c.args.columns c.loop-i.i c.args.at) ≡ disjunct_passes Sparse rows c.args.columns place
  found = ap (disjunct_passes Sparse rows c.args.columns) (sym c.loop-i.invariant.ends)

pub returns-then-not-starts-counted : goal.returns-then-not-starts-counted
returns-then-not-starts-counted c =
    let w = (goal.at.returns-then-not-starts-counted c).After-word_within-counted in
    let a = c.args in
    one_fails (rows w) a.columns a.count a.at c.loop-i.i c.loop-i-test.true (found w ∙ (tested w ∙ ap (λ (b : Bool). b && rows_hold (rows w) (place w + 1) a.columns (row_count (rows w) (place w))) c.if-not-starts-counted.true))

-- what the walk over its rows came to, with the count that was read
walk_is : (c : After-rows_walked) → c.rows_walked.result ≡ rows_walk c.args.rows.now (c.loop-i.place + 1) c.args.columns (row_count c.args.rows.now c.loop-i.place)
walk_is c = rw c.number_at-n.ensures.value at c.rows_walked.ensures

pub returns-in_err-walked : goal.returns-in_err-walked
returns-in_err-walked c =
    let o = (goal.at.returns-in_err-walked c).After-rows_walked in
    let w = (goal.at.returns-in_err-walked c).After-word_within-counted in
    let a = c.args in
    let n = row_count (rows w) (place w) in
    let no : rows_hold (rows w) (place w + 1) a.columns n ≡ false = none_failed _ (rows_walked (rows w) (place w + 1) a.columns n) (sym (walk_is o) ∙ c.in_err-walked.was) in
    rw c.from_residual.ensures
    (one_fails (rows w) a.columns a.count a.at c.loop-i.i c.loop-i-test.true (found w ∙ (tested w ∙ (ap (λ (b : Bool). starts w && b) no ∙ and-false (starts w)))))

pub loop-i-preserved : goal.loop-i-preserved
loop-i-preserved c =
    let o = (goal.at.loop-i-preserved c).After-rows_walked in
    let w = (goal.at.loop-i-preserved c).After-word_within-counted in
    let a = c.args in
    let l = c.loop-i in
    let n = row_count (rows w) (place w) in
    let (held, is) = some_passed _ (rows_walked (rows w) (place w + 1) a.columns n) c.in_ok-walked.walked (sym (walk_is o) ∙ c.in_ok-walked.was) in
    let ends : place w + 1 + sparse_words a.columns n (drop (place w + 1) (rows w)) ≤ length (rows w) = leb→le _ _ (and_l (leb (place w + 1 + sparse_words a.columns n (drop (place w + 1) (rows w))) (length (rows w))) _ (holds held)) in
    let one : disjunct_passes Sparse (rows w) a.columns (disjuncts_end Sparse (rows w) a.columns l.i a.at) ≡ true = found w ∙ (tested w ∙ ap₂ (λ (p q : Bool). p && q) c.if-not-starts-counted.false held) in
    record {
      near = rw is (omega (arith, ends, c.requires.at_bound.1));
      ends = rw (end_next Sparse (rows w) a.columns l.i a.at, ← l.invariant.ends, is) (omega arith);
      pass = pass_next Sparse (rows w) a.columns l.i a.at ∙ ap₂ (λ (p q : Bool). p && q) l.invariant.pass one;
      strictly = rw (strict_next Sparse (rows w) a.columns l.i a.at, ← l.invariant.ends, is) (ap (λ (b : Bool). b && rows_strict_in Sparse (rows w) (place w + 1) a.columns n) l.invariant.strictly);
      filling = rw (filled_next (rows w) a.columns l.i a.at, ← l.invariant.ends, is) (ap (λ (b : Bool). b && sparse_rows_filled a.columns n (drop (place w + 1) (rows w))) l.invariant.filling);
    }

pub returns : goal.returns
returns c =
    let l = c.loop-i in
    let a = c.args in
    let e : l.i ≡ a.count = omega arith in
    rw (l.invariant.strictly, l.invariant.filling, l.invariant.ends, e) (all_pass a.rows.now a.columns a.count a.at (rw e at l.invariant.pass))
