-- A word is the next coefficient of the row; what `fill_up` writes behind them are the row's entries there, since it has none.
use Rattle.std.proofs.Common.{◌≡◌, sym, ap, ap₂, ◌∙◌, List, ◌++◌, ℕ, suc, ◌+◌, ◌-◌, ◌≤◌, ◌<◌, ℤ, pos, get_or, take, drop, arith, rules, w32, w64, SFits, to_z, of_z, to_z-of_z, length-take, length-drop}
use mir.Facts.{sfits_widen}
use Rattle.std.proofs.Math.Seq.{drop-drop}
use Rattle.rows.specs.Rows.{Row}
use Rattle.words.specs.Words.{word}
use Rattle.words.specs.RowWords.{row_of}
use Rattle.numbers.specs.Magnitudes.{back64}
use Rattle.row_buffers.specs.HeldRows.{stride, held_row}
use Rattle.row_buffers.specs.Spread.{NarrowRow, spread, written}
use Rattle.row_buffers.proofs.Spread.{spread_none, spread_store, spread_alike, behind_spread, written_alike}
use Rattle.row_buffers.proofs.RowsOfWords.{narrow_row, entry_constant, entry_coefficient}
use Rattle.row_buffers.proofs.Adding.{part_at}
use Rattle.row_buffers.proofs.copy_row.Goals as goal
use Rattle.row_buffers.proofs.copy_row.Goals.{In-loop-i}

-- a narrow row that was written, filled up
filled : (m columns : ℕ) (r : Row) (t u v : List ℤ) → m ≤ columns → NarrowRow m r → u ≡ written m r t → v ≡ written columns (held_row m u) u → v ≡ written columns r t
filled m columns r t u v h n e f =
    let k : stride m + (columns - m) ≡ stride columns = omega arith in
    f
    ∙ ap₂ (λ (a b : List ℤ). a ++ b) (spread_alike (stride columns) (written_alike m r u t n e))
    (rw k at (sym (drop-drop (columns - m) (stride m) u) ∙ ap (drop (columns - m)) (ap (drop (stride m)) e ∙ behind_spread (stride m) r (drop (stride m) t)) ∙ drop-drop (columns - m) (stride m) t))

pub loop-i-init : goal.loop-i-init
loop-i-init c =
    let a = c.args in
    let r = row_of a.m (drop a.place a.words.now) in
    spread_store r 0 a.target.now a.target.now (to_z w64 (of_z w64 c.constant_at.result)) (omega arith) (spread_none r a.target.now)
    (back64 c.constant_at.type_inv ∙ c.constant_at.ensures ∙ sym (entry_constant a.m a.place a.words.now))

inside : (c : In-loop-i) → c.loop-i.i < c.args.m
inside c =
    let from = c.coefficients_from-coefficients.result in
    omega (arith, length-take (from + c.args.m - from) (drop from c.args.words.now))

pub loop-i-preserved : goal.loop-i-preserved
loop-i-preserved c =
    let l = c.loop-i in
    let a = c.args in
    let r = row_of a.m (drop a.place a.words.now) in
    let from = c.coefficients_from-coefficients.result in
    let k = inside (goal.at.loop-i-preserved c).In-loop-i in
    let f : SFits w32 (get_or (take (from + a.m - from) (drop from a.words.now)) l.i (pos 0)) = search rules in
    let g : SFits w64 (get_or (take (from + a.m - from) (drop from a.words.now)) l.i (pos 0)) = sfits_widen tt f in
    let x : to_z w64 (of_z w64 (to_z w32 (of_z w32 (get_or (take (from + a.m - from) (drop from a.words.now)) l.i (pos 0))))) ≡ word a.words.now (from + l.i) =
    rw (to_z-of_z f) (to_z-of_z g ∙ part_at a.words.now from a.m l.i k) in
    let next : 1 + l.i + 1 ≡ 1 + (l.i + 1) = omega arith in
    let p : suc l.i ≡ 1 + l.i = omega arith in
    spread_store r (1 + l.i) a.target.now l.target _ (omega arith) l.invariant
    (x ∙ ap (λ (from : ℕ). word a.words.now (from + l.i)) c.coefficients_from-coefficients.ensures
    ∙ sym (rw p at (entry_coefficient a.m a.place l.i a.words.now (omega arith))))
    ∙ ap (λ (j : ℕ). spread j r ++ drop j a.target.now) next

pub returns : goal.returns
returns c =
    let l = c.loop-i in
    let a = c.args in
    let from = c.coefficients_from-coefficients.result in
    let e : l.i ≡ a.m = omega (arith, length-take (from + a.m - from) (drop from a.words.now), length-drop from a.words.now, c.coefficients_from-coefficients.ensures) in
    filled a.m a.columns (row_of a.m (drop a.place a.words.now)) a.target.now l.target _ c.requires.m_le_columns.0 (narrow_row a.m (drop a.place a.words.now)) (rw e at l.invariant) c.fill_up.ensures
