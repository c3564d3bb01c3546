-- `inside_rows` meets its contract: `rows_pass` grows at its end. Each row ends where the last does, or before.
use Rattle.std.proofs.Common.{◌≡◌, ◌*◌, ◌≤◌, ℕ, suc, refl, ap, add-one, arith, mul-le-mul_right, suc-mul}
use Rattle.words.specs.RowWords.{row_size, rows_pass}
use Rattle.reading.proofs.inside_rows.Goals as goal

pub loop-i-init : goal.loop-i-init
unfolding rows_pass
loop-i-init c = (omega arith, refl)

-- row i is all there
pub inside_row-one-requires : goal.inside_row-one-requires
inside_row-one-requires c =
    let s = c.row_words-size.result in
    let i = c.loop-i.i in
    let e : c.args.count * s ≡ c.args.count * row_size c.args.columns = ap (λ (n : ℕ). c.args.count * n) c.row_words-size.ensures in
    let b : suc i ≤ c.args.count = omega arith in
    omega (arith, e, c.row_words-size.ensures, c.requires.columns_in_bounds, c.loop-i.invariant.0, mul-le-mul_right s b, suc-mul i s)

pub loop-i-preserved : goal.loop-i-preserved
unfolding rows_pass
loop-i-preserved c =
    let s = c.row_words-size.result in
    let l = c.loop-i in
    (omega (arith, l.invariant.0, add-one l.i, suc-mul l.i s), rw (add-one, ← c.row_words-size.ensures, ← l.invariant.0, ← l.invariant.1, ← c.inside_row-one.ensures) refl)
