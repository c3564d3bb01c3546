-- The zeros that are stored are the entries of the row of zeros.
use Rattle.std.proofs.Common.{◌≡◌, ap, ◌∙◌, ℕ, pos, List, ◌++◌, ℤ, length, take, drop, arith, length-take}
use Rattle.std.specs.Prelude.{replicate}
use Rattle.row_buffers.specs.HeldRows.{stride}
use Rattle.row_buffers.proofs.Spread.{spread_zeros}
use Rattle.row_buffers.proofs.clear_row.Goals as goal

pub returns : goal.returns
returns c =
    let n = stride c.args.columns in
    let t = c.args.target.now in
    let e : length (take n t) ≡ n = omega (arith, length-take n t) in
    ap (λ (l : List ℤ). l ++ drop n t) (c.fill.ensures.after (λ y h. h) ∙ ap (λ (k : ℕ). replicate k (pos 0)) e ∙ spread_zeros n)
