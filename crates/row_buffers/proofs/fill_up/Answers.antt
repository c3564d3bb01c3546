-- Zeros are the entries of the row behind its columns, where it has no coefficient.
use Rattle.std.proofs.Common.{◌≡◌, ap, ◌∙◌, ℕ, ◌-◌, pos, length, take, drop, arith, length-take, length-drop}
use Rattle.std.specs.Prelude.{replicate}
use Rattle.row_buffers.specs.HeldRows.{stride}
use Rattle.row_buffers.proofs.Spread.{filled_up}
use Rattle.row_buffers.proofs.fill_up.Goals as goal

pub returns : goal.returns
returns c =
    let a = c.args in
    let from = stride a.m in
    let n = stride a.columns - from in
    let t = a.target.now in
    let e : length (take n (drop from t)) ≡ n = omega (arith, length-take n (drop from t), length-drop from t) in
    filled_up a.m a.columns t _ (omega arith) (omega arith) (c.fill.ensures.after (λ y h. h) ∙ ap (λ (k : ℕ). replicate k (pos 0)) e)
