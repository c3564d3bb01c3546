-- One entry of a buffer's row, stored: what a weighted column adds to the row, since the column's other entries are 0.
use mathlib.Core.Path.{◌≡◌, sym, ap, ap₂, ◌∙◌}
use mathlib.Core.Logic.{◌≢◌}
use mathlib.Core.List.{List, ◌++◌}
use Prim.Native.Nat.{ℕ, ◌+◌, ◌<◌}
use native.Mathlib.Omega.{arith}
use lib.IntN.{ℤ, pos, ◌+ℤ◌, ◌*ℤ◌, +ℤ_idr, *ℤ-zero}
use lib.ListN.{length, get_or, drop, set}
use lib.Seq.{set-append_left}
use Rattle.rows.specs.Rows.{Row, add, scale}
use Rattle.rows.specs.Columns.{column}
use Rattle.row_buffers.specs.HeldRows.{stride, held_row}
use Rattle.row_buffers.specs.Entries.{entry}
use Rattle.row_buffers.specs.Spread.{spread, written}
use Rattle.row_buffers.proofs.Spread.{length_spread, spread_self, entry_held}
use Rattle.row_buffers.proofs.Scattered.{spread_set}
use Rattle.row_buffers.proofs.Adding.{entry_sum}
use Rattle.row_buffers.proofs.ColumnRows.{entry_column, entry_other}

-- y is the entry before, a the weight
pub entry_stored : (columns : ℕ) (t : List ℤ) → columns < length t → (c : ℕ) (x y a w : ℤ) → c < columns → x ≡ y +ℤ a *ℤ pos 1 → y ≡ get_or t (1 + c) (pos 0) → a ≡ w
    → set t (1 + c) x ≡ written columns (add (held_row columns t) (scale w (column c))) t
entry_stored columns t long c x y a w h ex ey ea =
    ap (λ (l : List ℤ). set l (1 + c) x) (spread_self columns t long)
    ∙ set-append_left (spread (stride columns) (held_row columns t)) (drop (stride columns) t) (1 + c) x (omega (arith, length_spread (stride columns) (held_row columns t)))
    ∙ ap (λ (l : List ℤ). l ++ drop (stride columns) t) (spread_set (stride columns) (1 + c) (held_row columns t) sum x (omega arith) new other)
  where
    sum : Row
    sum = add (held_row columns t) (scale w (column c))

    new : x ≡ entry (1 + c) sum
    new = rw (entry_sum (1 + c) w (column c) (held_row columns t), entry_column c, entry_held columns (1 + c) t (omega arith)) (ex ∙ ap₂ (λ (l m : ℤ). l +ℤ m *ℤ pos 1) ey ea)

    other : (i : ℕ) → i ≢ 1 + c → entry i (held_row columns t) ≡ entry i sum
    other i d = sym (rw (entry_sum i w (column c) (held_row columns t), entry_other c i d, *ℤ-zero w) (+ℤ_idr (entry i (held_row columns t))))
