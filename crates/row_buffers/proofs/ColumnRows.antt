-- The row that is one column: its entry there is 1 and every other is 0, so it is small, and narrow where the column is there. And blocks of
-- such rows.
use Rattle.std.specs.Prelude.{◌≡◌, refl, ◌≢◌, pos, nat_abs, length, get_or}
use Rattle.std.proofs.Common.{ap, le_refl, add-zero, arith}
use Prim.Native.Nat.{ℕ, zero, suc, ◌+◌, ◌<◌, ◌≤◌, zero-le}
use Rattle.rows.specs.Rows.{Row}
use Rattle.rows.specs.Columns.{unit, column, columns}
use Rattle.row_buffers.specs.AllRows.{AllRows, none, one}
use Rattle.row_buffers.specs.Entries.{entry}
use Rattle.row_buffers.specs.Spread.{NarrowRow}
use Rattle.row_buffers.specs.EntryLimits.{SmallRow}
use Rattle.row_buffers.specs.FlatRows.{Narrow}

unit_same : (c : ℕ) → get_or (unit c) c (pos 0) ≡ pos 1
unfolding unit
unit_same zero = refl
unit_same (suc c) = unit_same c

unit_other : (c i : ℕ) → i ≢ c → get_or (unit c) i (pos 0) ≡ pos 0
unfolding unit
unit_other zero zero h = absurd (h refl)
unit_other zero (suc i) h = refl
unit_other (suc c) zero h = refl
unit_other (suc c) (suc i) h = unit_other c i (λ e. h (ap suc e))

unit_small : (c i : ℕ) → nat_abs (get_or (unit c) i (pos 0)) ≤ 1
unfolding unit
unit_small zero zero = le_refl 1
unit_small zero (suc i) = zero-le
unit_small (suc c) zero = zero-le
unit_small (suc c) (suc i) = unit_small c i

length_unit : (c : ℕ) → length (unit c) ≡ suc c
unfolding unit
length_unit zero = refl
length_unit (suc c) = ap suc (length_unit c)

-- its place in a row is 1 + c
pub entry_column : (c : ℕ) → entry (1 + c) (column c) ≡ pos 1
unfolding entry column
entry_column c = let e : 1 + c ≡ suc c = omega arith in rw e (unit_same c)

pub entry_other : (c i : ℕ) → i ≢ 1 + c → entry i (column c) ≡ pos 0
unfolding entry column
entry_other c zero h = refl
entry_other c (suc i) h = unit_other c i (λ e. h (omega arith))

pub small_column : (c : ℕ) → SmallRow 1 (column c)
small_column c = record { bound = go }
  where
    go : (i : ℕ) → nat_abs (entry i (column c)) ≤ 1
    go zero = unfold entry column in zero-le
    go (suc i) = unfold entry column in unit_small c i

pub narrow_column : (columns c : ℕ) → c < columns → NarrowRow columns (column c)
unfolding column
narrow_column columns c h = omega (arith, length_unit c)

-- ---- blocks

pub all_columns : {P : Row → Type 0} (c n : ℕ) → ((j : ℕ) → j < n → P (column (c + j))) → AllRows P (columns c n)
unfolding columns
all_columns c zero h = none
all_columns c (suc n) h =
    one (rw (add-zero c) at (h 0 (omega arith))) (all_columns (suc c) n (λ j k. let e : c + suc j ≡ suc c + j = omega arith in rw e at (h (suc j) (omega arith))))

pub narrow_columns : (width c n : ℕ) → c + n ≤ width → Narrow width (columns c n)
narrow_columns width c n h = all_columns c n (λ j k. narrow_column width (c + j) (omega arith))
