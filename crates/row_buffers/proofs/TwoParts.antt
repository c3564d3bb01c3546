-- A weighted sum of rows in two parts: the sum of the first, with that of the second added to it.
use mathlib.Core.Path.{◌≡◌, sym, ap, ◌∙◌}
use mathlib.Core.List.{List, ◌++◌}
use Prim.Native.Nat.{ℕ, ◌+◌, ◌≤◌, min}
use native.Mathlib.Omega.{arith}
use lib.IntN.{ℤ}
use lib.ListN.{length, take, drop}
use lib.Seq.{take-add, length-take-le}
use Rattle.rows.specs.Rows.{Row, add, combine}
use Rattle.words.specs.Limits.{most_rows}
use Rattle.numbers.specs.Small.{Small}
use Rattle.row_buffers.specs.HeldRows.{stride, held_row}
use Rattle.row_buffers.specs.Entries.{entry}
use Rattle.row_buffers.proofs.Entries.{entry_add, entry_combine_both}
use Rattle.row_buffers.specs.Spread.{written}
use Rattle.row_buffers.proofs.Spread.{spread_alike}
use Rattle.row_buffers.specs.EntryLimits.{weight_limit, entry_limit, disjunct_limit, SmallRow, SmallRows}
use Rattle.row_buffers.proofs.EntryLimits.{small_combine}
use Rattle.row_buffers.specs.FlatRows.{Narrow}
use Rattle.row_buffers.proofs.FlatRows.{narrow_combine}
use Rattle.row_buffers.proofs.Starting.{held_small, added_over}

module _ (columns : ℕ) (l : List ℤ) (own : ℕ) (rs : List Row) (narrow : Narrow columns rs) (many : length rs ≡ own) (t u : List ℤ) (e : u ≡ written columns (combine (take own l) rs) t) where
  -- what the second can be added to
  pub first_small : own ≤ most_rows → Small weight_limit (take own l) → SmallRows entry_limit rs → SmallRow disjunct_limit (held_row columns u)
  first_small few small h =
      let fewer : min (length (take own l)) (length rs) ≤ most_rows = omega arith in
      held_small columns (combine (take own l) rs) (narrow_combine (take own l) narrow) t u e (small_combine weight_limit most_rows (take own l) fewer small h)

  pub both_summed : own ≤ length l → (n : ℕ) (ss : List Row) (v : List ℤ) → v ≡ written columns (add (held_row columns u) (combine (take n (drop own l)) ss)) u → v ≡ written columns (combine (take (own + n) l) (rs ++ ss)) t
  both_summed long n ss v f =
      added_over columns (combine (take own l) rs) (narrow_combine (take own l) narrow) t u e (combine (take n (drop own l)) ss) v f
      ∙ ap (λ (x : List ℤ). x ++ drop (stride columns) t) (spread_alike (stride columns) (record { same = same }))
    where
      same : (i : ℕ) → entry i (add (combine (take own l) rs) (combine (take n (drop own l)) ss)) ≡ entry i (combine (take (own + n) l) (rs ++ ss))
      same i =
          entry_add i (combine (take own l) rs) (combine (take n (drop own l)) ss)
          ∙ sym (rw (take-add own n l) (entry_combine_both i (take own l) (take n (drop own l)) rs ss (length-take-le own l long ∙ sym many)))
