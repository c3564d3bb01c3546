-- A part of a buffer that is passed on: all that lies behind n rows. A row that is written there is pushed.
use mathlib.Core.Path.{◌≡◌}
use mathlib.Core.List.{List, ◌++◌, append-nil}
use Prim.Native.Nat.{ℕ, ◌+◌, ◌*◌, ◌-◌, ◌≤◌, ◌<◌}
use native.Mathlib.Omega.{arith}
use lib.IntN.{ℤ}
use lib.ListN.{length, take, drop, length-take, length-drop, drop_of_length-le}
use lib.Seq.{take_all}
use Rattle.rows.specs.Rows.{Row}
use Rattle.row_buffers.specs.HeldRows.{stride}
use Rattle.row_buffers.specs.Spread.{written}
use Rattle.row_buffers.specs.FlatRows.{pushed}

module _ (l : List ℤ) (columns n : ℕ) (h : n * stride columns + stride columns ≤ length l) where
  pub part_long : columns < length (take (length l - n * stride columns) (drop (n * stride columns) l))
  part_long = omega (arith, length-take (length l - n * stride columns) (drop (n * stride columns) l), length-drop (n * stride columns) l)

  pub part_back : (r : Row) (ys : List ℤ) → ys ≡ written columns r (take (length l - n * stride columns) (drop (n * stride columns) l))
      → take (n * stride columns) l ++ (ys ++ drop (length l - n * stride columns) (drop (n * stride columns) l)) ≡ pushed columns n r l
  unfolding pushed
  part_back r ys e =
      let k : length (drop (n * stride columns) l) ≤ length l - n * stride columns = omega (arith, length-drop (n * stride columns) l) in
      rw (e, take_all (length l - n * stride columns) (drop (n * stride columns) l) k, drop_of_length-le (drop (n * stride columns) l) k, append-nil (written columns r (drop (n * stride columns) l)))
