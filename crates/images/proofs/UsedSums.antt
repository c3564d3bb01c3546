-- A sparse row with an image put in, one used column after the other: the columns rise, so each adds its own row of the image to the sum so far, which is
-- that of the row with its first coefficients.
use mathlib.Core.Path.{◌≡◌, refl, sym, ap, ap₂, ◌∙◌}
use mathlib.Core.List.{List, ◌++◌}
use Prim.Native.Nat.{ℕ, ◌+◌, ◌≤◌, ◌<◌}
use native.Mathlib.Omega.{arith}
use lib.IntN.{ℤ, pos, ◌+ℤ◌, ◌*ℤ◌, +ℤ_assoc, +ℤ_idr}
use lib.ListN.{length, get_or, drop}
use Rattle.rows.specs.Rows.{Row, constant_row, add, scale, combine, substitute}
use Rattle.words.specs.Words.{word, number}
use Rattle.words.specs.RowWords.{constant_at}
use Rattle.words.specs.SparseRows.{used_of, arrays_from, sparse_size, scatter}
use Rattle.words.specs.SparseForm.{SparseRowForm, StrictRow}
use Rattle.sparse_rows.specs.SparsePlaces.{column_low}
use Rattle.row_buffers.specs.HeldRows.{stride, held_row}
use Rattle.row_buffers.specs.Entries.{entry}
use Rattle.row_buffers.proofs.Entries.{entry_add, entry_scale, entry_combine_zeros, entry_combine_set}
use Rattle.row_buffers.specs.Spread.{written, NarrowRow}
use Rattle.row_buffers.proofs.Spread.{spread_alike}
use Rattle.row_buffers.specs.EntryLimits.{sum_limit, SmallRow}
use Rattle.row_buffers.proofs.EntryLimits.{small_weaken}
use Rattle.row_buffers.specs.FlatRows.{Narrow}
use Rattle.row_buffers.proofs.FlatRows.{narrow_substitute}
use Rattle.row_buffers.proofs.RowsOfWords.{within_limited}
use Rattle.row_buffers.specs.Scattered.{part_row}
use Rattle.row_buffers.proofs.Scattered.{part_next, part_length, part_zero, part_within}
use Rattle.row_buffers.proofs.Starting.{held_small, added_over}
use Rattle.entailments.specs.ImageSizes.{SmallImage}
use Rattle.entailments.proofs.SumsFit.{small_target}

module _ (image : List Row) (m : ℕ) (rows : List ℤ) (from : ℕ) where
  abbrev here : List ℤ
  here = drop from rows

  abbrev used : ℕ
  used = used_of m here

  -- with the first j coefficients
  abbrev pub part_put : ℕ → Row
  part_put j = substitute image (part_row m rows from j)

  entry_put : (i : ℕ) (r : Row) → entry i (substitute image r) ≡ entry i (constant_row r.constant) +ℤ entry i (combine r.coefficients image)
  unfolding substitute
  entry_put i r = entry_add i (constant_row r.constant) (combine r.coefficients image)

  pub none_put : (columns : ℕ) (t : List ℤ) → written columns (constant_row (constant_at rows from)) t ≡ written columns (part_put 0) t
  unfolding part_row scatter
  none_put columns t = ap (λ (l : List ℤ). l ++ drop (stride columns) t) (spread_alike (stride columns) (record { same = λ i. sym (same i) }))
    where
      same : (i : ℕ) → entry i (part_put 0) ≡ entry i (constant_row (constant_at rows from))
      same i =
          let c = entry i (constant_row (constant_at rows from)) in
          entry_put i (part_row m rows from 0) ∙ (ap (λ (x : ℤ). c +ℤ x) (entry_combine_zeros i m image) ∙ +ℤ_idr c)

  module _ (long : from + sparse_size used ≤ length rows) (f : SparseRowForm m here) (strict : StrictRow m here) (columns : ℕ) (narrow : Narrow columns image) (small : SmallImage image) where
    narrow_part : (j : ℕ) → NarrowRow columns (part_put j)
    narrow_part j = narrow_substitute (part_row m rows from j) narrow

    -- the sum so far can be added to
    pub part_small : (j : ℕ) (t u : List ℤ) → u ≡ written columns (part_put j) t → SmallRow sum_limit (held_row columns u)
    part_small j t u e = held_small columns (part_put j) (narrow_part j) t u e (small_weaken (omega arith) (small_target small (within_limited (part_within m rows from long f j))))

    -- a column more
    module _ (j : ℕ) (h : j < used) where
      abbrev c : ℕ
      c = number m (word rows (from + arrays_from + j))

      abbrev x : ℤ
      x = word rows (from + arrays_from + used + j)

      abbrev row : Row
      row = get_or image c (constant_row (pos 0))

      added : (i : ℕ) → entry i (add (part_put j) (scale x row)) ≡ entry i (part_put (j + 1))
      added i =
          let r = part_row m rows from j in
          let constant : entry i (constant_row r.constant) ≡ entry i (constant_row (part_row m rows from (j + 1)).constant) = unfold part_row in refl in
          let k = entry i (constant_row r.constant) in
          let so_far = entry i (combine r.coefficients image) in
          entry_add i (part_put j) (scale x row) ∙ ap₂ (λ (a b : ℤ). a +ℤ b) (entry_put i r) (entry_scale i x row) ∙ +ℤ_assoc k so_far (x *ℤ entry i row)
          ∙ ap (λ (z : ℤ). k +ℤ z) (sym (entry_combine_set i r.coefficients image c x (omega (arith, part_length m rows from j, column_low m rows from j h f)) (part_zero m rows from long strict j h)))
          ∙ ap₂ (λ (a : ℤ) (l : List ℤ). a +ℤ entry i (combine l image)) constant (sym (part_next m rows from long j h)) ∙ sym (entry_put i (part_row m rows from (j + 1)))

      pub more_put : (t u v : List ℤ) → u ≡ written columns (part_put j) t → v ≡ written columns (add (held_row columns u) (scale x row)) u → v ≡ written columns (part_put (j + 1)) t
      more_put t u v e g =
          added_over columns (part_put j) (narrow_part j) t u e (scale x row) v g ∙ ap (λ (l : List ℤ). l ++ drop (stride columns) t) (spread_alike (stride columns) (record { same = added }))
