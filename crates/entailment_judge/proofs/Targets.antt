-- A target row and a weighted sum, read from the buffers that they were written to, are alike, because no row is wider than the buffer.
use mathlib.Core.Path.{◌≡◌}
use mathlib.Core.List.{List}
use Prim.Native.Nat.{ℕ}
use lib.IntN.{ℤ}
use lib.ListN.{drop}
use Rattle.words.specs.StoredRows.{row_in}
use Rattle.rows.specs.Rows.{Row, combine, substitute}
use Rattle.row_buffers.specs.HeldRows.{held_row}
use Rattle.row_buffers.specs.Entries.{Alike}
use Rattle.row_buffers.specs.Spread.{written}
use Rattle.row_buffers.proofs.Spread.{written_alike}
use Rattle.row_buffers.specs.EntryLimits.{target_limit, SmallRow}
use Rattle.row_buffers.proofs.EntryLimits.{small_alike}
use Rattle.row_buffers.proofs.RowsOfWords.{within_limited}
use Rattle.row_buffers.specs.FlatRows.{Narrow}
use Rattle.row_buffers.proofs.FlatRows.{narrow_combine, narrow_substitute}
use Rattle.entailments.specs.Forms.{ImageHere}
use Rattle.entailments.specs.Meaning.{image_rows}
use Rattle.entailments.specs.declared.Image.{Image}
use Rattle.entailments.specs.declared.Shape.{Shape}
use Rattle.entailments.proofs.ImageSizes.{image_narrow, image_small}
use Rattle.entailments.proofs.SumsFit.{small_target}
use Rattle.words.specs.declared.StoredForm.{StoredForm}
use Rattle.certificate_readers.specs.Disjuncts.{RowStands, stands_within}

-- ---- a target row

module _ {words : List ℤ} {s : Shape} {image : Image} {columns m : ℕ} (h : ImageHere words s image columns m) {form : StoredForm} {rows : List ℤ} {from : ℕ} (stands : RowStands form m rows from) (t u : List ℤ) where
  abbrev target : Row
  target = substitute (image_rows words s image) (row_in form m (drop from rows))

  pub read_target_lem : t ≡ written columns target u → Alike (held_row columns t) target
  read_target_lem = written_alike columns target t u (narrow_substitute (row_in form m (drop from rows)) (image_narrow h))

  pub target_small : t ≡ written columns target u → SmallRow target_limit (held_row columns t)
  target_small e = small_alike (read_target_lem e) (small_target (image_small h) (within_limited (stands_within stands)))

-- ---- a weighted sum

pub read_sum : {columns : ℕ} {ps : List Row} → Narrow columns ps → (ws s v : List ℤ) → s ≡ written columns (combine ws ps) v → Alike (held_row columns s) (combine ws ps)
read_sum {columns} {ps} h ws s v = written_alike columns (combine ws ps) s v (narrow_combine ws h)
