-- What judging wants of the premises' buffer, and the entailment whose premises are the rows that stand there.
use Rattle.std.specs.Prelude.{List, ℕ, ◌+◌, ◌≤◌, ℤ, length}
use Rattle.std.proofs.Common.{arith}
use Rattle.rows.specs.Rows.{Row}
use Rattle.words.specs.Limits.{most_splits}
use Rattle.certificates.specs.Entailments as certificates
use Rattle.row_buffers.specs.HeldRows.{held_rows}
use Rattle.row_buffers.specs.EntryLimits.{most_buffer_rows, entry_limit, Capacity, SmallRows}
use Rattle.row_buffers.proofs.FlatRows.{buffered_small, buffered_inside}
use Rattle.entailments.specs.declared.Entailment.{Entailment}
use Rattle.entailments.specs.Forms.{EntailmentForm}
use Rattle.entailments.specs.Filled.{Filled}
use Rattle.entailments.proofs.ImageSizes.{columns_most}
use Rattle.entailments.proofs.Bounds.{bounded}

-- n premises
pub record Premises (columns n : ℕ) (buffer : List ℤ) : Type 0 where
  pub capacity : Capacity columns n (length buffer)
  pub small : SmallRows entry_limit (held_rows columns n buffer)

-- the same entailment with other premises
abbrev pub premised : certificates.Entailment → List Row → certificates.Entailment
premised e ps = record { columns = e.columns; premises = ps; image = e.image; targets = e.targets }

-- and with the first n rows of a buffer
abbrev pub held : certificates.Entailment → ℕ → List ℤ → certificates.Entailment
held e n buffer = premised e (held_rows e.columns n buffer)

-- ---- rows that give it

module _ {words rows : List ℤ} {e : Entailment} (form : EntailmentForm words rows e) {n : ℕ} {buffer : List ℤ} (f : Filled words rows e n buffer) where
  pub filled_few : n + most_splits ≤ most_buffer_rows
  filled_few = omega (arith, f.count, (bounded form).few)

  pub filled_premises : Premises e.columns n buffer
  filled_premises =
      record {
        capacity = record { narrow = omega (arith, columns_most form.image_here); few = omega (arith, filled_few); inside = buffered_inside f };
        small = buffered_small f (bounded form).premises;
      }
