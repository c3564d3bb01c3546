-- The limits of an entailment: its premises are few and small, its image is small, and the rows of its targets are within the limits of words.
-- Each entailment that has its form is within them, whatever its kind, and so it is with a split's row behind its premises.
use Rattle.std.specs.Prelude.{◌≡◌, ℕ, ◌+◌, ◌≤◌, ℤ, length, drop}
use mathlib.Core.List.{List, Memᴰ}
use Rattle.words.specs.declared.StoredForm.{StoredForm}
use Rattle.words.specs.StoredRows.{rows_in}
use Rattle.certificates.specs.Certificate.{Disjunct}
use Rattle.certificates.specs.Entailments as certificates
use Rattle.certificate_readers.specs.Disjuncts.{DisjunctHere}
use Rattle.row_buffers.specs.AllRows.{AllRows}
use Rattle.row_buffers.specs.EntryLimits.{most_buffer_rows, entry_limit, SmallRows, LimitedRow}
use Rattle.entailments.specs.ImageSizes.{SmallImage}

-- with so many splits left, each of which adds a premise
pub record Bounded (d : ℕ) (e : certificates.Entailment) : Type 0 where
  pub few : length e.premises + d ≤ most_buffer_rows
  pub premises : SmallRows entry_limit e.premises
  pub image : SmallImage e.image
  pub targets : {t : Disjunct} → Memᴰ t e.targets → AllRows LimitedRow t

-- ---- an entailment that has its form

-- where a disjunct of an entry stands
pub record Placed (form : StoredForm) (rows : List ℤ) (m : ℕ) (t : Disjunct) : Type 0 where
  pub from : ℕ
  pub count : ℕ
  pub is : t ≡ rows_in form m count (drop from rows)
  pub here : DisjunctHere form m rows from count
