-- Trimming again changes nothing: what is kept of a certificate, renumbered, is kept of the trimmed one, and that is all it has. So no disjunct and no
-- witness goes, and no number changes.
use Rattle.std.specs.Prelude.{Bool, ℕ, ◌<◌, ℤ, length}
use mathlib.Core.List.Memᴰ
use mathlib.Core.List.{List, map}
use Rattle.std.proofs.Math.Dec.{T}
use Rattle.programs.specs.Program.{Program}
use Rattle.certificates.specs.Certificate.{Certificate}
use Rattle.certificates.specs.Sources.{Entry, edges_of, Sourced, sourced}
use Rattle.certificates.specs.Witnesses.{Witness}
use Rattle.trimming.specs.Kept.{Use, use_by, uses_of, Flags}
use Rattle.trimming.specs.KeptMembers.{new_number}
use Rattle.trimming.specs.Trimmed.{trimmed_witnesses}
use Rattle.trimming.specs.TrimmedEntailments.{renumbered_source, trimmed_all}

module _ (F : Flags) (c : Certificate) where
  -- with new numbers
  abbrev pub renumbered_use : Use → Use
  renumbered_use u = use_by (renumbered_source F u.source) u.leads_to (map (new_number (F u.leads_to)) u.targets)

  -- how the kept entailments use what is left
  abbrev pub uses_now : List Sourced → List Witness → List Use
  uses_now xs ws = uses_of (trimmed_all F c xs) (trimmed_witnesses F xs ws)

-- ---- where all is kept nothing changes

abbrev pub AllFlags : Flags → Certificate → Type 0
AllFlags F c = (t : Entry) (m : ℕ) → m < length (edges_of c t) → T (F t m)

module _ (rule : ℕ → ℤ → ℤ → Bool) where
  module _ (p : Program) (c : Certificate) (ws : List Witness) (F F' : Flags) where
    abbrev pub ws' : List Witness
    ws' = trimmed_witnesses F (sourced p c) ws
