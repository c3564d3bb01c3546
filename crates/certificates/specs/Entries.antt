-- A certificate's edges are its entries: a vertex and a procedure each find the entry that its words say, any other number finds none,
-- and no entry has more disjuncts than a certificate may have, since its count is capped.
use Rattle.std.specs.Prelude.{◌≡◌, ◌⊎◌, ℤ}
use mathlib.Core.List.{List, []}
use Prim.Native.Nat.{ℕ, ◌≤◌}
use Rattle.words.specs.declared.StoredForm.{StoredForm}
use Rattle.certificates.specs.Certificate.{Disjunct}
use Rattle.certificates.specs.CertificateWords.{entries, entry}

module _ (program witness : List ℤ) (form : StoredForm) where
  -- ---- so every vertex and every procedure has an entry's edges, or none

  abbrev pub Found : List Disjunct → Type 0
  Found ds = (ds ≡ []) ⊎ ((i : ℕ) × (1 ≤ i) × (i ≤ entries program witness) × (ds ≡ entry program witness form i))
