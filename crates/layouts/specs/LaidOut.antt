-- What a layout says to whoever reads it: the certificate and the witness words that it was made of; and it has the form, where its entries are
-- within their limits and there are not too many words.
use Rattle.std.specs.Prelude.{◌≡◌, T, ℤ, get_or}
use mathlib.Core.List.{List, []}
use Prim.Native.Nat.{ℕ, ◌+◌, ◌-◌, ◌≤◌, ◌<◌}
use Rattle.std.proofs.Math.ListN.{length}
use Rattle.words.specs.declared.StoredForm.{StoredForm}
use Rattle.words.specs.Limits.{most_words, most_disjuncts}
use Rattle.certificates.specs.Certificate.{Disjunct, Certificate, edges_vary}
use Rattle.certificates.specs.CertificateWords.{entries, edge_columns, vertex_entries}
use Rattle.layouts.specs.DisjunctCode.{DisjunctsWithin}
use Rattle.layouts.specs.Layout.{entries_of, entries_code, layout}

-- how many columns an entry has is said by the program alone
abbrev pub columns_for : List ℤ → ℕ → ℕ
columns_for program i = edge_columns program [] i

-- an entry within its limits, none of whose rows is constant
pub record EntryWithin (columns : ℕ) (e : List Disjunct) : Type 0 where
  pub few : length e ≤ most_disjuncts
  pub are : DisjunctsWithin columns e
  pub vary : T (edges_vary e)

pub record EntriesWithin (program : List ℤ) (es : List (List Disjunct)) : Type 0 where
  pub count : length es ≡ entries program []
  pub each : (j : ℕ) → j < length es → EntryWithin (columns_for program (j + 1)) (get_or es j [])

module _ (program : List ℤ) (form : StoredForm) (es : List (List Disjunct)) (ws : List ℤ) (are : EntriesWithin program es) (short : length (layout form es ws) ≤ most_words) where
  abbrev pub laid : List ℤ
  laid = layout form es ws

  abbrev pub rows : List ℤ
  rows = entries_code form es

-- the certificate whose entries are laid out
module _ (program : List ℤ) (form : StoredForm) (c : Certificate) (ws : List ℤ) (within : EntriesWithin program (entries_of c)) (short : length (layout form (entries_of c) ws) ≤ most_words) (paths : length c.paths ≡ vertex_entries program []) where
  abbrev pub words : List ℤ
  words = layout form (entries_of c) ws
