-- Disjuncts as they are written, one after the other: read again they are the disjuncts, they end where the words do, and they pass their tests.
-- Disjuncts that pass theirs are within their limits, and sparse ones stand in the words that are written for them.
use Rattle.std.specs.Prelude.{◌≡◌, ℕ, ◌+◌, ◌≤◌, pos, take}
use mathlib.Core.List.{List, [], ◌∷◌, ◌++◌}
use Rattle.std.proofs.Math.IntN.{ℤ}
use Rattle.std.proofs.Math.ListN.{length, drop}
use Rattle.words.specs.declared.StoredForm.{StoredForm}
use Rattle.words.specs.declared.StoredForm.TheVariants.{Sparse}
use Rattle.words.specs.Limits.{most_rows}
use Rattle.words.specs.RowLimits.{RowsWithin}
use Rattle.words.specs.CodedRows.{rows_code}
use Rattle.certificates.specs.Certificate.{Disjunct}
use Rattle.certificates.specs.CertificateWords.{disjuncts_of, disjuncts_end}

-- "each disjunct is a row count (0..32) and rows"
unfoldable pub disjunct_code : StoredForm → Disjunct → List ℤ
disjunct_code form d = pos (length d) ∷ rows_code form d

unfoldable pub disjuncts_code : StoredForm → List Disjunct → List ℤ
disjuncts_code form [] = []
disjuncts_code form (d ∷ ds) = disjunct_code form d ++ disjuncts_code form ds

-- disjuncts within their limits
pub data DisjunctsWithin (columns : ℕ) : List Disjunct → Type 0 where
  empty : DisjunctsWithin columns []
  and_one : {d : Disjunct} {ds : List Disjunct} → length d ≤ most_rows → RowsWithin columns d → DisjunctsWithin columns ds → DisjunctsWithin columns (d ∷ ds)

-- ---- sparse disjuncts that pass stand in their own words

pub record Coded (words : List ℤ) (columns n at : ℕ) : Type 0 where
  pub size : ℕ
  pub ends : disjuncts_end Sparse words columns n at ≡ at + size
  pub are : take size (drop at words) ≡ disjuncts_code Sparse (disjuncts_of Sparse columns n (drop at words))
