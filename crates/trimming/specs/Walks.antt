-- A witness walked and not read: the words left after it, and which targets its leaves name. A leaf's first word tells how many words follow, and of a
-- split nothing but its marks is looked at. After a shaped witness's words that is what follows them, and what it names.
use Rattle.std.specs.Prelude.{ℕ, zero, suc, ◌+◌, ◌*◌, ℤ, negsuc, length, drop}
use Rattle.std.proofs.Math.Option.{Option, none, some}
use mathlib.Core.List.{List, [], ◌∷◌, ◌++◌}
use Rattle.std.proofs.Math.IntN.{pos}
use Rattle.std.proofs.Math.ListN.{get_elem?}
use Rattle.words.specs.RowWords.{row_size}
use Rattle.certificates.specs.Certificate.{Disjunct}
use Rattle.certificates.specs.Entailments.{Entailment}

pub record Walked : Type 0 where
  pub left : List ℤ
  pub names : List ℕ

abbrev pub walked_by : List ℤ → List ℕ → Walked
walked_by left names = record { left = left; names = names }

-- a target: a divisor and the multipliers for each row
unfoldable pub walked_target : ℕ → ℕ → Option Disjunct → List ℤ → Walked
walked_target n j none ws = walked_by (pos (suc j) ∷ ws) []
walked_target n j (some d) ws = walked_by (drop (length d * (1 + n)) ws) (j ∷ [])

-- a leaf, for so many premises; words that begin none are left as they are
unfoldable pub walked_leaf : ℕ → List Disjunct → List ℤ → Walked
walked_leaf n targets [] = walked_by [] []
walked_leaf n targets (pos zero ∷ ws) = walked_by (drop n ws) []
walked_leaf n targets (pos (suc j) ∷ ws) = walked_target n j (get_elem? targets j) ws
walked_leaf n targets (negsuc m ∷ ws) = walked_by (negsuc m ∷ ws) []

-- one after the other
unfoldable pub walked_both : (List ℤ → Walked) → Walked → Walked
walked_both below a = walked_by (below a.left).left (a.names ++ (below a.left).names)

-- with so many splits left, for an entailment of so many columns and premises and these targets: after −1 a row, and two witnesses
unfoldable pub walked_split : (ℕ → ℕ → List Disjunct → List ℤ → Walked) → ℕ → ℕ → List Disjunct → List ℤ → Walked
walked_split below columns n targets ws = walked_both (below columns (n + 1) targets) (below columns (n + 1) targets (drop (row_size columns) ws))

unfoldable pub walk : ℕ → ℕ → ℕ → List Disjunct → List ℤ → Walked
walk zero columns n targets ws = walked_leaf n targets ws
walk (suc d) columns n targets [] = walked_leaf n targets []
walk (suc d) columns n targets (pos k ∷ ws) = walked_leaf n targets (pos k ∷ ws)
walk (suc d) columns n targets (negsuc zero ∷ ws) = walked_split (walk d) columns n targets ws
walk (suc d) columns n targets (negsuc (suc m) ∷ ws) = walked_leaf n targets (negsuc (suc m) ∷ ws)

-- ---- what is left, and what is named

module _ (e : Entailment) where
  abbrev pub count : ℕ
  count = length e.premises
