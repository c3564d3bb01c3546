-- How the least set is found by a queue: the kept disjuncts are taken one after the other, and for each that is taken the entailments that come from
-- it are looked at: those whose sources are kept have their targets kept. Of a return's two sources the one that is taken later finds the other kept.
-- So when all that are kept are taken, they are exactly the least set.
use Rattle.std.specs.Prelude.{◌≡◌, ◌⊎◌, ℕ}
use mathlib.Core.List.{List, Memᴰ}
use Rattle.std.proofs.Math.Dec.{T}
use Rattle.certificates.specs.Sources.{Entry, of_vertex, of_summary, Source, from_start, from_path, from_return}
use Rattle.trimming.specs.Kept.{Use, Kept, Flags, keeps}

-- the sources of an entailment are taken; the start has none
unfoldable pub AllTaken : (Entry → ℕ → Type 0) → Source → Type 0
AllTaken taken from_start = Unit
AllTaken taken (from_path v i) = taken (of_vertex v) i
AllTaken taken (from_return v i q l) = taken (of_vertex v) i × taken (of_summary q) l

-- disjunct j of t is one of the sources
unfoldable pub IsSource : Entry → ℕ → Source → Type 0
IsSource t j from_start = ⊥
IsSource t j (from_path v i) = (of_vertex v ≡ t) × (i ≡ j)
IsSource t j (from_return v i q l) = ((of_vertex v ≡ t) × (i ≡ j)) ⊎ ((of_summary q ≡ t) × (l ≡ j))

-- those kept and those of them that are taken so far: what comes from these alone is kept
pub record Taking (us : List Use) (kept : Flags) (taken : Entry → ℕ → Type 0) : Type 0 where
  pub sound : (t : Entry) (j : ℕ) → T (kept t j) → Kept us t j
  pub less : (t : Entry) (j : ℕ) → taken t j → T (kept t j)
  pub closed : (u : Use) → Memᴰ u us → AllTaken taken u.source → (j : ℕ) → Memᴰ j u.targets → T (kept u.leads_to j)

-- ---- one more is taken, disjunct j of t

-- with the sources of an entailment that comes from it the targets are kept
abbrev pub Answers : List Use → Flags → Entry → ℕ → Flags → Type 0
Answers us kept t j kept' = (u : Use) → Memᴰ u us → IsSource t j u.source → T (keeps kept u.source) → (k : ℕ) → Memᴰ k u.targets → T (kept' u.leads_to k)

pub record Takes (us : List Use) (kept : Flags) (taken : Entry → ℕ → Type 0) (t : Entry) (j : ℕ) (kept' : Flags) (taken' : Entry → ℕ → Type 0) : Type 0 where
  pub here : T (kept t j)
  pub more : (s : Entry) (k : ℕ) → T (kept s k) → T (kept' s k)
  pub sound : (s : Entry) (k : ℕ) → T (kept' s k) → Kept us s k
  pub one : (s : Entry) (k : ℕ) → taken' s k → taken s k ⊎ ((s ≡ t) × (k ≡ j))
  pub answers : Answers us kept t j kept'
