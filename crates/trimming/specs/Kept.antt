-- What of a certificate is used, document 02, CR 11: "the start's targets, then again every target of an entailment whose disjunct (and summary
-- disjunct, at a return) is kept. Targets of all split leaves count." The least set, as an inductive definition: all of it is in any set that has
-- the start's targets and, with the sources of an entailment, its targets.
use Rattle.std.specs.Prelude.{◌↔◌, Bool, true, ◌&&◌, ℕ, T}
use mathlib.Core.List.{List, [], ◌∷◌, ◌++◌, Memᴰ}
use Rattle.certificates.specs.Sources.{Entry, of_vertex, of_summary, Source, from_start, from_path, from_return, Sourced}
use Rattle.certificates.specs.Witnesses.{Witness, contradiction, target, split}

-- "Targets of all split leaves": the disjuncts, from 0, that the leaves of a witness name; a contradiction names none
unfoldable pub leaf_targets : Witness → List ℕ
leaf_targets (contradiction ms) = []
leaf_targets (target j xs) = j ∷ []
leaf_targets (split r w v) = leaf_targets w ++ leaf_targets v

-- how an entailment uses disjuncts: what it comes from, the entry that it leads to, and the targets there that its witness names
pub record Use : Type 0 where
  pub source : Source
  pub leads_to : Entry
  pub targets : List ℕ

abbrev pub use_by : Source → Entry → List ℕ → Use
use_by s t js = record { source = s; leads_to = t; targets = js }

-- those of all entailments, each with its witness
unfoldable pub uses_of : List Sourced → List Witness → List Use
uses_of [] ws = []
uses_of (x ∷ xs) [] = []
uses_of (x ∷ xs) (w ∷ ws) = use_by x.source x.leads_to (leaf_targets w) ∷ uses_of xs ws

-- ---- the least set

-- disjunct j of an entry is kept: "the start's targets", or "every target of an entailment whose disjunct .. is kept", or at a return one whose
-- disjunct "and summary disjunct" is
pub data Kept (us : List Use) : Entry → ℕ → Type 0 where
  by_start : {t : Entry} {js : List ℕ} {j : ℕ} → Memᴰ (use_by from_start t js) us → Memᴰ j js → Kept us t j
  by_path : {v i : ℕ} {t : Entry} {js : List ℕ} {j : ℕ} → Memᴰ (use_by (from_path v i) t js) us → Kept us (of_vertex v) i → Memᴰ j js → Kept us t j
  by_return : {v i q l : ℕ} {t : Entry} {js : List ℕ} {j : ℕ} → Memᴰ (use_by (from_return v i q l) t js) us → Kept us (of_vertex v) i → Kept us (of_summary q) l
      → Memᴰ j js → Kept us t j

-- ---- a set, as flags

abbrev pub Flags : Type 0
Flags = Entry → ℕ → Bool

-- the sources of an entailment are in the set; the start has none
unfoldable pub keeps : Flags → Source → Bool
keeps F from_start = true
keeps F (from_path v i) = F (of_vertex v) i
keeps F (from_return v i q l) = F (of_vertex v) i && F (of_summary q) l

-- with the sources of an entailment it has the targets
pub record Closed (us : List Use) (F : Flags) : Type 0 where
  pub closed : (u : Use) → Memᴰ u us → T (keeps F u.source) → (j : ℕ) → Memᴰ j u.targets → T (F u.leads_to j)

-- it is the least one
pub record Exactly (us : List Use) (F : Flags) : Type 0 where
  pub exactly : (t : Entry) (j : ℕ) → T (F t j) ↔ Kept us t j
