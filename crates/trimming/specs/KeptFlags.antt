-- The least set can be computed: the first entailment whose sources are kept is put away and its targets are kept, again and again, until there is no
-- such entailment. It ends, since there are fewer entailments each time; and then each was put away, or its sources are not kept. So the flags are
-- exactly the least set.
use Rattle.std.specs.Prelude.{◌≡◌, ◌⊎◌, Bool, false, cond, ◌&&◌, ◌||◌, eqb}
use Rattle.std.proofs.Math.Option.{Option, none, some}
use mathlib.Core.List.Memᴰ
use mathlib.Core.List.{List, [], ◌∷◌, Memᴰ}
use Prim.Native.Nat.{ℕ, zero, suc}
use Rattle.std.proofs.Math.Dec.{T}
use Rattle.std.proofs.Math.ListN.{length}
use Rattle.certificates.specs.Sources.{Entry, of_vertex, of_summary}
use Rattle.trimming.specs.Kept.{Use, Kept, Flags, keeps}

-- ---- a list of disjuncts, as flags

-- a disjunct, by its entry and its number there
pub record Numbered : Type 0 where
  pub entry : Entry
  pub number : ℕ

unfoldable pub same_entry : Entry → Entry → Bool
same_entry (of_vertex v) (of_vertex v') = eqb v v'
same_entry (of_vertex v) (of_summary q) = false
same_entry (of_summary q) (of_vertex v) = false
same_entry (of_summary q) (of_summary q') = eqb q q'

unfoldable pub has : List Numbered → Flags
has [] t j = false
has (x ∷ xs) t j = (same_entry x.entry t && eqb x.number j) || has xs t j

-- the targets of an entailment, before what is kept already
unfoldable pub with_targets : Entry → List ℕ → List Numbered → List Numbered
with_targets t [] xs = xs
with_targets t (j ∷ js) xs = record { entry = t; number = j } ∷ with_targets t js xs

-- ---- the first entailment whose sources are kept, and the others

pub record Picked : Type 0 where
  pub chosen : Use
  pub others : List Use

unfoldable pub behind : Use → Option Picked → Option Picked
behind u none = none
behind u (some p) = some (record { chosen = p.chosen; others = u ∷ p.others })

unfoldable pub pick : Flags → List Use → Option Picked
pick F [] = none
pick F (u ∷ us) = cond (keeps F u.source) (some (record { chosen = u; others = us })) (behind u (pick F us))

-- ---- put away, until there is none; so many times at most

unfoldable pub after_pick : (List Use → List Numbered → List Numbered) → List Numbered → Option Picked → List Numbered
after_pick more xs none = xs
after_pick more xs (some p) = more p.others (with_targets p.chosen.leads_to p.chosen.targets xs)

unfoldable pub keep_all : ℕ → List Use → List Numbered → List Numbered
keep_all zero us xs = xs
keep_all (suc n) us xs = after_pick (keep_all n) xs (pick (has xs) us)

-- the least set, by computation
unfoldable pub kept_flags : List Use → Flags
kept_flags us = has (keep_all (length us) us [])

-- ---- laws of the choice

pub record PickedFrom (F : Flags) (us : List Use) (p : Picked) : Type 0 where
  pub kept : T (keeps F p.chosen.source)
  pub fewer : length us ≡ suc (length p.others)
  pub from : Memᴰ p.chosen us
  pub among : (u : Use) → Memᴰ u p.others → Memᴰ u us
  pub either : (u : Use) → Memᴰ u us → (u ≡ p.chosen) ⊎ Memᴰ u p.others

-- ---- the flags are exactly the least set

module _ (all : List Use) where
  -- the entailments left, and what is kept so far: all of it is in the least set, and each entailment is left or was put away
  pub record Going (us : List Use) (xs : List Numbered) : Type 0 where
    pub among : (u : Use) → Memᴰ u us → Memᴰ u all
    pub sound : (t : Entry) (j : ℕ) → T (has xs t j) → Kept all t j
    pub left : (u : Use) → Memᴰ u all → Memᴰ u us ⊎ ((j : ℕ) → Memᴰ j u.targets → T (has xs u.leads_to j))

  module _ (us : List Use) (xs : List Numbered) (g : Going us xs) (p : Picked) (c : PickedFrom (has xs) us p) where
    abbrev pub now : List Numbered
    now = with_targets p.chosen.leads_to p.chosen.targets xs
