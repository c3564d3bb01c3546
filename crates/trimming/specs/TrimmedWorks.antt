-- The trimmed witnesses work: a witness that names only what is kept works, renumbered, toward what is left of the targets, since premises, image and
-- the rows of the disjuncts that it names are as they were. No sum is looked at.
use Rattle.std.specs.Prelude.{Bool}
use mathlib.Core.List.Memᴰ
use mathlib.Core.List.{Memᴰ}
use Prim.Native.Nat.{ℕ}
use Rattle.std.proofs.Math.Dec.{T}
use Rattle.certificates.specs.Witnesses.{Witness}
use Rattle.trimming.specs.Kept.{leaf_targets}

module _ (f : ℕ → Bool) where
  -- ---- one witness

  -- all that it names is kept
  abbrev pub AllKept : Witness → Type 0
  AllKept w = (j : ℕ) → Memᴰ j (leaf_targets w) → T (f j)
