-- Flags packed into a byte, the first into its lowest bit: a bit of the byte is the flag of its number. So the byte packed from flags that are set for
-- the targets that a witness names has exactly the bits of these.
use Rattle.std.specs.Prelude.{replicate}
use mathlib.Core.List.{List, [], ◌∷◌}
use Prim.Native.Nat.{ℕ, zero, suc, ◌+◌, ◌≤◌}
use Rattle.std.proofs.Math.ListN.{get_or}

unfoldable pub packed_of : List ℕ → ℕ
packed_of [] = 0
packed_of (x ∷ xs) = packed_of xs + packed_of xs + x

-- each is 0 or 1
abbrev pub Flagged : List ℕ → Type 0
Flagged l = (i : ℕ) → get_or l i 0 ≤ 1

-- ---- the byte

-- 2 ^ m
unfoldable pub doubled : ℕ → ℕ
doubled zero = 1
doubled (suc m) = doubled m + doubled m

-- ---- the byte of what is named

abbrev pub no_flags : List ℕ
no_flags = replicate 8 0
