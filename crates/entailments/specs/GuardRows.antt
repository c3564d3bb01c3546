-- A guard's row: an expression, or its negative, or one of these and one more. Its entries are the expression's, signed, since rows are scaled
-- and added entry by entry, and so at most 1 larger.
use Rattle.std.specs.Prelude.{Bool, ℤ, neg_ℤ}
use Rattle.std.proofs.Math.Bool.{true, false}
use Prim.Native.Nat.{ℕ, ◌+◌}
use Rattle.rows.specs.Rows.{Row}
use Rattle.words.specs.Limits.{constant_limit}
use Rattle.certificates.specs.Guards.{plus_one, negated}

unfoldable pub signed : Bool → ℤ → ℤ
signed true z = neg_ℤ z
signed false z = z

unfoldable pub signed_row : Bool → Row → Row
signed_row true e = negated e
signed_row false e = e

-- e, −e, e + 1 or −e + 1
unfoldable pub guard_row : Bool → Bool → Row → Row
guard_row negative true e = plus_one (signed_row negative e)
guard_row negative false e = signed_row negative e

-- ---- sizes

-- an entry of a guard's row, and of a split's on either side
abbrev pub guard_limit : ℕ
guard_limit = constant_limit + 1
