-- A guard's row: an expression, or its negative, or one of these and one more. Its entries are the expression's, signed, since rows are scaled
-- and added entry by entry, and so at most 1 larger.
use Rattle.std.specs.Prelude.{◌≡◌, refl, Bool, ℤ, pos, negsuc, nat_abs, ◌+ℤ◌}
use Rattle.std.proofs.Math.Path.{ap}
use Rattle.std.proofs.Common.{◌∙◌, arith}
use Rattle.std.proofs.Math.Bool.{true, false}
use Prim.Native.Nat.{ℕ, zero, suc, ◌<◌}
use Rattle.std.proofs.Math.IntN.{+ℤ_idr}
use Rattle.basics.proofs.Integers.{negone-*ℤ}
use Rattle.rows.specs.Rows.{Row, constant_row}
use Rattle.words.specs.Limits.{constant_limit}
use Rattle.certificates.specs.Guards.{plus_one, negated}
use Rattle.certificates.specs.Witnesses.{other_side}
use Rattle.row_buffers.specs.Entries.{entry}
use Rattle.row_buffers.proofs.Entries.{entry_add, entry_scale}
use Rattle.row_buffers.specs.EntryLimits.{SmallRow}
use Rattle.row_buffers.proofs.EntryLimits.{small_constant, small_weaken, small_add, small_scale}
use Rattle.entailments.specs.GuardRows.{guard_limit, guard_row, signed, signed_row}

pub size_signed : (negative : Bool) (z : ℤ) → nat_abs (signed negative z) ≡ nat_abs z
unfolding signed
size_signed true (pos zero) = refl
size_signed true (pos (suc n)) = refl
size_signed true (negsuc n) = refl
size_signed false z = refl

entry_signed : (negative : Bool) (i : ℕ) (e : Row) → entry i (signed_row negative e) ≡ signed negative (entry i e)
unfolding signed signed_row negated
entry_signed true i e = entry_scale i (negsuc 0) e ∙ negone-*ℤ (entry i e)
entry_signed false i e = refl

module _ (negative : Bool) (e : Row) where
  pub guard_constant : entry 0 (guard_row negative false e) ≡ signed negative (entry 0 e)
  unfolding guard_row
  guard_constant = entry_signed negative 0 e

  pub guard_constant_more : entry 0 (guard_row negative true e) ≡ signed negative (entry 0 e) +ℤ pos 1
  unfolding guard_row plus_one
  guard_constant_more = entry_add 0 (signed_row negative e) (constant_row (pos 1)) ∙ ap (λ (z : ℤ). z +ℤ entry 0 (constant_row (pos 1))) (entry_signed negative 0 e) ∙ (unfold entry constant_row in refl)

  pub guard_coefficient : (plus : Bool) (i : ℕ) → 0 < i → entry i (guard_row negative plus e) ≡ signed negative (entry i e)
  unfolding guard_row plus_one
  guard_coefficient plus zero h = absurd (omega arith)
  guard_coefficient true (suc i) h =
      entry_add (suc i) (signed_row negative e) (constant_row (pos 1)) ∙ ap (λ (z : ℤ). z +ℤ entry (suc i) (constant_row (pos 1))) (entry_signed negative (suc i) e)
      ∙ (unfold entry constant_row in +ℤ_idr (signed negative (entry (suc i) e)))
  guard_coefficient false (suc i) h = entry_signed negative (suc i) e

module _ {e : Row} (h : SmallRow constant_limit e) where
  small_signed : (negative : Bool) → SmallRow constant_limit (signed_row negative e)
  unfolding signed_row negated
  small_signed true = small_weaken (omega arith) (small_scale {a = 1} (negsuc 0) (omega arith) h)
  small_signed false = h

  pub small_guard : (negative plus : Bool) → SmallRow guard_limit (guard_row negative plus e)
  unfolding guard_row plus_one
  small_guard negative true = small_add {b = 1} (small_signed negative) (small_constant (pos 1) (omega arith))
  small_guard negative false = small_weaken (omega arith) (small_signed negative)

  pub small_side : SmallRow guard_limit e
  small_side = unfold guard_row signed_row in small_guard false false

  pub small_other_side : SmallRow guard_limit (other_side e)
  small_other_side = unfold guard_row signed_row other_side in small_guard true true
