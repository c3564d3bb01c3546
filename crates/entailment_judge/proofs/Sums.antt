-- The tests of a sum: one coefficient that differs decides; where none does, the constant decides.
use mathlib.Core.Path.{◌≡◌, refl, sym, ap, ◌∙◌, subst}
use mathlib.Core.Bool.{Bool, true, false, ◌&&◌}
use mathlib.Core.List.{List}
use Prim.Native.Nat.{ℕ, zero, suc, ◌+◌, ◌≤◌, ◌<◌}
use native.Mathlib.Omega.{arith}
use borrow.Author.Tests.{ltb-true, ltb-false}
use lib.Dec.{T, ltb}
use lib.IntN.{ℤ, pos, ◌*ℤ◌, *ℤ-zero}
use lib.ListN.{get_or}
use lib.Signed.{le_z}
use Rattle.basics.proofs.Booleans.{is_true}
use Rattle.basics.specs.Integers.{eq_z}
use Rattle.basics.proofs.Integers.{eq→eqZ}
use Rattle.rows.specs.Rows.{Row, scaled, agree, all_zero, fits_constant}
use Rattle.row_buffers.specs.HeldRows.{held_row}
use Rattle.row_buffers.specs.Entries.{entry}
use Rattle.row_buffers.proofs.Spread.{entry_held, narrow_held, narrow_entry}
use Rattle.row_buffers.specs.SumTests.{is_yielded, is_refuted}
use Rattle.row_buffers.proofs.SumTests.{agree_entries, zero_entries}

-- ---- coefficients against others

module _ (columns : ℕ) (l : List ℤ) (other : ℕ → ℤ) where
  -- they are the same before entry i
  abbrev pub SameBefore : ℕ → Type 0
  SameBefore i = (k : ℕ) → suc k < i → entry (suc k) (held_row columns l) ≡ other (suc k)

  pub same_none : SameBefore 1
  same_none k h = absurd (omega arith)

  pub same_more : (i : ℕ) → SameBefore i → entry i (held_row columns l) ≡ other i → SameBefore (i + 1)
  same_more i h e k q = go (ltb (suc k) i) refl
    where
      go : (b : Bool) → ltb (suc k) i ≡ b → entry (suc k) (held_row columns l) ≡ other (suc k)
      go true p = h k (ltb-true (suc k) i p)
      go false p = let z : suc k ≡ i = omega (arith, ltb-false (suc k) i p) in rw z e

  everywhere : SameBefore (1 + columns) → ((k : ℕ) → columns < k → other k ≡ pos 0) → (k : ℕ) → entry (suc k) (held_row columns l) ≡ other (suc k)
  everywhere h z k = go (ltb columns (suc k)) refl
    where
      go : (b : Bool) → ltb columns (suc k) ≡ b → entry (suc k) (held_row columns l) ≡ other (suc k)
      go true p = let q = ltb-true columns (suc k) p in narrow_entry columns (suc k) (held_row columns l) (narrow_held columns l) q ∙ sym (z (suc k) q)
      go false p = h k (omega (arith, ltb-false columns (suc k) p))

and-false : (a b : Bool) → (T a → ⊥) → false ≡ a && b
and-false true b f = absurd (f tt)
and-false false b f = refl

differ : {x y : ℤ} → eq_z x y ≡ false → x ≡ y → ⊥
differ {x} {y} e q = subst T e (eq→eqZ q)

-- ---- against a multiple of the target row

module _ (columns : ℕ) (sum target : List ℤ) (d : ℕ) where
  abbrev sum_row : Row
  sum_row = held_row columns sum

  abbrev target_row : Row
  target_row = held_row columns target

  abbrev pub multiple : ℕ → ℤ
  multiple k = pos d *ℤ entry k target_row

  pub yielded_tested : (i : ℕ) (x y : ℤ) (b : Bool) → i ≤ columns → x ≡ get_or sum i (pos 0) → y ≡ get_or target i (pos 0) → b ≡ eq_z x (pos d *ℤ y) → eq_z (entry i sum_row) (multiple i) ≡ b
  yielded_tested i x y b h e f g = rw (entry_held columns i sum h, entry_held columns i target h, g, e, f)

  pub not_yielded : (i : ℕ) → 1 ≤ i → eq_z (entry i sum_row) (multiple i) ≡ false → false ≡ is_yielded d sum_row target_row
  unfolding is_yielded
  not_yielded zero h e = absurd (omega arith)
  not_yielded (suc k) h e =
      and-false (agree sum_row.coefficients (scaled (pos d) target_row.coefficients)) (fits_constant d target_row.constant sum_row.constant) (λ a. differ e ((agree_entries d sum_row target_row).0 a k))

  pub yielded_constant : (x y : ℤ) (b : Bool) → SameBefore columns sum multiple (1 + columns) → x ≡ get_or sum 0 (pos 0) → y ≡ get_or target 0 (pos 0) → b ≡ fits_constant d y x → b ≡ is_yielded d sum_row target_row
  unfolding is_yielded held_row
  yielded_constant x y b h e f g =
      rw (is_true (agree sum_row.coefficients (scaled (pos d) target_row.coefficients)) ((agree_entries d sum_row target_row).1 (everywhere columns sum multiple h beyond)), g, e, f)
    where
      beyond : (k : ℕ) → columns < k → multiple k ≡ pos 0
      beyond k q = ap (λ (z : ℤ). pos d *ℤ z) (narrow_entry columns k target_row (narrow_held columns target) q) ∙ *ℤ-zero (pos d)

-- ---- against zeros

module _ (columns : ℕ) (sum : List ℤ) where
  abbrev pub zeros : ℕ → ℤ
  zeros k = pos 0

  pub refuted_tested : (i : ℕ) (x : ℤ) (b : Bool) → i ≤ columns → x ≡ get_or sum i (pos 0) → b ≡ eq_z x (pos 0) → eq_z (entry i (held_row columns sum)) (pos 0) ≡ b
  refuted_tested i x b h e g = rw (entry_held columns i sum h, g, e)

  pub not_refuted : (i : ℕ) → 1 ≤ i → eq_z (entry i (held_row columns sum)) (pos 0) ≡ false → false ≡ is_refuted (held_row columns sum)
  unfolding is_refuted
  not_refuted zero h e = absurd (omega arith)
  not_refuted (suc k) h e = and-false (all_zero (held_row columns sum).coefficients) (le_z (pos 1) (held_row columns sum).constant) (λ a. differ e ((zero_entries (held_row columns sum)).0 a k))

  pub refuted_constant : (x : ℤ) (b : Bool) → SameBefore columns sum zeros (1 + columns) → x ≡ get_or sum 0 (pos 0) → b ≡ le_z (pos 1) x → b ≡ is_refuted (held_row columns sum)
  unfolding is_refuted held_row
  refuted_constant x b h e g = rw (is_true (all_zero (held_row columns sum).coefficients) ((zero_entries (held_row columns sum)).1 (everywhere columns sum zeros h (λ k q. refl))), g, e)
