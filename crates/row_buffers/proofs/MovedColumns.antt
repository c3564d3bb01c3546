-- Rows whose columns are moved to a block of columns: what each entry is, because a column is 1 in its own entry and 0 elsewhere; so columns put
-- in for themselves change nothing, and a row that is moved is as small as it was.
use Rattle.std.specs.Prelude.{◌≡◌, Bool, true, false, ℕ, zero, suc, ◌+◌, ◌-◌, ◌≤◌, ◌<◌, ltb, ℤ, pos, nat_abs, ◌+ℤ◌, ◌*ℤ◌, length, get_or}
use Rattle.std.proofs.Math.Path.{refl, ap, ap₂}
use Rattle.std.proofs.Common.{◌∙◌, zero-le, add-zero, zero-add, arith, ltb-true, ltb-false}
use mathlib.Core.List.{List, [], ◌∷◌, ◌++◌}
use Rattle.std.proofs.Math.IntN.{+ℤ_idl, +ℤ_idr, *ℤ-zero, *ℤ_comm}
use Rattle.basics.proofs.Integers.{one-*ℤ}
use Rattle.rows.specs.Rows.{Row, plus, scaled, constant_row, add, scale, combine, substitute, substitute_all}
use Rattle.rows.specs.Columns.{unit, column, columns, zeros}
use Rattle.rows.proofs.Blocks.{columns_append}
use Rattle.row_buffers.specs.AllRows.{AllRows, none, one}
use Rattle.row_buffers.specs.Entries.{entry}
use Rattle.row_buffers.proofs.Entries.{entry_add, entry_combine, entry_zero}
use Rattle.row_buffers.specs.Spread.{NarrowRow}
use Rattle.row_buffers.specs.EntryLimits.{SmallRow}
use Rattle.row_buffers.specs.FlatRows.{Narrow}
use Rattle.row_buffers.proofs.ColumnRows.{entry_column, entry_other, all_columns}

-- ---- columns, weighted

combine_zero : (i : ℕ) (ws : List ℤ) {rs : List Row} → AllRows (λ r. entry i r ≡ pos 0) rs → entry i (combine ws rs) ≡ pos 0
unfolding combine
combine_zero i [] h = entry_zero i
combine_zero i (w ∷ ws) none = entry_zero i
combine_zero i (w ∷ ws) (one {r} {rs} h hs) =
    entry_combine i w ws r rs ∙ ap₂ (λ (x y : ℤ). w *ℤ x +ℤ y) h (combine_zero i ws hs) ∙ ap (λ (x : ℤ). x +ℤ pos 0) (*ℤ-zero w)

weighted_outside : (ws : List ℤ) (s n i : ℕ) → ((j : ℕ) → j < n → suc (s + j) ≡ i → ⊥) → entry i (combine ws (columns s n)) ≡ pos 0
weighted_outside ws s n i h = combine_zero i ws (all_columns s n (λ j k. entry_other (s + j) i (λ e. h j k (omega arith))))

weighted_inside : (ws : List ℤ) (s n i : ℕ) → i < n → entry (suc (s + i)) (combine ws (columns s n)) ≡ get_or ws i (pos 0)
unfolding combine columns
weighted_inside [] s n i h = entry_zero (suc (s + i))
weighted_inside (w ∷ ws) s zero i h = absurd (omega arith)
weighted_inside (w ∷ ws) s (suc n) zero h =
    rw (add-zero s)
    (entry_combine (suc s) w ws (column s) (columns (suc s) n)
    ∙ ap₂ (λ (x y : ℤ). w *ℤ x +ℤ y) (let e : 1 + s ≡ suc s = omega arith in rw e at (entry_column s)) (weighted_outside ws (suc s) n (suc s) (λ j k e. omega arith))
    ∙ +ℤ_idr (w *ℤ pos 1) ∙ *ℤ_comm w (pos 1) ∙ one-*ℤ w)
weighted_inside (w ∷ ws) s (suc n) (suc i) h =
    let e : suc s + i ≡ s + suc i = omega arith in
    entry_combine (suc (s + suc i)) w ws (column s) (columns (suc s) n)
    ∙ ap₂ (λ (x y : ℤ). w *ℤ x +ℤ y) (entry_other s (suc (s + suc i)) (λ q. omega arith)) (rw e at (weighted_inside ws (suc s) n i (omega arith)))
    ∙ ap (λ (x : ℤ). x +ℤ get_or ws i (pos 0)) (*ℤ-zero w) ∙ +ℤ_idl (get_or ws i (pos 0))

-- ---- a row with its columns moved to the n columns from s on

module _ (s n : ℕ) (r : Row) where
  parts : (i : ℕ) → entry i (substitute (columns s n) r) ≡ entry i (constant_row r.constant) +ℤ entry i (combine r.coefficients (columns s n))
  unfolding substitute
  parts i = entry_add i (constant_row r.constant) (combine r.coefficients (columns s n))

  pub moved_constant : entry 0 (substitute (columns s n) r) ≡ entry 0 r
  unfolding entry constant_row
  moved_constant = parts 0 ∙ ap (λ (x : ℤ). r.constant +ℤ x) (weighted_outside r.coefficients s n 0 (λ j k e. omega arith)) ∙ +ℤ_idr r.constant

  behind_constant : (i : ℕ) → entry (suc i) (substitute (columns s n) r) ≡ entry (suc i) (combine r.coefficients (columns s n))
  behind_constant i = parts (suc i) ∙ (unfold entry constant_row in +ℤ_idl (entry (suc i) (combine r.coefficients (columns s n))))

  at_column : (j : ℕ) → j < n → entry (suc (s + j)) (substitute (columns s n) r) ≡ entry (suc j) r
  unfolding entry
  at_column j h = behind_constant (s + j) ∙ weighted_inside r.coefficients s n j h

  pub moved_inside : (i : ℕ) → s < i → i ≤ s + n → entry i (substitute (columns s n) r) ≡ entry (i - s) r
  moved_inside i h k =
      let e : suc (s + (i - suc s)) ≡ i = omega arith in
      let f : suc (i - suc s) ≡ i - s = omega arith in
      rw (e, f) at (at_column (i - suc s) (omega arith))

  pub moved_outside : (i : ℕ) → 0 < i → (s < i → i ≤ s + n → ⊥) → entry i (substitute (columns s n) r) ≡ pos 0
  moved_outside zero z h = absurd (omega arith)
  moved_outside (suc i) z h = behind_constant i ∙ weighted_outside r.coefficients s n (suc i) (λ j k e. h (omega arith) (omega arith))

-- no entry is larger than the row's own
pub small_moved : {b : ℕ} (s n : ℕ) (r : Row) → SmallRow b r → SmallRow b (substitute (columns s n) r)
small_moved {b} s n r h = record { bound = bound }
  where
    go : (i : ℕ) (x y : Bool) → ltb i s ≡ x → ltb i (s + n) ≡ y → nat_abs (entry (suc i) (substitute (columns s n) r)) ≤ b
    go i true y p q = rw (moved_outside s n r (suc i) (omega arith) (λ l k. omega (arith, ltb-true i s p))) zero-le
    go i false true p q = rw (moved_inside s n r (suc i) (omega (arith, ltb-false i s p)) (omega (arith, ltb-true i (s + n) q))) (h.bound _)
    go i false false p q = rw (moved_outside s n r (suc i) (omega arith) (λ l k. omega (arith, ltb-false i (s + n) q))) zero-le

    bound : (i : ℕ) → nat_abs (entry i (substitute (columns s n) r)) ≤ b
    bound zero = rw moved_constant (h.bound 0)
    bound (suc i) = go i (ltb i s) (ltb i (s + n)) refl refl

-- ---- columns put in for themselves

pub plus_none : (xs : List ℤ) → plus xs [] ≡ xs
unfolding plus
plus_none [] = refl
plus_none (x ∷ xs) = refl

alone : (s : ℕ) (w : ℤ) → scaled w (unit s) ≡ zeros s ++ w ∷ []
unfolding scaled unit zeros
alone zero w = ap (λ (x : ℤ). x ∷ []) (*ℤ_comm w (pos 1) ∙ one-*ℤ w)
alone (suc s) w = ap₂ (λ (x : ℤ) (xs : List ℤ). x ∷ xs) (*ℤ-zero w) (alone s w)

in_front : (s : ℕ) (w : ℤ) (l : List ℤ) → plus (scaled w (unit s)) (zeros (suc s) ++ l) ≡ zeros s ++ w ∷ l
unfolding plus scaled unit zeros
in_front zero w l = ap (λ (x : ℤ). x ∷ l) (+ℤ_idr (w *ℤ pos 1) ∙ *ℤ_comm w (pos 1) ∙ one-*ℤ w)
in_front (suc s) w l = ap₂ (λ (x : ℤ) (xs : List ℤ). x ∷ xs) (+ℤ_idr (w *ℤ pos 0) ∙ *ℤ-zero w) (in_front s w l)

-- columns from s on, weighted: the weights stand behind s zeros
weighted : (s n : ℕ) (w : ℤ) (ws : List ℤ) → length ws < n → (combine (w ∷ ws) (columns s n)).coefficients ≡ zeros s ++ w ∷ ws
unfolding combine columns column constant_row add scale
weighted s zero w ws h = absurd (omega arith)
weighted s (suc n) w [] h = plus_none (scaled w (unit s)) ∙ alone s w
weighted s (suc n) w (v ∷ ws) h = ap (plus (scaled w (unit s))) (weighted (suc s) n v ws (omega arith)) ∙ in_front s w (v ∷ ws)

same_coefficients : (n : ℕ) (l : List ℤ) → length l ≤ n → (combine l (columns 0 n)).coefficients ≡ l
unfolding combine constant_row zeros
same_coefficients n [] h = refl
same_coefficients n (w ∷ ws) h = weighted 0 n w ws (omega arith)

pub same_row : (n : ℕ) (r : Row) → NarrowRow n r → substitute (columns 0 n) r ≡ r
unfolding substitute constant_row add plus entry
same_row n r h = ap₂ (λ (c : ℤ) (l : List ℤ). record { constant = c; coefficients = l }) (moved_constant 0 n r) (same_coefficients n r.coefficients h)

-- the columns at entry and those now, each for itself
module _ (k : ℕ) where
  pub path_row : (r : Row) → NarrowRow (k + k) r → substitute (columns 0 k ++ columns k k) r ≡ r
  path_row r h = let e : columns 0 (k + k) ≡ columns 0 k ++ columns k k = rw zero-add at (columns_append 0 k k) in rw e at (same_row (k + k) r h)

  pub path_rows : {d : List Row} → Narrow (k + k) d → substitute_all (columns 0 k ++ columns k k) d ≡ d
  unfolding substitute_all
  path_rows none = refl
  path_rows (one {r} h hs) = ap₂ (λ (x : Row) (xs : List Row). x ∷ xs) (path_row r h) (path_rows hs)
