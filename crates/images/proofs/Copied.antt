-- A row that is copied, with one column cleared and an expression added in its place, is the row with the expression put in for that column.
use mathlib.Core.Path.{◌≡◌, refl, sym, ap, ap₂, ◌∙◌}
use mathlib.Core.Logic.{◌≢◌}
use mathlib.Core.Bool.{Bool, true, false}
use mathlib.Core.List.{List, [], ◌∷◌, ◌++◌}
use Prim.Native.Nat.{ℕ, zero, suc, ◌+◌, ◌≤◌, ◌<◌, zero-le}
use native.Mathlib.Omega.{arith}
use borrow.Author.Tests.{eqb-true, eqb-false}
use lib.Dec.{eqb}
use lib.IntN.{ℤ, pos, nat_abs, ◌+ℤ◌, ◌*ℤ◌, +ℤ_assoc, +ℤ_idr, *ℤ-zero, zero-*ℤ, *ℤ_comm}
use lib.ListN.{length, get_or, drop, set}
use lib.Seq.{get_or-set_same, get_or-set_other, get_or-drop, drop-set-lt}
use Rattle.basics.specs.Integers.{sum}
use Rattle.basics.proofs.Integers.{one-*ℤ, ints, ring}
use Rattle.rows.specs.Rows.{Row, constant_row, add, scale, combine, substitute}
use Rattle.rows.specs.Columns.{column, columns as block}
use Rattle.row_buffers.specs.HeldRows.{stride, held_row}
use Rattle.row_buffers.specs.Entries.{entry}
use Rattle.row_buffers.proofs.Entries.{entry_add, entry_combine, entry_combine_append}
use Rattle.row_buffers.specs.EntryLimits.{SmallRow}
use Rattle.row_buffers.specs.Spread.{NarrowRow, written}
use Rattle.row_buffers.proofs.Spread.{spread_same, spread_at, behind_spread, entry_held}
use Rattle.row_buffers.proofs.ColumnRows.{entry_column, entry_other}
use Rattle.row_buffers.proofs.MovedColumns.{path_row}
use Rattle.row_buffers.proofs.Adding.{entry_sum}
use Rattle.entailments.proofs.ImageSizes.{length_block}
use Rattle.images.proofs.SumLaws.{held_small}

-- ---- one row of an image for another

column_at : (c n i : ℕ) → i < n → get_or (block c n) i (constant_row (pos 0)) ≡ column (c + i)
unfolding block
column_at c zero i h = absurd (omega arith)
column_at c (suc n) zero h = let e : c + 0 ≡ c = omega arith in rw e
column_at c (suc n) (suc i) h = let e : suc c + i ≡ c + suc i = omega arith in rw e at (column_at (suc c) n i (omega arith))

exchange : (a b c : ℤ) → a +ℤ b +ℤ c ≡ c +ℤ b +ℤ a
exchange a b c = simp ring

behind : (a b c d e : ℤ) → b +ℤ c ≡ d +ℤ e → a +ℤ b +ℤ c ≡ a +ℤ d +ℤ e
behind a b c d e h = +ℤ_assoc a b c ∙ ap (λ (x : ℤ). a +ℤ x) h ∙ sym (+ℤ_assoc a d e)

alone : (x w y : ℤ) → x +ℤ w *ℤ pos 1 ≡ w +ℤ y → pos 0 +ℤ y ≡ x
alone x w y h = let f : x +ℤ w ≡ w +ℤ y = ap (λ (z : ℤ). x +ℤ z) (sym (*ℤ_comm w (pos 1) ∙ one-*ℤ w)) ∙ h in omega (arith, ints, sum x w, sum w y, sum (pos 0) y)

replaced_sum : (p : ℕ) (ws : List ℤ) (rs : List Row) (c : ℕ) (e : Row) → c < length rs
    → entry p (combine ws (set rs c e)) +ℤ get_or ws c (pos 0) *ℤ entry p (get_or rs c (constant_row (pos 0))) ≡ entry p (combine ws rs) +ℤ get_or ws c (pos 0) *ℤ entry p e
unfolding combine
replaced_sum p [] rs c e h = ap (λ (x : ℤ). entry p (constant_row (pos 0)) +ℤ x) (zero-*ℤ (entry p (get_or rs c (constant_row (pos 0)))) ∙ sym (zero-*ℤ (entry p e)))
replaced_sum p (w ∷ ws) [] c e h = absurd (omega arith)
replaced_sum p (w ∷ ws) (r ∷ rs) zero e h = rw (entry_combine p w ws e rs, entry_combine p w ws r rs) (exchange (w *ℤ entry p e) (entry p (combine ws rs)) (w *ℤ entry p r))
replaced_sum p (w ∷ ws) (r ∷ rs) (suc c) e h =
    rw (entry_combine p w ws r (set rs c e), entry_combine p w ws r rs)
    (behind (w *ℤ entry p r) (entry p (combine ws (set rs c e))) (get_or ws c (pos 0) *ℤ entry p (get_or rs c (constant_row (pos 0)))) (entry p (combine ws rs)) (get_or ws c (pos 0) *ℤ entry p e)
    (replaced_sum p ws rs c e (omega arith)))

-- ---- an expression for a column now

module _ (k i : ℕ) (h : i < k) (e r : Row) (narrow : NarrowRow (k + k) r) where
  abbrev assigned : List Row
  assigned = block 0 k ++ set (block k k) i e

  -- the column's coefficient
  abbrev weight : ℤ
  weight = entry (suc (k + i)) r

  entry_put : (p : ℕ) (image : List Row) → entry p (substitute (block 0 k ++ image) r) ≡ entry p (constant_row r.constant) +ℤ entry p (combine r.coefficients (block 0 k)) +ℤ entry p (combine (drop k r.coefficients) image)
  unfolding substitute
  entry_put p image =
      entry_add p (constant_row r.constant) (combine r.coefficients (block 0 k ++ image))
      ∙ ap (λ (x : ℤ). entry p (constant_row r.constant) +ℤ x) (rw length_block at (entry_combine_append p r.coefficients (block 0 k) image))
      ∙ sym (+ℤ_assoc (entry p (constant_row r.constant)) (entry p (combine r.coefficients (block 0 k))) (entry p (combine (drop k r.coefficients) image)))

  exchanged : (p : ℕ) → entry p (substitute assigned r) +ℤ weight *ℤ entry p (column (k + i)) ≡ entry p r +ℤ weight *ℤ entry p e
  unfolding entry
  exchanged p =
      let front = entry p (constant_row r.constant) +ℤ entry p (combine r.coefficients (block 0 k)) in
      let ws = drop k r.coefficients in
      rw (entry_put p (set (block k k) i e))
      (behind front (entry p (combine ws (set (block k k) i e))) (weight *ℤ entry p (column (k + i))) (entry p (combine ws (block k k))) (weight *ℤ entry p e)
      (rw (get_or-drop k r.coefficients i (pos 0), column_at k k i h) at (replaced_sum p ws (block k k) i e (omega (arith, length_block k k))))
      ∙ ap (λ (x : ℤ). x +ℤ weight *ℤ entry p e) (sym (entry_put p (block k k)) ∙ ap (entry p) (path_row k r narrow)))

  module _ (t u : List ℤ) (long : k + k < length u) (is : u ≡ written (k + k) r t) where
    abbrev cleared : List ℤ
    cleared = set u (1 + (k + i)) (pos 0)

    -- an entry is 0 if it is the column's, and else the row's
    cases : (P : ℤ → Type 0) (p : ℕ) → p ≤ k + k → (p ≡ 1 + (k + i) → P (pos 0)) → (p ≢ 1 + (k + i) → P (entry p r)) → P (get_or cleared p (pos 0))
    cases P p l f g = go (eqb p (1 + (k + i))) refl
      where
        go : (q : Bool) → eqb p (1 + (k + i)) ≡ q → P (get_or cleared p (pos 0))
        go true q = let m : p ≡ 1 + (k + i) = eqb-true p (1 + (k + i)) q in rw (ap (λ (j : ℕ). get_or cleared j (pos 0)) m ∙ get_or-set_same u (1 + (k + i)) (pos 0) (pos 0) (omega arith)) (f m)
        go false q =
            let d : p ≢ 1 + (k + i) = eqb-false p (1 + (k + i)) q in
            rw (get_or-set_other u (1 + (k + i)) p (pos 0) (pos 0) d ∙ ap (λ (l : List ℤ). get_or l p (pos 0)) is ∙ spread_at (stride (k + k)) p r (drop (stride (k + k)) t) (omega arith)) (g d)

    pub cleared_small : {b : ℕ} → SmallRow b r → SmallRow b (held_row (k + k) cleared)
    cleared_small {b} s = held_small (k + k) b cleared (λ p l. cases (λ x. nat_abs x ≤ b) p l (λ m. zero-le) (λ d. s.bound p))

    same : (p : ℕ) → p ≤ k + k → get_or cleared p (pos 0) +ℤ weight *ℤ entry p e ≡ entry p (substitute assigned r)
    same p l = cases (λ x. x +ℤ weight *ℤ entry p e ≡ entry p (substitute assigned r)) p l at_column elsewhere
      where
        at_column : p ≡ 1 + (k + i) → pos 0 +ℤ weight *ℤ entry p e ≡ entry p (substitute assigned r)
        at_column m =
            let q : p ≡ suc (k + i) = omega arith in
            alone (entry p (substitute assigned r)) weight (weight *ℤ entry p e)
            (rw (ap (λ (j : ℕ). entry j (column (k + i))) m ∙ entry_column (k + i), ap (λ (j : ℕ). entry j r) q) at (exchanged p))

        elsewhere : p ≢ 1 + (k + i) → entry p r +ℤ weight *ℤ entry p e ≡ entry p (substitute assigned r)
        elsewhere d = sym (exchanged p) ∙ ap (λ (x : ℤ). entry p (substitute assigned r) +ℤ weight *ℤ x) (entry_other (k + i) p d) ∙ ap (λ (x : ℤ). entry p (substitute assigned r) +ℤ x) (*ℤ-zero weight) ∙ +ℤ_idr (entry p (substitute assigned r))

    pub expression_put : (w : ℤ) (v : List ℤ) → w ≡ weight → v ≡ written (k + k) (add (held_row (k + k) cleared) (scale w e)) cleared → v ≡ written (k + k) (substitute assigned r) t
    expression_put w v ew f =
        f
        ∙ ap₂ (λ (x y : List ℤ). x ++ y)
        (spread_same (stride (k + k)) (add (held_row (k + k) cleared) (scale w e)) (substitute assigned r)
        (λ p l. rw ew (entry_sum p weight e (held_row (k + k) cleared) ∙ ap (λ (x : ℤ). x +ℤ weight *ℤ entry p e) (entry_held (k + k) p cleared (omega arith)) ∙ same p (omega arith))))
        (drop-set-lt (stride (k + k)) u (1 + (k + i)) (pos 0) (omega arith) ∙ ap (drop (stride (k + k))) is ∙ behind_spread (stride (k + k)) r (drop (stride (k + k)) t))
