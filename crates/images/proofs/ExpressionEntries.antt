-- A weighted expression over the columns now, added to a buffer's row: its entries are the constant and the k coefficients, and 0 elsewhere, so
-- the others of the buffer stay.
use mathlib.Core.Path.{◌≡◌, refl, sym, ap, ap₂, ◌∙◌}
use mathlib.Core.List.{List, ◌++◌}
use Prim.Native.Nat.{ℕ, zero, suc, ◌+◌, ◌*◌, ◌-◌, ◌^◌, ◌≤◌, ◌<◌, zero-le}
use native.Mathlib.Nat.{add-zero}
use native.Mathlib.Omega.{arith}
use lib.IntN.{ℤ, pos, nat_abs, ◌+ℤ◌, ◌*ℤ◌, +ℤ_idr, *ℤ-zero}
use lib.ListN.{length, get_or, drop}
use lib.Seq.{set-get_or}
use Rattle.rows.specs.Rows.{Row, add, scale, substitute}
use Rattle.rows.specs.Columns.{columns as block}
use Rattle.words.specs.Words.{word}
use Rattle.words.specs.RowWords.{constant_words, constant_at, row_of}
use Rattle.row_buffers.specs.HeldRows.{stride, held_row}
use Rattle.row_buffers.specs.Entries.{entry}
use Rattle.row_buffers.specs.EntryLimits.{weight_limit, entry_limit, sum_limit, SmallRow}
use Rattle.row_buffers.proofs.EntryLimits.{next_fits}
use Rattle.row_buffers.specs.Spread.{spread}
use Rattle.row_buffers.proofs.Spread.{spread_store, entry_held}
use Rattle.row_buffers.proofs.RowsOfWords.{entry_constant, entry_coefficient}
use Rattle.row_buffers.proofs.MovedColumns.{moved_constant, moved_inside, moved_outside}
use Rattle.row_buffers.proofs.Adding.{entry_sum, unreached}

module _ (words : List ℤ) (place k columns : ℕ) (w : ℤ) (t : List ℤ) where
  abbrev pub expression : Row
  expression = substitute (block k k) (row_of k (drop place words))

  abbrev pub sum : Row
  sum = add (held_row columns t) (scale w expression)

  -- the sum's entries before place p, and from there on the buffer's own
  abbrev pub reached : ℕ → List ℤ
  reached p = spread p sum ++ drop p t

  -- ---- entries of the sum

  entry_is : (p : ℕ) (y : ℤ) → p ≤ columns → entry p expression ≡ y → entry p sum ≡ get_or t p (pos 0) +ℤ w *ℤ y
  entry_is p y h e = entry_sum p w expression (held_row columns t) ∙ ap₂ (λ (a b : ℤ). a +ℤ w *ℤ b) (entry_held columns p t h) e

  pub constant_added : (x a y : ℤ) → x ≡ get_or t 0 (pos 0) → a ≡ w → y ≡ constant_at words place → x +ℤ a *ℤ y ≡ entry 0 sum
  constant_added x a y ex ea ey =
      rw (ex, ea, ey) (sym (entry_is 0 (constant_at words place) zero-le (moved_constant k k (row_of k (drop place words)) ∙ entry_constant k place words)))

  pub coefficient_added : (i : ℕ) (x a y : ℤ) → i < k → k + k ≤ columns → x ≡ get_or t (1 + k + i) (pos 0) → a ≡ w → y ≡ word words (place + constant_words + i) → x +ℤ a *ℤ y ≡ entry (1 + k + i) sum
  coefficient_added i x a y h l ex ea ey =
      let e : 1 + k + i - k ≡ suc i = omega arith in
      rw (ex, ea, ey)
      (sym (entry_is (1 + k + i) (word words (place + constant_words + i)) (omega arith)
      (moved_inside k k (row_of k (drop place words)) (1 + k + i) (omega arith) (omega arith) ∙ ap (λ (j : ℕ). entry j (row_of k (drop place words))) e ∙ entry_coefficient k place i words h)))

  pub entry_fits : (p : ℕ) (x a y z : ℤ) → p ≤ columns → x ≡ get_or t p (pos 0) → a ≡ w → y ≡ z → SmallRow sum_limit (held_row columns t) → nat_abs w ≤ weight_limit → nat_abs z ≤ entry_limit
      → nat_abs x + nat_abs a * nat_abs y < 2 ^ 63
  entry_fits p x a y z h ex ea ey st sw sz = rw (ex ∙ sym (entry_held columns p t h), ea, ey) (next_fits (entry p (held_row columns t)) w z (st.bound p) sw sz)

  -- ---- entries that are passed over

  untouched : (p : ℕ) → 0 < p → p ≤ columns → (k < p → p ≤ k + k → ⊥) → entry p sum ≡ get_or t p (pos 0)
  untouched p h l o =
      entry_is p (pos 0) l (moved_outside k k (row_of k (drop place words)) p h o) ∙ ap (λ (z : ℤ). get_or t p (pos 0) +ℤ z) (*ℤ-zero w) ∙ +ℤ_idr (get_or t p (pos 0))

  passed : (p : ℕ) → p < length t → entry p sum ≡ get_or t p (pos 0) → reached p ≡ reached (p + 1)
  passed p h e =
      sym (set-get_or (reached p) p (pos 0))
      ∙ spread_store sum p t (reached p) (get_or (reached p) p (pos 0)) h refl (unreached p sum t (reached p) refl ∙ sym e)

  all_passed : (p n : ℕ) → p + n ≤ length t → ((q : ℕ) → p ≤ q → q < p + n → entry q sum ≡ get_or t q (pos 0)) → reached p ≡ reached (p + n)
  all_passed p zero h f = rw add-zero
  all_passed p (suc n) h f =
      let e : p + n + 1 ≡ p + suc n = omega arith in
      all_passed p n (omega arith) (λ q a b. f q a (omega arith)) ∙ passed (p + n) (omega arith) (f (p + n) (omega arith) (omega arith)) ∙ ap reached e

  -- the columns at entry
  pub entry_passed : k + k ≤ columns → columns < length t → reached 1 ≡ reached (1 + k)
  entry_passed l h = all_passed 1 k (omega arith) (λ q a b. untouched q (omega arith) (omega arith) (λ c d. omega arith))

  -- those behind the columns now
  pub rest_passed : k + k ≤ columns → columns < length t → reached (1 + k + k) ≡ reached (stride columns)
  rest_passed l h =
      let e : 1 + k + k + (columns - (k + k)) ≡ stride columns = omega arith in
      all_passed (1 + k + k) (columns - (k + k)) (omega arith) (λ q a b. untouched q (omega arith) (omega arith) (λ c d. omega arith)) ∙ ap reached e
