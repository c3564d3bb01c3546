-- A weighted sparse row added to a buffer's row, coefficient by coefficient: a column that comes next has nothing of the row yet, because columns rise.
use mathlib.Core.Path.{◌≡◌, refl, sym, ap, ap₂, ◌∙◌}
use mathlib.Core.Logic.{◌≢◌}
use mathlib.Core.List.{List, ◌++◌}
use Prim.Native.Nat.{ℕ, zero, suc, ◌+◌, ◌*◌, ◌^◌, ◌≤◌, ◌<◌, zero-le}
use native.Mathlib.Omega.{arith}
use lib.IntN.{ℤ, pos, nat_abs, ◌+ℤ◌, ◌*ℤ◌, +ℤ_idr, *ℤ-zero}
use lib.ListN.{length, get_or, drop, set}
use lib.Seq.{set-append_left}
use Rattle.rows.specs.Rows.{Row, add, scale}
use Rattle.words.specs.Limits.{constant_limit}
use Rattle.words.specs.Words.{word, number}
use Rattle.words.specs.RowWords.{constant_at}
use Rattle.words.proofs.RowLaws.{constant_dropped}
use Rattle.words.specs.SparseRows.{used_of, arrays_from, sparse_row_of}
use Rattle.sparse_rows.specs.SparsePlaces.{column_low, coefficient_low}
use Rattle.row_buffers.specs.HeldRows.{stride, held_row}
use Rattle.row_buffers.specs.Entries.{entry}
use Rattle.row_buffers.specs.Spread.{spread, written}
use Rattle.row_buffers.proofs.Spread.{length_spread, spread_at, spread_self, entry_held}
use Rattle.row_buffers.specs.EntryLimits.{weight_limit, sum_limit, SmallRow}
use Rattle.row_buffers.proofs.EntryLimits.{next_fits}
use Rattle.row_buffers.proofs.RowsOfWords.{size}
use Rattle.row_buffers.specs.Scattered.{part_row}
use Rattle.row_buffers.proofs.Scattered.{spread_set, entry_set, entry_kept, part_first, part_next, part_all, part_length, part_zero}
use Rattle.row_buffers.specs.PlacedRows.{SparseHere}
use Rattle.row_buffers.proofs.Adding.{entry_sum}

-- rows that were written, and differ in entry p at most
written_set : (columns p : ℕ) (r s : Row) (x : ℤ) (t u : List ℤ) → p ≤ columns → u ≡ written columns r t → x ≡ entry p s → ((i : ℕ) → i ≢ p → entry i r ≡ entry i s) → set u p x ≡ written columns s t
written_set columns p r s x t u h e f o =
    rw e
    (set-append_left (spread (stride columns) r) (drop (stride columns) t) p x (omega (arith, length_spread (stride columns) r))
    ∙ ap (λ (l : List ℤ). l ++ drop (stride columns) t) (spread_set (stride columns) p r s x (omega arith) f o))

module _ (m : ℕ) (words : List ℤ) (place columns : ℕ) (w : ℤ) (t : List ℤ) where
  -- the sum with the constant and the first j coefficients
  abbrev pub part_sum : ℕ → Row
  part_sum j = add (held_row columns t) (scale w (part_row m words place j))

  entry_part : (i j : ℕ) → entry i (part_sum j) ≡ entry i (held_row columns t) +ℤ w *ℤ entry i (part_row m words place j)
  entry_part i j = entry_sum i w (part_row m words place j) (held_row columns t)

  -- a column that the row doesn't have, or not yet
  as_before : (i j : ℕ) → entry i (part_row m words place j) ≡ pos 0 → entry i (part_sum j) ≡ entry i (held_row columns t)
  as_before i j z = entry_part i j ∙ ap (λ (y : ℤ). entry i (held_row columns t) +ℤ w *ℤ y) z ∙ ap (λ (y : ℤ). entry i (held_row columns t) +ℤ y) (*ℤ-zero w) ∙ +ℤ_idr (entry i (held_row columns t))

  pub constant_added : (x y z : ℤ) → columns < length t → x ≡ y +ℤ w *ℤ z → y ≡ get_or t 0 (pos 0) → z ≡ constant_at words place → set t 0 x ≡ written columns (part_sum 0) t
  constant_added x y z h e ey ez = written_set columns 0 (held_row columns t) (part_sum 0) x t t (omega arith) (spread_self columns t h) new other
    where
      new : x ≡ entry 0 (part_sum 0)
      new = e ∙ ap₂ (λ (a b : ℤ). a +ℤ w *ℤ b) (ey ∙ sym (entry_held columns 0 t (omega arith))) ez ∙ sym (entry_part 0 0 ∙ unfold entry part_row in refl)

      other : (i : ℕ) → i ≢ 0 → entry i (held_row columns t) ≡ entry i (part_sum 0)
      other zero d = absurd (d refl)
      other (suc i) d = sym (as_before (suc i) 0 (part_first m words place i))

  pub sparse_added : (j : ℕ) → SparseHere m words place → j ≡ used_of m (drop place words) → (u : List ℤ) → u ≡ written columns (part_sum j) t
      → u ≡ written columns (add (held_row columns t) (scale w (sparse_row_of m (drop place words)))) t
  sparse_added j s q u e = e ∙ ap (λ (r : Row). written columns (add (held_row columns t) (scale w r)) t) (ap (part_row m words place) q ∙ part_all m words place s.inside)

  module _ (s : SparseHere m words place) where
    pub constant_fits : (y z : ℤ) → y ≡ get_or t 0 (pos 0) → z ≡ constant_at words place → SmallRow sum_limit (held_row columns t) → nat_abs w ≤ weight_limit → nat_abs y + nat_abs w * nat_abs z < 2 ^ 63
    constant_fits y z ey ez st sw =
        let small = rw (constant_dropped place words) at (size constant_limit (constant_at (drop place words) 0) s.formed.constant) in
        rw (ey, ← entry_held columns 0 t zero-le) (next_fits (entry 0 (held_row columns t)) w z (st.bound 0) sw (rw ez (omega (arith, small))))

    module _ (wide : m ≤ columns) (j : ℕ) (h : j < used_of m (drop place words)) (c : ℕ) (ec : c ≡ number m (word words (place + arrays_from + j))) (u : List ℤ) (e : u ≡ written columns (part_sum j) t) where
      low : c < m
      low = rw ec (column_low m words place j h s.formed)

      nothing_yet : entry (1 + c) (part_row m words place j) ≡ pos 0
      unfolding entry
      nothing_yet = let p : 1 + c ≡ suc c = omega arith in rw p (rw ec (part_zero m words place s.inside s.strict j h))

      -- the column's entry is the target's own
      pub column_before : get_or u (1 + c) (pos 0) ≡ entry (1 + c) (held_row columns t)
      column_before =
          ap (λ (l : List ℤ). get_or l (1 + c) (pos 0)) e
          ∙ spread_at (stride columns) (1 + c) (part_sum j) (drop (stride columns) t) (omega (arith, low)) ∙ as_before (1 + c) j nothing_yet

      pub coefficient_added : (x y z : ℤ) → x ≡ y +ℤ w *ℤ z → y ≡ get_or u (1 + c) (pos 0) → z ≡ word words (place + arrays_from + used_of m (drop place words) + j) → set u (1 + c) x ≡ written columns (part_sum (j + 1)) t
      coefficient_added x y z ex ey ez = written_set columns (1 + c) (part_sum j) (part_sum (j + 1)) x t u (omega (arith, low)) e new other
        where
          more : (part_row m words place (j + 1)).coefficients ≡ set (part_row m words place j).coefficients c z
          more = part_next m words place s.inside j h ∙ ap₂ (set (part_row m words place j).coefficients) (sym ec) (sym ez)

          new : x ≡ entry (1 + c) (part_sum (j + 1))
          new =
              ex ∙ ap₂ (λ (a b : ℤ). a +ℤ w *ℤ b) (ey ∙ column_before) (entry_set (part_row m words place j) (part_row m words place (j + 1)) c z more (omega (arith, low, part_length m words place j)))
              ∙ sym (entry_part (1 + c) (j + 1))

          other : (i : ℕ) → i ≢ 1 + c → entry i (part_sum j) ≡ entry i (part_sum (j + 1))
          other i d =
              entry_part i j ∙ ap (λ (y : ℤ). entry i (held_row columns t) +ℤ w *ℤ y) (entry_kept (part_row m words place j) (part_row m words place (j + 1)) c z more (unfold part_row in refl) i d)
              ∙ sym (entry_part i (j + 1))

      pub coefficient_fits : (y z : ℤ) → y ≡ get_or u (1 + c) (pos 0) → z ≡ word words (place + arrays_from + used_of m (drop place words) + j) → SmallRow sum_limit (held_row columns t) → nat_abs w ≤ weight_limit
          → nat_abs y + nat_abs w * nat_abs z < 2 ^ 63
      coefficient_fits y z ey ez st sw =
          rw (ey, column_before)
          (next_fits (entry (1 + c) (held_row columns t)) w z (st.bound (1 + c)) sw (rw ez (omega (arith, size _ _ (coefficient_low m words place j h s.formed)))))
