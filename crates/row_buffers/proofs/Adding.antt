-- Weighted rows added to a buffer's row: one entry, one row, and the rows so far.
use mathlib.Core.Path.{◌≡◌, sym, ap, ap₂, ◌∙◌}
use mathlib.Core.List.{List, ◌++◌}
use Prim.Native.Nat.{ℕ, suc, ◌+◌, ◌-◌, ◌*◌, ◌≤◌, ◌<◌, ◌^◌, min, zero-le}
use native.Mathlib.Numerals.{add-one}
use native.Mathlib.Omega.{arith}
use lib.IntN.{ℤ, pos, nat_abs, ◌+ℤ◌, ◌*ℤ◌, +ℤ_assoc, +ℤ_idl, +ℤ_idr, zero-*ℤ}
use lib.ListN.{length, get_or, take, drop, length-take}
use lib.Seq.{get_or-take, get_or-drop, get_or-append-add, take-take}
use Rattle.rows.specs.Rows.{Row, constant_row, add, scale, combine}
use Rattle.words.specs.Words.{word}
use Rattle.numbers.specs.Small.{Small}
use Rattle.numbers.specs.SmallLaws.{small_at, small_take}
use Rattle.row_buffers.specs.HeldRows.{stride, held_row}
use Rattle.row_buffers.specs.Entries.{entry, Alike}
use Rattle.row_buffers.proofs.Entries.{entry_add, entry_scale, entry_zero, entry_combine_more}
use Rattle.row_buffers.specs.Spread.{spread, written}
use Rattle.row_buffers.proofs.Spread.{length_spread, spread_same, spread_self, behind_spread, entry_held, narrow_held, written_alike}
use Rattle.row_buffers.specs.EntryLimits.{weight_limit, entry_limit, sum_limit, SmallRow, SmallRows}
use Rattle.row_buffers.proofs.EntryLimits.{small_weaken, small_alike, small_add, small_combine, next_fits}
use Rattle.row_buffers.specs.FlatRows.{Narrow}
use Rattle.row_buffers.proofs.FlatRows.{narrow_add, narrow_combine}

-- ---- one entry

-- what the stores have not reached yet
pub unreached : (i : ℕ) (r : Row) (t u : List ℤ) → u ≡ spread i r ++ drop i t → get_or u i (pos 0) ≡ get_or t i (pos 0)
unreached i r t u e =
    let q : length (spread i r) + 0 ≡ i = omega (arith, length_spread i r) in
    let z : i + 0 ≡ i = omega arith in
    ap (λ (l : List ℤ). get_or l i (pos 0)) e ∙ ap (λ (k : ℕ). get_or (spread i r ++ drop i t) k (pos 0)) (sym q)
    ∙ get_or-append-add (spread i r) (drop i t) 0 (pos 0) ∙ get_or-drop i t 0 (pos 0) ∙ ap (λ (k : ℕ). get_or t k (pos 0)) z

pub inside_row : (columns j i places : ℕ) → (j + 1) * stride columns ≤ places → i ≤ columns → j * stride columns + i < places
inside_row columns j i places h k = omega arith

-- an entry of a part of the buffer
pub part_at : (l : List ℤ) (from size i : ℕ) → i < size → get_or (take (from + size - from) (drop from l)) i (pos 0) ≡ get_or l (from + i) (pos 0)
part_at l from size i h = get_or-take (from + size - from) (drop from l) i (pos 0) (omega arith) ∙ get_or-drop from l i (pos 0)

pub entry_sum : (i : ℕ) (w : ℤ) (r s : Row) → entry i (add s (scale w r)) ≡ entry i s +ℤ w *ℤ entry i r
entry_sum i w r s = entry_add i s (scale w r) ∙ ap (λ (z : ℤ). entry i s +ℤ z) (entry_scale i w r)

module _ (rows : List ℤ) (columns j : ℕ) (w : ℤ) (t : List ℤ) where
  abbrev pub added : Row
  added = held_row columns (drop (j * stride columns) rows)

  abbrev pub sum : Row
  sum = add (held_row columns t) (scale w added)

  module _ (i : ℕ) (x a y : ℤ) (h : i ≤ columns) (ex : x ≡ get_or t i (pos 0)) (ea : a ≡ w) (ey : y ≡ get_or rows (j * stride columns + i) (pos 0)) where
    old : x ≡ entry i (held_row columns t)
    old = ex ∙ sym (entry_held columns i t h)

    new : y ≡ entry i added
    new = ey ∙ sym (get_or-drop (j * stride columns) rows i (pos 0)) ∙ sym (entry_held columns i (drop (j * stride columns) rows) h)

    pub entry_added : x +ℤ a *ℤ y ≡ entry i sum
    entry_added = rw (entry_sum i w added (held_row columns t), old, ea, new)

    pub entry_fits : SmallRow sum_limit (held_row columns t) → nat_abs w ≤ weight_limit → SmallRow entry_limit added → nat_abs x + nat_abs a * nat_abs y < 2 ^ 63
    entry_fits st sw sr = rw (old, ea, new) (next_fits (entry i (held_row columns t)) w (entry i added) (st.bound i) sw (sr.bound i))

-- ---- the first row, stored

module _ (rows : List ℤ) (columns : ℕ) (w : ℤ) (i : ℕ) (a y : ℤ) (h : i ≤ columns) (ea : a ≡ w) (ey : y ≡ get_or rows i (pos 0)) where
  pub first_entry : pos 0 +ℤ a *ℤ y ≡ entry i (scale w (held_row columns rows))
  first_entry = rw (entry_scale i w (held_row columns rows), entry_held columns i rows h, ea, ey) (+ℤ_idl (w *ℤ get_or rows i (pos 0)))

  pub first_fits : nat_abs w ≤ weight_limit → SmallRow entry_limit (held_row columns rows) → 0 + nat_abs a * nat_abs y < 2 ^ 63
  first_fits sw sr = let e : y ≡ entry i (held_row columns rows) = ey ∙ sym (entry_held columns i rows h) in rw (ea, e) (next_fits (pos 0) w (entry i (held_row columns rows)) zero-le sw (sr.bound i))

-- a weight of 0
pub first_zero : (columns : ℕ) (t : List ℤ) (w : ℤ) (r : Row) → w ≡ pos 0 → written columns (constant_row (pos 0)) t ≡ written columns (scale w r) t
first_zero columns t w r z = ap (λ (l : List ℤ). l ++ drop (stride columns) t) (spread_same (stride columns) (constant_row (pos 0)) (scale w r) (λ i k. same i))
  where
    same : (i : ℕ) → entry i (constant_row (pos 0)) ≡ entry i (scale w r)
    same i = entry_zero i ∙ sym (rw (entry_scale i w r, z) (zero-*ℤ (entry i r)))

-- ---- a row that adds nothing

pub unchanged : (columns : ℕ) (t : List ℤ) (w : ℤ) (r : Row) → columns < length t → ((i : ℕ) → w *ℤ entry i r ≡ pos 0) → t ≡ written columns (add (held_row columns t) (scale w r)) t
unchanged columns t w r h z =
    spread_self columns t h ∙ ap (λ (l : List ℤ). l ++ drop (stride columns) t) (spread_same (stride columns) (held_row columns t) (add (held_row columns t) (scale w r)) (λ i k. same i))
  where
    same : (i : ℕ) → entry i (held_row columns t) ≡ entry i (add (held_row columns t) (scale w r))
    same i = sym (rw (entry_sum i w r (held_row columns t), z i) (+ℤ_idr (entry i (held_row columns t))))

-- a weight of 0
pub unweighted : (columns : ℕ) (t : List ℤ) (w : ℤ) (r : Row) → columns < length t → w ≡ pos 0 → t ≡ written columns (add (held_row columns t) (scale w r)) t
unweighted columns t w r h z = unchanged columns t w r h (λ i. rw (z, zero-*ℤ))

-- ---- the rows so far

module _ (columns : ℕ) (rs : List Row) (words : List ℤ) (from : ℕ) (t : List ℤ) where
  abbrev pub so_far : ℕ → Row
  so_far j = add (held_row columns t) (combine (take j (drop from words)) rs)

  entry_so_far : (i j : ℕ) → entry i (so_far j) ≡ entry i (held_row columns t) +ℤ entry i (combine (take j (drop from words)) rs)
  entry_so_far i j = entry_add i (held_row columns t) (combine (take j (drop from words)) rs)

  pub none_added : columns < length t → t ≡ written columns (so_far 0) t
  unfolding combine
  none_added h = spread_self columns t h ∙ ap (λ (l : List ℤ). l ++ drop (stride columns) t) (spread_same (stride columns) (held_row columns t) (so_far 0) (λ i k. same i))
    where
      same : (i : ℕ) → entry i (held_row columns t) ≡ entry i (so_far 0)
      same i = sym (entry_so_far i 0 ∙ ap (λ (z : ℤ). entry i (held_row columns t) +ℤ z) (entry_zero i) ∙ +ℤ_idr (entry i (held_row columns t)))

  module _ (narrow : Narrow columns rs) (j : ℕ) (u : List ℤ) (e : u ≡ written columns (so_far j) t) where
    read_again : Alike (held_row columns u) (so_far j)
    read_again = written_alike columns (so_far j) u t (narrow_add (held_row columns t) (combine (take j (drop from words)) rs) (narrow_held columns t) (narrow_combine (take j (drop from words)) narrow)) e

    pub one_more : (r : Row) (v : List ℤ) → get_or rs j (constant_row (pos 0)) ≡ r
        → v ≡ written columns (add (held_row columns u) (scale (word words (from + j)) r)) u → v ≡ written columns (so_far (j + 1)) t
    one_more r v er f =
        f ∙ ap₂ (λ (a b : List ℤ). a ++ b) (spread_same (stride columns) (add (held_row columns u) (scale (word words (from + j)) r)) (so_far (j + 1)) (λ i k. same i))
        (ap (drop (stride columns)) e ∙ behind_spread (stride columns) (so_far j) (drop (stride columns) t))
      where
        more : (i : ℕ) → entry i (so_far (suc j)) ≡ entry i (so_far j) +ℤ word words (from + j) *ℤ entry i r
        more i = rw (entry_so_far i (suc j), entry_combine_more i j (drop from words) rs, ← +ℤ_assoc, ← entry_so_far i j, get_or-drop from words j (pos 0), er)

        same : (i : ℕ) → entry i (add (held_row columns u) (scale (word words (from + j)) r)) ≡ entry i (so_far (j + 1))
        same i = rw (add-one j, more i, entry_sum i (word words (from + j)) r (held_row columns u), read_again.same i)

    -- what more rows can be added to: no more than `most` are, and t's row leaves as much
    pub sum_small : (b most n : ℕ) → b + most * (weight_limit * entry_limit) ≤ sum_limit → j ≤ most → j < n → SmallRows entry_limit rs → Small weight_limit (take n (drop from words))
        → SmallRow b (held_row columns t) → SmallRow sum_limit (held_row columns u)
    sum_small b most n enough few h hr hw ht =
        let k : j ≤ n = omega arith in
        let ws = rw (take-take j n (drop from words) k) at (small_take weight_limit j (take n (drop from words)) hw) in
        let many : min (length (take j (drop from words))) (length rs) ≤ most = omega (arith, length-take j (drop from words)) in
        small_weaken enough (small_alike read_again (small_add ht (small_combine weight_limit most (take j (drop from words)) many ws hr)))

pub weight_small : (words : List ℤ) (from n j : ℕ) → Small weight_limit (take n (drop from words)) → j < n → nat_abs (word words (from + j)) ≤ weight_limit
weight_small words from n j hw h = rw (get_or-take n (drop from words) j (pos 0) h, get_or-drop from words j (pos 0)) at (small_at weight_limit (take n (drop from words)) hw j)
