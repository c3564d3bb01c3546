-- Entries of rows: entry 0 is the constant, entry 1 + i the coefficient of column i, so that both share each law.
-- Rows are alike if their entries are the same: then they differ in trailing zeros at most, and no value tells them apart.
use Rattle.std.specs.Prelude.{◌≡◌, refl, ℤ, pos, ◌+ℤ◌, ◌*ℤ◌, length, take, drop, set}
use Rattle.std.proofs.Math.Path.{sym, ap}
use Rattle.std.proofs.Common.{ap₂, ◌∙◌, arith}
use Prim.Native.Nat.{ℕ, zero, suc, ◌<◌}
use mathlib.Core.List.{List, [], ◌∷◌, ◌++◌}
use Rattle.std.proofs.Math.IntN.{+ℤ_assoc, +ℤ_comm, +ℤ_idl, +ℤ_idr, *ℤ-zero, zero-*ℤ}
use Rattle.std.proofs.Math.ListN.{get_or}
use Rattle.rows.specs.Rows.{Row, constant_row, add, scale, combine}
use Rattle.rows.specs.Columns.{zeros}
use Rattle.rows.proofs.Agreement.{get_or_plus, get_or_scaled}
use Rattle.row_buffers.specs.Entries.{Alike, AllAlike, cons, entry, nil}

pub length_alike : {rs ss : List Row} → AllAlike rs ss → length rs ≡ length ss
length_alike nil = refl
length_alike (cons h hs) = ap suc (length_alike hs)

-- ---- entries of sums

pub entry_add : (i : ℕ) (r s : Row) → entry i (add r s) ≡ entry i r +ℤ entry i s
unfolding entry add
entry_add zero r s = refl
entry_add (suc i) r s = get_or_plus r.coefficients s.coefficients i

pub entry_scale : (i : ℕ) (m : ℤ) (r : Row) → entry i (scale m r) ≡ m *ℤ entry i r
unfolding entry scale
entry_scale zero m r = refl
entry_scale (suc i) m r = get_or_scaled m r.coefficients i

pub entry_zero : (i : ℕ) → entry i (constant_row (pos 0)) ≡ pos 0
unfolding entry constant_row
entry_zero zero = refl
entry_zero (suc i) = refl

-- one weighted row more
pub entry_combine : (i : ℕ) (w : ℤ) (ws : List ℤ) (r : Row) (rs : List Row) → entry i (combine (w ∷ ws) (r ∷ rs)) ≡ w *ℤ entry i r +ℤ entry i (combine ws rs)
unfolding combine
entry_combine i w ws r rs = entry_add i (scale w r) (combine ws rs) ∙ ap (λ (z : ℤ). z +ℤ entry i (combine ws rs)) (entry_scale i w r)

-- no row
pub entry_combine_none : (i : ℕ) (ws : List ℤ) → entry i (combine ws []) ≡ pos 0
unfolding combine
entry_combine_none i [] = entry_zero i
entry_combine_none i (w ∷ ws) = entry_zero i

-- rows behind others have the weights behind theirs
pub entry_combine_append : (i : ℕ) (ws : List ℤ) (rs ss : List Row) → entry i (combine ws (rs ++ ss)) ≡ entry i (combine ws rs) +ℤ entry i (combine (drop (length rs) ws) ss)
unfolding combine
entry_combine_append i [] [] ss = rw entry_zero refl
entry_combine_append i [] (r ∷ rs) ss = rw entry_zero refl
entry_combine_append i (w ∷ ws) [] ss = rw entry_zero (sym (+ℤ_idl (entry i (combine (w ∷ ws) ss))))
entry_combine_append i (w ∷ ws) (r ∷ rs) ss =
    entry_combine i w ws r (rs ++ ss) ∙ ap (λ (x : ℤ). w *ℤ entry i r +ℤ x) (entry_combine_append i ws rs ss)
    ∙ sym (+ℤ_assoc (w *ℤ entry i r) (entry i (combine ws rs)) (entry i (combine (drop (length rs) ws) ss)))
    ∙ ap (λ (x : ℤ). x +ℤ entry i (combine (drop (length rs) ws) ss)) (sym (entry_combine i w ws r rs))

-- and so have rows behind as many as there are weights before theirs
pub entry_combine_both : (i : ℕ) (xs ys : List ℤ) (rs ss : List Row) → length xs ≡ length rs → entry i (combine (xs ++ ys) (rs ++ ss)) ≡ entry i (combine xs rs) +ℤ entry i (combine ys ss)
unfolding combine
entry_combine_both i [] ys [] ss h = rw entry_zero (sym (+ℤ_idl (entry i (combine ys ss))))
entry_combine_both i [] ys (r ∷ rs) ss h = absurd (omega arith)
entry_combine_both i (x ∷ xs) ys [] ss h = absurd (omega arith)
entry_combine_both i (x ∷ xs) ys (r ∷ rs) ss h =
    entry_combine i x (xs ++ ys) r (rs ++ ss) ∙ ap (λ (z : ℤ). x *ℤ entry i r +ℤ z) (entry_combine_both i xs ys rs ss (omega arith))
    ∙ sym (+ℤ_assoc (x *ℤ entry i r) (entry i (combine xs rs)) (entry i (combine ys ss)))
    ∙ ap (λ (z : ℤ). z +ℤ entry i (combine ys ss)) (sym (entry_combine i x xs r rs))

zero_times : (x : ℤ) → pos 0 ≡ pos 0 +ℤ pos 0 *ℤ x
zero_times x = sym (ap (λ (z : ℤ). pos 0 +ℤ z) (zero-*ℤ x))

times_zero : (w : ℤ) → pos 0 ≡ pos 0 +ℤ w *ℤ pos 0
times_zero w = sym (ap (λ (z : ℤ). pos 0 +ℤ z) (*ℤ-zero w))

-- one weighted row more, at the end, as a loop adds it
module _ (i : ℕ) where
  pub entry_combine_more : (j : ℕ) (ws : List ℤ) (rs : List Row)
      → entry i (combine (take (suc j) ws) rs) ≡ entry i (combine (take j ws) rs) +ℤ get_or ws j (pos 0) *ℤ entry i (get_or rs j (constant_row (pos 0)))
  unfolding combine
  entry_combine_more zero [] rs = rw entry_zero (zero_times (entry i (get_or rs 0 (constant_row (pos 0)))))
  entry_combine_more zero (w ∷ ws) [] = rw entry_zero (times_zero w)
  entry_combine_more zero (w ∷ ws) (r ∷ rs) = rw (entry_combine i w [] r rs, entry_zero) (+ℤ_idr (w *ℤ entry i r) ∙ sym (+ℤ_idl (w *ℤ entry i r)))
  entry_combine_more (suc j) [] rs = rw entry_zero (zero_times (entry i (get_or rs (suc j) (constant_row (pos 0)))))
  entry_combine_more (suc j) (w ∷ ws) [] = rw entry_zero (times_zero (get_or ws j (pos 0)))
  entry_combine_more (suc j) (w ∷ ws) (r ∷ rs) =
      entry_combine i w (take (suc j) ws) r rs ∙ ap (λ (z : ℤ). w *ℤ entry i r +ℤ z) (entry_combine_more j ws rs)
      ∙ sym (+ℤ_assoc (w *ℤ entry i r) (entry i (combine (take j ws) rs)) (get_or ws j (pos 0) *ℤ entry i (get_or rs j (constant_row (pos 0)))))
      ∙ ap (λ (z : ℤ). z +ℤ get_or ws j (pos 0) *ℤ entry i (get_or rs j (constant_row (pos 0)))) (sym (entry_combine i w (take j ws) r rs))

  -- all weights 0
  pub entry_combine_zeros : (m : ℕ) (rs : List Row) → entry i (combine (zeros m) rs) ≡ pos 0
  unfolding combine zeros
  entry_combine_zeros zero rs = entry_zero i
  entry_combine_zeros (suc m) [] = entry_zero i
  entry_combine_zeros (suc m) (r ∷ rs) = rw (entry_combine i (pos 0) (zeros m) r rs, entry_combine_zeros m rs) (sym (zero_times (entry i r) ∙ +ℤ_idl (pos 0 *ℤ entry i r) ∙ sym (+ℤ_idr (pos 0 *ℤ entry i r))))

  -- a weight that was 0, set: its row is added
  pub entry_combine_set : (ws : List ℤ) (rs : List Row) (c : ℕ) (x : ℤ) → c < length ws → get_or ws c (pos 0) ≡ pos 0
      → entry i (combine (set ws c x) rs) ≡ entry i (combine ws rs) +ℤ x *ℤ entry i (get_or rs c (constant_row (pos 0)))
  unfolding combine
  entry_combine_set [] rs c x h e = absurd (omega arith)
  entry_combine_set (w ∷ ws) [] zero x h e = rw entry_zero (times_zero x)
  entry_combine_set (w ∷ ws) [] (suc c) x h e = rw entry_zero (times_zero x)
  entry_combine_set (w ∷ ws) (r ∷ rs) zero x h e =
      let behind = entry i (combine ws rs) in
      rw (entry_combine i x ws r rs, entry_combine i w ws r rs, e)
      (+ℤ_comm (x *ℤ entry i r) behind ∙ ap (λ (z : ℤ). z +ℤ x *ℤ entry i r) (sym (ap (λ (z : ℤ). z +ℤ behind) (zero-*ℤ (entry i r)) ∙ +ℤ_idl behind)))
  entry_combine_set (w ∷ ws) (r ∷ rs) (suc c) x h e =
      let row = entry i (get_or rs c (constant_row (pos 0))) in
      entry_combine i w (set ws c x) r rs ∙ ap (λ (z : ℤ). w *ℤ entry i r +ℤ z) (entry_combine_set ws rs c x (omega arith) e)
      ∙ sym (+ℤ_assoc (w *ℤ entry i r) (entry i (combine ws rs)) (x *ℤ row)) ∙ ap (λ (z : ℤ). z +ℤ x *ℤ row) (sym (entry_combine i w ws r rs))

-- ---- sums of rows that are alike

pub add_alike : {a b r s : Row} → Alike a b → Alike r s → Alike (add a r) (add b s)
add_alike {a} {b} {r} {s} h k = record { same = λ i. entry_add i a r ∙ ap₂ (λ (x y : ℤ). x +ℤ y) (h.same i) (k.same i) ∙ sym (entry_add i b s) }

pub combine_alike : (ws : List ℤ) {rs ss : List Row} → AllAlike rs ss → Alike (combine ws rs) (combine ws ss)
unfolding combine
combine_alike [] h = record { same = λ i. refl }
combine_alike (w ∷ ws) nil = record { same = λ i. refl }
combine_alike (w ∷ ws) (cons {r} {s} {rs} {ss} e h) =
    record { same = λ i. entry_combine i w ws r rs ∙ ap₂ (λ (x y : ℤ). w *ℤ x +ℤ y) (e.same i) ((combine_alike ws h).same i) ∙ sym (entry_combine i w ws s ss) }
