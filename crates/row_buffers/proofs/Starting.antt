-- Rows that begin as a constant, to which weighted rows are added: a weighted sum, and a substituted row.
use mathlib.Core.Path.{◌≡◌, refl, sym, ap, ap₂, ◌∙◌}
use mathlib.Core.List.{List, [], ◌∷◌, ◌++◌, append_assoc}
use Prim.Native.Nat.{ℕ, zero, suc, ◌+◌, ◌≤◌, ◌<◌, zero-le}
use native.Mathlib.Omega.{arith}
use lib.IntN.{ℤ, pos, nat_abs, +ℤ_idl}
use lib.ListN.{length, take, drop, set, length-append, length-drop}
use Rattle.rows.specs.Rows.{Row, constant_row, add, combine, substitute}
use Rattle.words.specs.RowWords.{constant_words, constant_at, row_of}
use Rattle.row_buffers.specs.HeldRows.{stride, held_row}
use Rattle.row_buffers.specs.Entries.{entry, Alike}
use Rattle.row_buffers.proofs.Entries.{add_alike, entry_add, entry_zero}
use Rattle.row_buffers.specs.Spread.{spread, written, NarrowRow}
use Rattle.row_buffers.proofs.Spread.{length_spread, spread_alike, behind_spread, written_alike}
use Rattle.row_buffers.specs.EntryLimits.{SmallRow}
use Rattle.row_buffers.proofs.EntryLimits.{small_alike, small_constant}
use Rattle.row_buffers.proofs.RowsOfWords.{constant_at_lem, coefficients_at}

-- ---- a constant, stored over the first of the zeros

stored_first : (n : ℕ) (c x : ℤ) (rest : List ℤ) → set (spread (suc n) (constant_row c) ++ rest) 0 x ≡ spread (suc n) (constant_row x) ++ rest
unfolding spread entry constant_row
stored_first zero c x rest = refl
stored_first (suc n) c x rest =
    rw (append_assoc (spread (suc n) (constant_row c)) (pos 0 ∷ []) rest, append_assoc (spread (suc n) (constant_row x)) (pos 0 ∷ []) rest) (stored_first n c x (pos 0 ∷ rest))

pub constant_stored : (columns : ℕ) (x y : ℤ) (t u : List ℤ) → u ≡ written columns (constant_row (pos 0)) t → x ≡ y → set u 0 x ≡ written columns (constant_row y) t
constant_stored columns x y t u e f = let s : 1 + columns ≡ suc columns = omega arith in rw (e, f, s) (stored_first columns (pos 0) y (drop (suc columns) t))

-- ---- what rows are added to

-- a row that was written
module _ (columns : ℕ) (r : Row) (narrow : NarrowRow columns r) (t u : List ℤ) (e : u ≡ written columns r t) where
  read_again : Alike (held_row columns u) r
  read_again = written_alike columns r u t narrow e

  pub held_small : {b : ℕ} → SmallRow b r → SmallRow b (held_row columns u)
  held_small h = small_alike read_again h

  pub added_over : (s : Row) (v : List ℤ) → v ≡ written columns (add (held_row columns u) s) u → v ≡ written columns (add r s) t
  added_over s v f =
      f ∙ ap₂ (λ (a b : List ℤ). a ++ b) (spread_alike (stride columns) (add_alike read_again (record { same = λ i. refl })))
      (ap (drop (stride columns)) e ∙ behind_spread (stride columns) r (drop (stride columns) t))

-- a constant
module _ (columns : ℕ) (c : ℤ) (t u : List ℤ) (e : u ≡ written columns (constant_row c) t) where
  none : NarrowRow columns (constant_row c)
  unfolding constant_row
  none = zero-le

  pub start_small : {b : ℕ} → nat_abs c ≤ b → SmallRow b (held_row columns u)
  start_small h = held_small columns (constant_row c) none t u e (small_constant c h)

  pub added_to : (s : Row) (v : List ℤ) → v ≡ written columns (add (held_row columns u) s) u → v ≡ written columns (add (constant_row c) s) t
  added_to = added_over columns (constant_row c) none t u e

pub added_to_zeros : (columns : ℕ) (s : Row) (t v : List ℤ) → v ≡ written columns (add (constant_row (pos 0)) s) t → v ≡ written columns s t
added_to_zeros columns s t v f = f ∙ ap (λ (l : List ℤ). l ++ drop (stride columns) t) (spread_alike (stride columns) (record { same = same }))
  where
    same : (i : ℕ) → entry i (add (constant_row (pos 0)) s) ≡ entry i s
    same i = rw (entry_add i (constant_row (pos 0)) s, entry_zero) (+ℤ_idl (entry i s))

-- ---- a row that is stored, as one that is added to zeros

-- zeros over the front of a buffer
abbrev pub cleared : ℕ → List ℤ → List ℤ
cleared columns t = written columns (constant_row (pos 0)) t

pub length_cleared : (columns : ℕ) (t : List ℤ) → columns < length t → length (cleared columns t) ≡ length t
length_cleared columns t h =
    length-append (spread (stride columns) (constant_row (pos 0))) (drop (stride columns) t) ∙ omega (arith, length_spread (stride columns) (constant_row (pos 0)), length-drop (stride columns) t)

module _ (columns : ℕ) (r : Row) (t v : List ℤ) (e : v ≡ written columns r t) where
  behind : drop (stride columns) v ≡ drop (stride columns) t
  behind = ap (drop (stride columns)) e ∙ behind_spread (stride columns) r (drop (stride columns) t)

  -- a row that is written over it
  pub over_it : (s : Row) → written columns s v ≡ written columns s t
  over_it s = ap (λ (l : List ℤ). spread (stride columns) s ++ l) behind

  pub stored_added : v ≡ written columns (add (held_row columns (cleared columns v)) r) (cleared columns v)
  stored_added =
      e ∙ ap₂ (λ (a b : List ℤ). a ++ b) (spread_alike (stride columns) (record { same = same })) (sym behind ∙ sym (behind_spread (stride columns) (constant_row (pos 0)) (drop (stride columns) v)))
    where
      same : (i : ℕ) → entry i r ≡ entry i (add (held_row columns (cleared columns v)) r)
      same i = sym (rw (entry_add i (held_row columns (cleared columns v)) r, (read_again columns (constant_row (pos 0)) (none columns (pos 0) v (cleared columns v) refl) v (cleared columns v) refl).same i, entry_zero) (+ℤ_idl (entry i r)))

-- ---- the row at a place of the words, with an image put in

pub substituted : (m from : ℕ) (words : List ℤ) (image : List Row)
    → add (constant_row (constant_at words from)) (combine (take m (drop (from + constant_words) words)) image) ≡ substitute image (row_of m (drop from words))
unfolding substitute
substituted m from words image = rw (constant_at_lem m from words, coefficients_at m from words)
