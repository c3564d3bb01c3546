-- The arrays of a sparse row, as a loop over a dense row's coefficients writes them: a turn adds a column and a coefficient, or nothing.
use Rattle.std.specs.Prelude.{◌≡◌, Bool, true, false, get_or, take, drop}
use Rattle.std.proofs.Math.Path.{refl, sym, ap}
use Rattle.std.proofs.Common.{◌∙◌, add-one, length-append, length-take, length-drop, take-suc, take-add, length-take-le, get_or-take, get_or-drop, SFits, w32, of_z, to_z, to_z-of_z}
use mathlib.Core.List.{List, [], ◌∷◌, ◌++◌, map, map-append}
use Prim.Native.Nat.{ℕ, ◌+◌, ◌-◌, ◌≤◌, ◌<◌}
use native.Mathlib.Omega.{arith}
use Rattle.std.proofs.Math.IntN.{ℤ, pos}
use Rattle.std.proofs.Math.ListN.{length, set}
use Rattle.std.proofs.lemmas.List.{length-map}
use Rattle.std.proofs.Math.Seq.{sets, length-sets}
use Rattle.basics.proofs.Booleans.{holds}
use Rattle.basics.specs.Integers.{eq_z}
use Rattle.basics.proofs.Integers.{eq_z→eq}
use Rattle.basics.proofs.Stores.{sets_append, sets_next, sets_apart}
use Rattle.words.specs.Words.{word}
use Rattle.words.specs.UsedColumns.{used_columns, used_coefficients}
use Rattle.words.proofs.UsedColumns.{used_append, used_one, used_none, used_few, used_same}

-- the columns of the coefficients that aren't 0, and then these coefficients
abbrev pub both_arrays : List ℤ → List ℤ
both_arrays l = map pos (used_columns 0 l) ++ used_coefficients l

-- ---- the test of a coefficient, as the code has it

pub tested_zero : (x : ℤ) → SFits w32 x → of_z w32 x ≡ 0 → eq_z x (pos 0) ≡ true
tested_zero x f h = let e : x ≡ pos 0 = sym (to_z-of_z f) ∙ ap (to_z w32) h in rw e refl

pub tested_used : (x : ℤ) → (of_z w32 x ≡ 0 → ⊥) → eq_z x (pos 0) ≡ false
tested_used x h = go (eq_z x (pos 0)) refl
  where
    go : (b : Bool) → eq_z x (pos 0) ≡ b → eq_z x (pos 0) ≡ false
    go true e = absurd (h (ap (of_z w32) (eq_z→eq x (pos 0) (holds e))))
    go false e = e

-- coefficient j, in the slice of them
pub coefficient_at : (rows : List ℤ) (from columns j : ℕ) → j < columns → get_or (take (from + columns - from) (drop from rows)) j (pos 0) ≡ word rows (from + j)
coefficient_at rows from columns j h = get_or-take (from + columns - from) (drop from rows) j (pos 0) (omega arith) ∙ get_or-drop from rows j (pos 0)

module _ (rows : List ℤ) (from : ℕ) where
  -- the first j coefficients
  abbrev first : ℕ → List ℤ
  first j = take j (drop from rows)

  columns_many : (j : ℕ) → length (map pos (used_columns 0 (first j))) ≡ length (used_coefficients (first j))
  columns_many j = length-map (used_columns 0 (first j)) pos ∙ used_same (first j) 0

  pub used_most : (j : ℕ) → length (used_coefficients (first j)) ≤ j
  used_most j = omega (arith, used_few (first j), length-take j (drop from rows))

  pub used_fewer : (i n : ℕ) → i ≤ n → length (used_coefficients (first i)) ≤ length (used_coefficients (first n))
  used_fewer i n h =
      let e : n ≡ i + (n - i) = omega arith in
      let l : List ℤ = take (n - i) (drop i (drop from rows)) in
      let both = ap (λ (m : ℕ). used_coefficients (first m)) e ∙ (ap used_coefficients (take-add i (n - i) (drop from rows)) ∙ (used_append (first i) l 0).1) in
      omega (arith, ap length both, length-append (used_coefficients (first i)) (used_coefficients l))

  module _ (j : ℕ) (there : from + j < length rows) where
    abbrev x : ℤ
    x = word rows (from + j)

    one_more : first (j + 1) ≡ first j ++ x ∷ []
    one_more = rw (add-one j, take-suc (drop from rows) j (pos 0) (omega (arith, length-drop from rows)), get_or-drop from rows j (pos 0))

    -- a coefficient that is 0
    pub next_zero : eq_z x (pos 0) ≡ true → (used_columns 0 (first (j + 1)) ≡ used_columns 0 (first j)) × (used_coefficients (first (j + 1)) ≡ used_coefficients (first j))
    next_zero e = let z : x ≡ pos 0 = eq_z→eq x (pos 0) (holds e) in rw (one_more, z) (used_none (first j))

    -- and one that isn't
    next_used : eq_z x (pos 0) ≡ false → (used_columns 0 (first (j + 1)) ≡ used_columns 0 (first j) ++ j ∷ []) × (used_coefficients (first (j + 1)) ≡ used_coefficients (first j) ++ x ∷ [])
    next_used e = rw one_more (rw (length-take-le j (drop from rows) (omega (arith, length-drop from rows))) at (used_one (first j) x e))

    pub count_used : eq_z x (pos 0) ≡ false → length (used_coefficients (first (j + 1))) ≡ length (used_coefficients (first j)) + 1
    count_used e = ap length (next_used e).1 ∙ length-append (used_coefficients (first j)) (x ∷ [])

  -- ---- in a buffer, with the columns from `start` on and the coefficients `used` places behind them

  module _ (buffer : List ℤ) (start used : ℕ) where
    -- after j turns
    unfoldable pub arrays_after : ℕ → List ℤ
    arrays_after j = sets (sets buffer start (map pos (used_columns 0 (first j)))) (start + used) (used_coefficients (first j))

    pub arrays_none : buffer ≡ arrays_after 0
    unfolding arrays_after used_columns used_coefficients
    arrays_none = refl

    pub arrays_length : (j : ℕ) → length (arrays_after j) ≡ length buffer
    unfolding arrays_after
    arrays_length j = length-sets (sets buffer start (map pos (used_columns 0 (first j)))) (start + used) (used_coefficients (first j)) ∙ length-sets buffer start (map pos (used_columns 0 (first j)))

    module _ (j : ℕ) (there : from + j < length rows) where
      pub arrays_kept : eq_z (word rows (from + j)) (pos 0) ≡ true → arrays_after j ≡ arrays_after (j + 1)
      unfolding arrays_after
      arrays_kept e = let n = next_zero j there e in rw (n.0, n.1)

      pub arrays_stored : {u : List ℤ} {place : ℕ} {column value : ℤ} → eq_z (word rows (from + j)) (pos 0) ≡ false → length (used_coefficients (first j)) < used
          → u ≡ arrays_after j → place ≡ start + length (used_coefficients (first j)) → column ≡ pos j → value ≡ word rows (from + j)
          → set (set u place column) (place + used) value ≡ arrays_after (j + 1)
      unfolding arrays_after
      arrays_stored {place = place} e few eu at ec ev =
          let cs : List ℤ = map pos (used_columns 0 (first j)) in
          let xs : List ℤ = used_coefficients (first j) in
          let values : ℕ = start + used in
          let n = next_used j there e in
          let at' : place ≡ start + length cs = omega (arith, columns_many j) in
          let behind : place + used ≡ values + length xs = omega arith in
          let column-in : set (sets buffer start cs) place (pos j) ≡ sets buffer start (cs ++ pos j ∷ []) = rw at' (sets_next cs buffer start (pos j)) in
          rw (eu, ec, ev, behind)
          (ap (λ (l : List ℤ). set l (values + length xs) (word rows (from + j))) (sets_apart (pos j ∷ []) xs (sets buffer start cs) place values (omega arith) ∙ ap (λ (l : List ℤ). sets l values xs) column-in)
          ∙ (sets_next xs (sets buffer start (cs ++ pos j ∷ [])) values (word rows (from + j)) ∙ rw (n.0, n.1, map-append pos (used_columns 0 (first j)) (j ∷ []))))

    pub arrays_all : (columns : ℕ) → used ≡ length (used_coefficients (first columns)) → arrays_after columns ≡ sets buffer start (both_arrays (first columns))
    unfolding arrays_after
    arrays_all columns e = rw (e ∙ sym (columns_many columns)) (sets_append (map pos (used_columns 0 (first columns))) (used_coefficients (first columns)) buffer start)
