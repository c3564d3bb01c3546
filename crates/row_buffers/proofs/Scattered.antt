-- A sparse row put into a buffer, coefficient by coefficient: each is stored in its column, over zeros.
use Rattle.std.specs.Prelude.{◌≡◌, ◌≢◌, Bool, true, false, ltb, eqb, ℤ, pos, length, take, drop, set}
use Rattle.std.proofs.Math.Path.{refl, sym, ap}
use Rattle.std.proofs.Common.{ap₂, ◌∙◌, add-one, ltb-true, ltb-false, eqb-true, length-take, get_or-take}
use mathlib.Core.List.{List, [], ◌∷◌, ◌++◌}
use Prim.Native.Nat.{ℕ, zero, suc, ◌+◌, ◌≤◌, ◌<◌}
use native.Mathlib.Omega.{arith}
use Rattle.std.proofs.lemmas.Bool.{eqb-false}
use Rattle.std.proofs.Math.ListN.{get_or, get_or-eq_default}
use Rattle.std.proofs.Math.Seq.{take-suc, take_all, get_or-set_same, get_or-set_other, length-take-le}
use Rattle.std.proofs.lemmas.List.{set-append_left, set_at}
use Rattle.rows.specs.Rows.{Row, constant_row}
use Rattle.rows.specs.Columns.{zeros}
use Rattle.rows.proofs.Blocks.{length_zeros}
use Rattle.words.specs.Limits.{coefficient_limit}
use Rattle.words.specs.Words.{word, number}
use Rattle.words.specs.Ranges.{Small}
use Rattle.words.proofs.Ranges.{number_of}
use Rattle.words.specs.RowLimits.{AllWithin, RowWithin}
use Rattle.words.proofs.RowLimits.{zero_small}
use Rattle.words.specs.RowWords.{constant_at}
use Rattle.words.proofs.RowLaws.{constant_dropped}
use Rattle.words.specs.SparseRows.{arrays_from, sparse_size, scatter, sparse_row_of}
use Rattle.words.specs.SparseForm.{SparseRowForm, StrictRow}
use Rattle.words.proofs.SparseForm.{coefficient_here}
use Rattle.words.proofs.UsedColumns.{scatter_length, scatter_small, zeros_small}
use Rattle.sparse_rows.specs.SparsePlaces.{many_columns, many_coefficients, column_is, coefficient_is, column_low}
use Rattle.row_buffers.specs.HeldRows.{stride}
use Rattle.row_buffers.specs.Entries.{entry}
use Rattle.row_buffers.specs.Spread.{spread, written}
use Rattle.row_buffers.proofs.Spread.{length_spread, spread_same, spread_alike}
use Rattle.row_buffers.specs.Scattered.{cs, here, part_row, used, xs}

-- ---- rows that differ in entry p at most

pub spread_set : (n p : ℕ) (r s : Row) (x : ℤ) → p < n → x ≡ entry p s → ((i : ℕ) → i ≢ p → entry i r ≡ entry i s) → set (spread n r) p x ≡ spread n s
unfolding spread
spread_set zero p r s x h e o = absurd (omega arith)
spread_set (suc n) p r s x h e o = go (eqb n p) refl (λ k. spread_set n p r s x k e o)
  where
    go : (b : Bool) → eqb n p ≡ b → (p < n → set (spread n r) p x ≡ spread n s) → set (spread n r ++ entry n r ∷ []) p x ≡ spread n s ++ entry n s ∷ []
    go true q ih =
        let m : n ≡ p = eqb-true n p q in
        set_at (spread n r) (entry n r) [] x p (length_spread n r ∙ m)
        ∙ ap₂ (λ (l : List ℤ) (z : ℤ). l ++ z ∷ []) (spread_same n r s (λ i k. o i (λ d. omega arith))) (e ∙ ap (λ (k : ℕ). entry k s) (sym m))
    go false q ih =
        let d : n ≢ p = eqb-false n p q in
        let k : p < n = omega arith in
        set-append_left (spread n r) (entry n r ∷ []) p x (omega (arith, length_spread n r)) ∙ ap₂ (λ (l : List ℤ) (z : ℤ). l ++ z ∷ []) (ih k) (o n d)

-- a row whose coefficient of column c is set
module _ (r s : Row) (c : ℕ) (x : ℤ) (e : s.coefficients ≡ set r.coefficients c x) where
  pub entry_set : c < length r.coefficients → x ≡ entry (1 + c) s
  unfolding entry
  entry_set h = let p : 1 + c ≡ suc c = omega arith in rw p (sym (ap (λ (l : List ℤ). get_or l c (pos 0)) e ∙ get_or-set_same r.coefficients c x (pos 0) h))

  pub entry_kept : r.constant ≡ s.constant → (i : ℕ) → i ≢ 1 + c → entry i r ≡ entry i s
  unfolding entry
  entry_kept q zero d = q
  entry_kept q (suc i) d = sym (ap (λ (l : List ℤ). get_or l i (pos 0)) e ∙ get_or-set_other r.coefficients c i x (pos 0) (λ f. d (omega arith)))

-- ---- one coefficient more

scatter_snoc : (row : List ℤ) (cs : List ℕ) (xs : List ℤ) (c : ℕ) (x : ℤ) → length cs ≡ length xs → scatter row (cs ++ c ∷ []) (xs ++ x ∷ []) ≡ set (scatter row cs xs) c x
unfolding scatter
scatter_snoc row [] [] c x e = refl
scatter_snoc row [] (y ∷ xs) c x e = absurd (omega arith)
scatter_snoc row (d ∷ cs) [] c x e = absurd (omega arith)
scatter_snoc row (d ∷ cs) (y ∷ xs) c x e = scatter_snoc (set row d y) cs xs c x (omega arith)

-- what comes into columns before c leaves c as it was
scatter_before : (row : List ℤ) (cs : List ℕ) (xs : List ℤ) (c : ℕ) → ((i : ℕ) → i < length cs → get_or cs i 0 < c) → get_or (scatter row cs xs) c (pos 0) ≡ get_or row c (pos 0)
unfolding scatter
scatter_before row [] xs c h = refl
scatter_before row (d ∷ cs) [] c h = refl
scatter_before row (d ∷ cs) (x ∷ xs) c h =
    scatter_before (set row d x) cs xs c (λ i k. h (suc i) (omega arith)) ∙ get_or-set_other row d c x (pos 0) (λ e. omega (arith, h 0 (omega arith)))

zeros_at : (m i : ℕ) → get_or (zeros m) i (pos 0) ≡ pos 0
unfolding zeros
zeros_at zero i = refl
zeros_at (suc m) zero = refl
zeros_at (suc m) (suc i) = zeros_at m i

module _ (m : ℕ) (words : List ℤ) (place : ℕ) where
  module _ (long : place + sparse_size (used m words place) ≤ length words) where
    module _ (j : ℕ) (h : j < (used m words place)) where
      pub part_next : ((part_row m words place) (j + 1)).coefficients ≡ set ((part_row m words place) j).coefficients (number m (word words (place + arrays_from + j))) (word words (place + arrays_from + (used m words place) + j))
      unfolding part_row
      part_next =
          rw (add-one j, take-suc (cs m words place) j (number m (pos 0)) (omega (arith, many_columns m words place long)), take-suc (xs m words place) j (pos 0) (omega (arith, many_coefficients m words place long)), column_is m words place j h, coefficient_is m words place j h)
          (scatter_snoc (zeros m) (take j (cs m words place)) (take j (xs m words place)) (get_or (cs m words place) j (number m (pos 0))) (get_or (xs m words place) j (pos 0)) (length-take-le j (cs m words place) (omega (arith, many_columns m words place long)) ∙ sym (length-take-le j (xs m words place) (omega (arith, many_coefficients m words place long)))))

    pub part_all : (part_row m words place) (used m words place) ≡ sparse_row_of m (here m words place)
    unfolding part_row sparse_row_of
    part_all =
        rw (take_all (used m words place) (cs m words place) (omega (arith, many_columns m words place long)), take_all (used m words place) (xs m words place) (omega (arith, many_coefficients m words place long)))
        (ap (λ (c : ℤ). record { constant = c; coefficients = scatter (zeros m) (cs m words place) (xs m words place) }) (sym (constant_dropped place words)))

  pub part_length : (j : ℕ) → length ((part_row m words place) j).coefficients ≡ m
  unfolding part_row
  part_length j = scatter_length (zeros m) (take j (cs m words place)) (take j (xs m words place)) ∙ length_zeros m

  -- ---- of a row in its form

  module _ (long : place + sparse_size (used m words place) ≤ length words) where
    -- the columns rise, so none has a coefficient yet
    module _ (s : StrictRow m (here m words place)) where
      rises : (i j : ℕ) → i < j → j < (used m words place) → get_or (cs m words place) i 0 < get_or (cs m words place) j 0
      rises i zero h k = absurd (omega arith)
      rises i (suc j) h k = go (eqb i j) refl (λ l. rises i j l (omega arith))
        where
          next : get_or (cs m words place) j 0 < get_or (cs m words place) (suc j) 0
          next = s.rising j (omega (arith, many_columns m words place long))

          go : (b : Bool) → eqb i j ≡ b → (i < j → get_or (cs m words place) i 0 < get_or (cs m words place) j 0) → get_or (cs m words place) i 0 < get_or (cs m words place) (suc j) 0
          go true q before = rw (eqb-true i j q) next
          go false q before = let d : i ≢ j = eqb-false i j q in omega (arith, before (omega arith), next)

      pub part_zero : (j : ℕ) → j < (used m words place) → get_or ((part_row m words place) j).coefficients (number m (word words (place + arrays_from + j))) (pos 0) ≡ pos 0
      unfolding part_row
      part_zero j h =
          let many = many_columns m words place long in
          let e : number m (word words (place + arrays_from + j)) ≡ get_or (cs m words place) j 0 = column_is m words place j h ∙ ap (get_or (cs m words place) j) (number_of m 0 (omega arith)) in
          let l = length-take-le j (cs m words place) (omega (arith, many)) in
          rw e (scatter_before (zeros m) (take j (cs m words place)) (take j (xs m words place)) (get_or (cs m words place) j 0) (λ i k. let b : i < j = omega arith in rw (get_or-take j (cs m words place) i 0 b) (rises i j b h)) ∙ zeros_at m (get_or (cs m words place) j 0))

    -- and none is large
    module _ (f : SparseRowForm m (here m words place)) (j : ℕ) where
      taken : AllWithin coefficient_limit (take j (xs m words place))
      taken i = go (ltb i (length (take j (xs m words place)))) refl
        where
          go : (b : Bool) → ltb i (length (take j (xs m words place))) ≡ b → Small coefficient_limit (word (take j (xs m words place)) i)
          go true q =
              let l = ltb-true i (length (take j (xs m words place))) q in
              let n = length-take j (xs m words place) in
              let b : i < j = omega arith in
              let h : i < (used m words place) = omega (arith, many_coefficients m words place long) in
              rw (get_or-take j (xs m words place) i (pos 0) b, coefficient_here m (here m words place) i h) (f.coefficients i h)
          go false q = rw (get_or-eq_default (take j (xs m words place)) (pos 0) {n = i} (ltb-false i (length (take j (xs m words place))) q)) (zero_small coefficient_limit)

      pub part_within : RowWithin m ((part_row m words place) j)
      part_within =
          record {
            wide = part_length j;
            constant = unfold part_row in rw (← constant_dropped place words) f.constant;
            coefficients = unfold part_row in scatter_small coefficient_limit (zeros m) (take j (cs m words place)) (take j (xs m words place)) (zeros_small coefficient_limit m) taken;
          }

  -- ---- in a buffer

  pub part_first : (i : ℕ) → entry (suc i) ((part_row m words place) 0) ≡ pos 0
  unfolding entry part_row scatter
  part_first i = zeros_at m i

  pub part_none : (columns : ℕ) (t : List ℤ) → written columns (constant_row (constant_at words place)) t ≡ written columns ((part_row m words place) 0) t
  part_none columns t = ap (λ (l : List ℤ). l ++ drop (stride columns) t) (spread_alike (stride columns) (record { same = same }))
    where
      same : (i : ℕ) → entry i (constant_row (constant_at words place)) ≡ entry i ((part_row m words place) 0)
      same zero = unfold entry constant_row part_row in refl
      same (suc i) = unfold entry constant_row in sym (part_first i)

  pub part_stored : (columns : ℕ) (t u : List ℤ) (j c : ℕ) (x : ℤ) (long : place + sparse_size (used m words place) ≤ length words) → j < (used m words place) → m ≤ columns → SparseRowForm m (here m words place)
      → u ≡ written columns ((part_row m words place) j) t → c ≡ number m (word words (place + arrays_from + j)) → x ≡ word words (place + arrays_from + (used m words place) + j) → set u (1 + c) x ≡ written columns ((part_row m words place) (j + 1)) t
  part_stored columns t u j c x long h k low e ec ex =
      let inside : c < m = rw ec (column_low m words place j h low) in
      let more : ((part_row m words place) (j + 1)).coefficients ≡ set ((part_row m words place) j).coefficients c x = part_next long j h ∙ ap₂ (set ((part_row m words place) j).coefficients) (sym ec) (sym ex) in
      rw e
      (set-append_left (spread (stride columns) ((part_row m words place) j)) (drop (stride columns) t) (1 + c) x (omega (arith, length_spread (stride columns) ((part_row m words place) j)))
      ∙ ap (λ (l : List ℤ). l ++ drop (stride columns) t) (spread_set (stride columns) (1 + c) ((part_row m words place) j) ((part_row m words place) (j + 1)) x (omega arith)
      (entry_set ((part_row m words place) j) ((part_row m words place) (j + 1)) c x more (omega (arith, part_length j))) (entry_kept ((part_row m words place) j) ((part_row m words place) (j + 1)) c x more (unfold part_row in refl))))
