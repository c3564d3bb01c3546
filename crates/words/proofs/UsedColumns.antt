-- The coefficients of a row that aren't 0, and their columns. Put into zeros they are the row again; and what was put into zeros in rising columns,
-- none of it 0, are they. Both go column by column, with the columns before kept as they are.
use Rattle.std.specs.Prelude.{◌≡◌, refl, Bool, true, false, not, cond, T, leb, ltb, eqb, ℤ}
use Rattle.std.proofs.Common.{sym, ◌∙◌, zero-add, add-zero, eqb-true, le→leb, lt→ltb, length-append, length-set}
use Rattle.std.proofs.Math.Path.{ap}
use mathlib.Core.List.{List, [], ◌∷◌, ◌++◌, append-nil}
use Prim.Native.Nat.{ℕ, zero, suc, ◌+◌, ◌≤◌}
use native.Mathlib.Omega.{arith}
use Rattle.std.proofs.lemmas.Bool.{eqb-false}
use Rattle.std.proofs.Math.Dec.{leb→le, ltb→lt}
use Rattle.std.proofs.Math.IntN.{pos}
use Rattle.std.proofs.Math.ListN.{length, set}
use Rattle.std.proofs.Math.Seq.{set-append_seam, append_snoc}
use Rattle.basics.proofs.Booleans.{and, and_l, and_r, holds}
use Rattle.basics.specs.Integers.{eq_z}
use Rattle.basics.proofs.Integers.{eq_z→eq}
use Rattle.rows.specs.Columns.{zeros}
use Rattle.words.specs.Ranges.{Small}
use Rattle.words.specs.RowLimits.{AllWithin}
use Rattle.words.proofs.RowLimits.{zero_small}
use Rattle.words.specs.SparseRows.{scatter, rises_from, none_zero}
use Rattle.words.specs.UsedColumns.{Used, all_under, used_coefficients, used_columns}

-- ---- the coefficients that aren't 0, put into zeros, are the coefficients

longer : (pre : List ℤ) (x : ℤ) → length (pre ++ x ∷ []) ≡ suc (length pre)
longer pre x = omega (arith, length-append pre (x ∷ []))

put_back : (l pre : List ℤ) → scatter (pre ++ zeros (length l)) (used_columns (length pre) l) (used_coefficients l) ≡ pre ++ l
unfolding scatter zeros used_columns used_coefficients
put_back [] pre = refl
put_back (x ∷ l) pre = go (eq_z x (pos 0)) refl (put_back l (pre ++ x ∷ []))
  where
    go : (b : Bool) → eq_z x (pos 0) ≡ b → scatter ((pre ++ x ∷ []) ++ zeros (length l)) (used_columns (length (pre ++ x ∷ [])) l) (used_coefficients l) ≡ (pre ++ x ∷ []) ++ l
        → scatter (pre ++ pos 0 ∷ zeros (length l)) (cond b (used_columns (suc (length pre)) l) (length pre ∷ used_columns (suc (length pre)) l)) (cond b (used_coefficients l) (x ∷ used_coefficients l))
        ≡ pre ++ x ∷ l
    go true e h = let z : x ≡ pos 0 = eq_z→eq x (pos 0) (holds e) in
        (rw z at (rw (longer pre x, append_snoc pre x (zeros (length l)), append_snoc pre x l) at h)) ∙ ap (λ (y : ℤ). pre ++ y ∷ l) (sym z)
    go false e h =
        ap (λ (row : List ℤ). scatter row (used_columns (suc (length pre)) l) (used_coefficients l)) (set-append_seam pre (pos 0) (zeros (length l)) x) ∙ (rw (longer pre x, append_snoc pre x (zeros (length l)), append_snoc pre x l) at h)

pub scatter_used : (l : List ℤ) → scatter (zeros (length l)) (used_columns 0 l) (used_coefficients l) ≡ l
scatter_used l = put_back l []

used_zeros : (r i : ℕ) → (used_columns i (zeros r) ≡ []) × (used_coefficients (zeros r) ≡ [])
unfolding zeros used_columns used_coefficients
used_zeros zero i = (refl, refl)
used_zeros (suc r) i = used_zeros r (suc i)

pub used_append : (pre l : List ℤ) (i : ℕ)
    → (used_columns i (pre ++ l) ≡ used_columns i pre ++ used_columns (i + length pre) l) × (used_coefficients (pre ++ l) ≡ used_coefficients pre ++ used_coefficients l)
unfolding used_columns used_coefficients
used_append [] l i = (rw add-zero, refl)
used_append (x ∷ pre) l i = let e : suc i + length pre ≡ i + suc (length pre) = omega arith in go (eq_z x (pos 0)) (rw e at (used_append pre l (suc i)))
  where
    go : (b : Bool) → (used_columns (suc i) (pre ++ l) ≡ used_columns (suc i) pre ++ used_columns (i + suc (length pre)) l) × (used_coefficients (pre ++ l) ≡ used_coefficients pre ++ used_coefficients l)
        → (cond b (used_columns (suc i) (pre ++ l)) (i ∷ used_columns (suc i) (pre ++ l)) ≡ cond b (used_columns (suc i) pre) (i ∷ used_columns (suc i) pre) ++ used_columns (i + suc (length pre)) l)
        × (cond b (used_coefficients (pre ++ l)) (x ∷ used_coefficients (pre ++ l)) ≡ cond b (used_coefficients pre) (x ∷ used_coefficients pre) ++ used_coefficients l)
    go true h = h
    go false h = (ap (λ (l : List ℕ). i ∷ l) h.0, ap (λ (l : List ℤ). x ∷ l) h.1)

one_column : (i : ℕ) (x : ℤ) → eq_z x (pos 0) ≡ false → used_columns i (x ∷ []) ≡ i ∷ []
unfolding used_columns
one_column i x e = rw e

one_coefficient : (x : ℤ) → eq_z x (pos 0) ≡ false → used_coefficients (x ∷ []) ≡ x ∷ []
unfolding used_coefficients
one_coefficient x e = rw e

pub used_one : (pre : List ℤ) (x : ℤ) → eq_z x (pos 0) ≡ false → (used_columns 0 (pre ++ x ∷ []) ≡ used_columns 0 pre ++ length pre ∷ []) × (used_coefficients (pre ++ x ∷ []) ≡ used_coefficients pre ++ x ∷ [])
used_one pre x e =
    let h = used_append pre (x ∷ []) 0 in
    (h.0 ∙ ap (λ (l : List ℕ). used_columns 0 pre ++ l) (one_column (0 + length pre) x e ∙ ap (λ (i : ℕ). i ∷ []) (zero-add (length pre))), h.1 ∙ ap (λ (l : List ℤ). used_coefficients pre ++ l) (one_coefficient x e))

pub used_none : (pre : List ℤ) → (used_columns 0 (pre ++ pos 0 ∷ []) ≡ used_columns 0 pre) × (used_coefficients (pre ++ pos 0 ∷ []) ≡ used_coefficients pre)
unfolding used_columns used_coefficients
used_none pre = let h = used_append pre (pos 0 ∷ []) 0 in (h.0 ∙ append-nil (used_columns 0 pre), h.1 ∙ append-nil (used_coefficients pre))

not_zero : (x : ℤ) → T (not (eq_z x (pos 0))) → eq_z x (pos 0) ≡ false
not_zero x t = go (eq_z x (pos 0)) t
  where
    go : (b : Bool) → T (not b) → b ≡ false
    go true t = absurd t
    go false t = refl

nothing_in : (r : ℕ) (pre : List ℤ) → Used pre (scatter (pre ++ zeros r) [] []) [] []
unfolding scatter
nothing_in r pre =
    let a = used_append pre (zeros r) 0 in
    let z = used_zeros r (0 + length pre) in
    record { in_columns = a.0 ∙ ap (λ (l : List ℕ). used_columns 0 pre ++ l) z.0; are = a.1 ∙ ap (λ (l : List ℤ). used_coefficients pre ++ l) z.1 }

-- what is put in behind `pre`, a column further on
module _ (r : ℕ) (pre : List ℤ) (c : ℕ) (cs : List ℕ) (x : ℤ) (xs : List ℤ) where
  in_this : eq_z x (pos 0) ≡ false → c ≡ length pre → Used (pre ++ x ∷ []) (scatter ((pre ++ x ∷ []) ++ zeros r) cs xs) cs xs → Used pre (scatter (pre ++ zeros (suc r)) (c ∷ cs) (x ∷ xs)) (c ∷ cs) (x ∷ xs)
  unfolding scatter zeros
  in_this t e u =
      let one = used_one pre x t in
      let same : set (pre ++ pos 0 ∷ zeros r) c x ≡ pre ++ x ∷ zeros r = rw e (set-append_seam pre (pos 0) (zeros r) x) in
      let v : Used (pre ++ x ∷ []) (scatter (set (pre ++ pos 0 ∷ zeros r) c x) cs xs) cs xs = rw same (rw (append_snoc pre x (zeros r)) at u) in
      record {
        in_columns = v.in_columns ∙ ap (λ (l : List ℕ). l ++ cs) one.0 ∙ append_snoc (used_columns 0 pre) (length pre) cs ∙ ap (λ (i : ℕ). used_columns 0 pre ++ i ∷ cs) (sym e);
        are = v.are ∙ ap (λ (l : List ℤ). l ++ xs) one.1 ∙ append_snoc (used_coefficients pre) x xs;
      }

  in_later : Used (pre ++ pos 0 ∷ []) (scatter ((pre ++ pos 0 ∷ []) ++ zeros r) (c ∷ cs) (x ∷ xs)) (c ∷ cs) (x ∷ xs) → Used pre (scatter (pre ++ zeros (suc r)) (c ∷ cs) (x ∷ xs)) (c ∷ cs) (x ∷ xs)
  unfolding zeros
  in_later u =
      let n = used_none pre in
      let v : Used (pre ++ pos 0 ∷ []) (scatter (pre ++ zeros (suc r)) (c ∷ cs) (x ∷ xs)) (c ∷ cs) (x ∷ xs) = rw (append_snoc pre (pos 0) (zeros r)) at u in
      record { in_columns = v.in_columns ∙ ap (λ (l : List ℕ). l ++ (c ∷ cs)) n.0; are = v.are ∙ ap (λ (l : List ℤ). l ++ (x ∷ xs)) n.1 }

  -- the tests, a column further on
  rises_this : c ≡ length pre → T (rises_from (length pre) (c ∷ cs)) → T (rises_from (length (pre ++ x ∷ [])) cs)
  unfolding rises_from
  rises_this e t = let n : length (pre ++ x ∷ []) ≡ suc c = omega (arith, longer pre x) in rw n (and_r (leb (length pre) c) (rises_from (suc c) cs) t)

  rises_later : ¬ (c ≡ length pre) → T (rises_from (length pre) (c ∷ cs)) → T (rises_from (length (pre ++ pos 0 ∷ [])) (c ∷ cs))
  unfolding rises_from
  rises_later e t =
      let l = leb→le (length pre) c (and_l (leb (length pre) c) (rises_from (suc c) cs) t) in
      and (leb (length (pre ++ pos 0 ∷ [])) c) (rises_from (suc c) cs) (le→leb (length (pre ++ pos 0 ∷ [])) c (omega (arith, longer pre (pos 0)))) (and_r (leb (length pre) c) (rises_from (suc c) cs) t)

  under_this : T (all_under (length pre + suc r) (c ∷ cs)) → T (all_under (length (pre ++ x ∷ []) + r) cs)
  unfolding all_under
  under_this t = let n : length (pre ++ x ∷ []) + r ≡ length pre + suc r = omega (arith, longer pre x) in rw n (and_r (ltb c (length pre + suc r)) (all_under (length pre + suc r) cs) t)

  under_later : T (all_under (length pre + suc r) (c ∷ cs)) → T (all_under (length (pre ++ pos 0 ∷ []) + r) (c ∷ cs))
  under_later t = let n : length (pre ++ pos 0 ∷ []) + r ≡ length pre + suc r = omega (arith, longer pre (pos 0)) in rw n t

  none_first : T (none_zero (x ∷ xs)) → (eq_z x (pos 0) ≡ false) × T (none_zero xs)
  unfolding none_zero
  none_first t = (not_zero x (and_l (not (eq_z x (pos 0))) (none_zero xs) t), and_r (not (eq_z x (pos 0))) (none_zero xs) t)

  not_past : T (rises_from (length pre) (c ∷ cs)) → T (all_under (length pre + 0) (c ∷ cs)) → ⊥
  unfolding rises_from all_under
  not_past t u =
      let l = leb→le (length pre) c (and_l (leb (length pre) c) (rises_from (suc c) cs) t) in
      let h = ltb→lt c (length pre + 0) (and_l (ltb c (length pre + 0)) (all_under (length pre + 0) cs) u) in
      omega arith

filled : (r : ℕ) (pre : List ℤ) (cs : List ℕ) (xs : List ℤ) → length cs ≡ length xs → T (rises_from (length pre) cs) → T (all_under (length pre + r) cs) → T (none_zero xs)
    → Used pre (scatter (pre ++ zeros r) cs xs) cs xs
filled zero pre [] [] e rises under none = nothing_in 0 pre
filled zero pre [] (x ∷ xs) e rises under none = absurd (omega arith)
filled zero pre (c ∷ cs) [] e rises under none = absurd (omega arith)
filled zero pre (c ∷ cs) (x ∷ xs) e rises under none = absurd (not_past 0 pre c cs x xs rises under)
filled (suc r) pre [] [] e rises under none = nothing_in (suc r) pre
filled (suc r) pre [] (x ∷ xs) e rises under none = absurd (omega arith)
filled (suc r) pre (c ∷ cs) [] e rises under none = absurd (omega arith)
filled (suc r) pre (c ∷ cs) (x ∷ xs) e rises under none = go (eqb c (length pre)) refl (filled r)
  where
    go : (b : Bool) → eqb c (length pre) ≡ b
        → ((pre : List ℤ) (cs : List ℕ) (xs : List ℤ) → length cs ≡ length xs → T (rises_from (length pre) cs) → T (all_under (length pre + r) cs) → T (none_zero xs) → Used pre (scatter (pre ++ zeros r) cs xs) cs xs)
        → Used pre (scatter (pre ++ zeros (suc r)) (c ∷ cs) (x ∷ xs)) (c ∷ cs) (x ∷ xs)
    go true q h =
        let n = none_first r pre c cs x xs none in
        let same = eqb-true c (length pre) q in
        in_this r pre c cs x xs n.0 same (h (pre ++ x ∷ []) cs xs (omega arith) (rises_this r pre c cs x xs same rises) (under_this r pre c cs x xs under) n.1)
    go false q h =
        let other = eqb-false c (length pre) q in
        in_later r pre c cs x xs (h (pre ++ pos 0 ∷ []) (c ∷ cs) (x ∷ xs) e (rises_later r pre c cs x xs other rises) (under_later r pre c cs x xs under) none)

pub used_scatter : (m : ℕ) (cs : List ℕ) (xs : List ℤ) → length cs ≡ length xs → T (rises_from 0 cs) → T (all_under m cs) → T (none_zero xs)
    → (used_columns 0 (scatter (zeros m) cs xs) ≡ cs) × (used_coefficients (scatter (zeros m) cs xs) ≡ xs)
unfolding used_columns used_coefficients
used_scatter m cs xs e rises under none = let u = filled m [] cs xs e rises (rw zero-add under) none in (u.in_columns, u.are)

-- ---- how many they are, and in which columns

pub used_few : (l : List ℤ) → length (used_coefficients l) ≤ length l
unfolding used_coefficients
used_few [] = omega arith
used_few (x ∷ l) = go (eq_z x (pos 0)) (used_few l)
  where
    go : (b : Bool) → length (used_coefficients l) ≤ length l → length (cond b (used_coefficients l) (x ∷ used_coefficients l)) ≤ suc (length l)
    go true h = omega arith
    go false h = omega arith

pub used_same : (l : List ℤ) (i : ℕ) → length (used_columns i l) ≡ length (used_coefficients l)
unfolding used_columns used_coefficients
used_same [] i = refl
used_same (x ∷ l) i = go (eq_z x (pos 0)) (used_same l (suc i))
  where
    go : (b : Bool) → length (used_columns (suc i) l) ≡ length (used_coefficients l) → length (cond b (used_columns (suc i) l) (i ∷ used_columns (suc i) l)) ≡ length (cond b (used_coefficients l) (x ∷ used_coefficients l))
    go true h = h
    go false h = ap suc h

pub used_under : (l : List ℤ) (i m : ℕ) → i + length l ≤ m → T (all_under m (used_columns i l))
unfolding used_columns
used_under [] i m h = unfold all_under in tt
used_under (x ∷ l) i m h = go (eq_z x (pos 0)) (used_under l (suc i) m (omega arith))
  where
    go : (b : Bool) → T (all_under m (used_columns (suc i) l)) → T (all_under m (cond b (used_columns (suc i) l) (i ∷ used_columns (suc i) l)))
    go true t = t
    go false t = unfold all_under in and (ltb i m) (all_under m (used_columns (suc i) l)) (lt→ltb i m (omega arith)) t

rises_lower : (cs : List ℕ) (i j : ℕ) → i ≤ j → T (rises_from j cs) → T (rises_from i cs)
unfolding rises_from
rises_lower [] i j h t = tt
rises_lower (c ∷ cs) i j h t = and (leb i c) (rises_from (suc c) cs) (le→leb i c (let l = leb→le j c (and_l (leb j c) (rises_from (suc c) cs) t) in omega arith)) (and_r (leb j c) (rises_from (suc c) cs) t)

pub used_rises : (l : List ℤ) (i : ℕ) → T (rises_from i (used_columns i l))
unfolding used_columns
used_rises [] i = unfold rises_from in tt
used_rises (x ∷ l) i = go (eq_z x (pos 0)) (used_rises l (suc i))
  where
    go : (b : Bool) → T (rises_from (suc i) (used_columns (suc i) l)) → T (rises_from i (cond b (used_columns (suc i) l) (i ∷ used_columns (suc i) l)))
    go true t = rises_lower (used_columns (suc i) l) i (suc i) (omega arith) t
    go false t = unfold rises_from in and (leb i i) (rises_from (suc i) (used_columns (suc i) l)) (le→leb i i (omega arith)) t

pub used_none_zero : (l : List ℤ) → T (none_zero (used_coefficients l))
unfolding used_coefficients
used_none_zero [] = unfold none_zero in tt
used_none_zero (x ∷ l) = go (eq_z x (pos 0)) refl (used_none_zero l)
  where
    go : (b : Bool) → eq_z x (pos 0) ≡ b → T (none_zero (used_coefficients l)) → T (none_zero (cond b (used_coefficients l) (x ∷ used_coefficients l)))
    go true e t = t
    go false e t = unfold none_zero in and (not (eq_z x (pos 0))) (none_zero (used_coefficients l)) (rw e tt) t

pub used_small : (limit : ℕ) (l : List ℤ) → AllWithin limit l → AllWithin limit (used_coefficients l)
unfolding used_coefficients
used_small limit [] h = λ i. zero_small limit
used_small limit (x ∷ l) h = go (eq_z x (pos 0)) (used_small limit l (λ i. h (suc i)))
  where
    go : (b : Bool) → AllWithin limit (used_coefficients l) → AllWithin limit (cond b (used_coefficients l) (x ∷ used_coefficients l))
    go true f = f
    go false f = λ i. first i
      where
        first : AllWithin limit (x ∷ used_coefficients l)
        first zero = h 0
        first (suc i) = f i

-- one coefficient more
pub scatter_snoc : (row : List ℤ) (cs : List ℕ) (xs : List ℤ) (c : ℕ) (x : ℤ) → length cs ≡ length xs → scatter row (cs ++ c ∷ []) (xs ++ x ∷ []) ≡ set (scatter row cs xs) c x
unfolding scatter
scatter_snoc row [] [] c x e = refl
scatter_snoc row [] (y ∷ xs) c x e = absurd (omega arith)
scatter_snoc row (d ∷ cs) [] c x e = absurd (omega arith)
scatter_snoc row (d ∷ cs) (y ∷ xs) c x e = scatter_snoc (set row d y) cs xs c x (omega arith)

pub scatter_length : (row : List ℤ) (cs : List ℕ) (xs : List ℤ) → length (scatter row cs xs) ≡ length row
unfolding scatter
scatter_length row [] xs = refl
scatter_length row (c ∷ cs) [] = refl
scatter_length row (c ∷ cs) (x ∷ xs) = scatter_length (set row c x) cs xs ∙ length-set row c x

set_small : (limit : ℕ) (row : List ℤ) (c : ℕ) (x : ℤ) → AllWithin limit row → Small limit x → AllWithin limit (set row c x)
set_small limit [] c x f h i = f i
set_small limit (y ∷ row) zero x f h zero = h
set_small limit (y ∷ row) zero x f h (suc i) = f (suc i)
set_small limit (y ∷ row) (suc c) x f h zero = f 0
set_small limit (y ∷ row) (suc c) x f h (suc i) = set_small limit row c x (λ i. f (suc i)) h i

pub scatter_small : (limit : ℕ) (row : List ℤ) (cs : List ℕ) (xs : List ℤ) → AllWithin limit row → AllWithin limit xs → AllWithin limit (scatter row cs xs)
unfolding scatter
scatter_small limit row [] xs f g = f
scatter_small limit row (c ∷ cs) [] f g = f
scatter_small limit row (c ∷ cs) (x ∷ xs) f g = scatter_small limit (set row c x) cs xs (set_small limit row c x f (g 0)) (λ i. g (suc i))

pub zeros_small : (limit n : ℕ) → AllWithin limit (zeros n)
unfolding zeros
zeros_small limit zero i = zero_small limit
zeros_small limit (suc n) zero = zero_small limit
zeros_small limit (suc n) (suc i) = zeros_small limit n i
