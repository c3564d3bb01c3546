-- Guards say what the comparison says: at any state, `e op 0` holds if and only if one of its cases does, and fails if and only if one of
-- the opposite op's cases does. So no guard is too strong or too weak.
use Rattle.std.specs.Prelude.{◌≡◌, ◌↔◌, ◌⊎◌, zero, suc, Bool, not, T, ℤ, pos, negsuc, neg_ℤ, ◌+ℤ◌, ◌≤ℤ◌, ◌<ℤ◌}
use Rattle.std.proofs.Math.Path.{refl, subst}
use Rattle.std.proofs.Common.{◌∙◌, ap, inl, inr, arith, lt→ltb, T_not}
use Rattle.std.proofs.Math.Logic.Iff.{trans as iff_trans}
use Rattle.std.proofs.Math.Bool.{true, false}
use mathlib.Core.List.Memᴰ
use mathlib.Core.List.{List, [], ◌∷◌, Memᴰ}
use Rattle.std.proofs.Math.Dec.{not_T}
use Rattle.std.specs.Int.Signed.{le_z, lt_z, le_z_yes, lt_z_no, clash_ℤ}
use Rattle.basics.proofs.Booleans.{not_not}
use Rattle.basics.specs.Integers.{sum, eq_z}
use Rattle.basics.proofs.Integers.{negone-*ℤ, ints, negation, eq_z→eq, eq→eqZ, nle_z→lt}
use Rattle.rows.specs.Rows.{Row, value, Holds, nil, cons, constant_row}
use Rattle.rows.proofs.Values.{value_add, value_scale, value_constant}
use Rattle.programs.specs.Program.{Comparison, less, greater, at_most, at_least, equal, different, compares, Condition, choice, compare}
use Rattle.programs.specs.Runs.{Allows}
use Rattle.certificates.specs.Certificate.{Disjunct, Meets}
use Rattle.certificates.specs.Guards.{plus_one, negated, opposite, cases, condition_cases}

-- ---- one number

below_zero : (x : ℤ) → T (lt_z x (pos 0)) ↔ ((x +ℤ pos 1) ≤ℤ pos 0)
below_zero x = (λ t. let h : x <ℤ pos 0 = record { lt = t } in omega (arith, ints, sum x (pos 1)), λ h. let k : x <ℤ pos 0 = omega (arith, ints, sum x (pos 1)) in k.lt)

above_zero : (x : ℤ) → T (lt_z (pos 0) x) ↔ ((neg_ℤ x +ℤ pos 1) ≤ℤ pos 0)
above_zero x =
    (λ t. let h : pos 0 <ℤ x = record { lt = t } in omega (arith, ints, sum (neg_ℤ x) (pos 1), negation x), λ h. let k : pos 0 <ℤ x = omega (arith, ints, sum (neg_ℤ x) (pos 1), negation x) in k.lt)

at_least_zero : (x : ℤ) → T (le_z (pos 0) x) ↔ (neg_ℤ x ≤ℤ pos 0)
at_least_zero x = (λ t. let h : pos 0 ≤ℤ x = le_z_yes t in omega (arith, ints, negation x), λ h. let k : pos 0 ≤ℤ x = omega (arith, ints, negation x) in k.le)

is_zero : (x : ℤ) → T (eq_z x (pos 0)) ↔ ((x ≤ℤ pos 0) × (neg_ℤ x ≤ℤ pos 0))
is_zero x =
    (λ t. let e : x ≡ pos 0 = eq_z→eq x (pos 0) t in (omega (arith, ints), omega (arith, ints, negation x)), λ h. eq→eqZ (let e : x ≡ pos 0 = omega (arith, ints, negation x) in e))

not_zero : (x : ℤ) → T (not (eq_z x (pos 0))) ↔ (((x +ℤ pos 1) ≤ℤ pos 0) ⊎ ((neg_ℤ x +ℤ pos 1) ≤ℤ pos 0))
not_zero x = (there x, back)
  where
    there : (x : ℤ) → T (not (eq_z x (pos 0))) → ((x +ℤ pos 1) ≤ℤ pos 0) ⊎ ((neg_ℤ x +ℤ pos 1) ≤ℤ pos 0)
    there (pos zero) t = absurd t
    there (pos (suc n)) t = inr ((above_zero (pos (suc n))).0 (lt→ltb 0 (suc n) (omega arith)))
    there (negsuc n) t = inl ((below_zero (negsuc n)).0 tt)

    back : ((x +ℤ pos 1) ≤ℤ pos 0) ⊎ ((neg_ℤ x +ℤ pos 1) ≤ℤ pos 0) → T (not (eq_z x (pos 0)))
    back (inl h) = not_T (eq_z x (pos 0)) (λ t. let e : x ≡ pos 0 = eq_z→eq x (pos 0) t in omega (arith, ints, sum x (pos 1)))
    back (inr h) = not_T (eq_z x (pos 0)) (λ t. let e : x ≡ pos 0 = eq_z→eq x (pos 0) t in omega (arith, ints, sum (neg_ℤ x) (pos 1), negation x))

-- ---- the opposite op

not_less : (a b : ℤ) → T (not (lt_z a b)) ↔ T (le_z b a)
not_less a b = (λ t. (lt_z_no {a = a} {b = b} t).le, λ t. not_T (lt_z a b) (λ s. clash_ℤ {a = a} {b = b} (record { lt = s }) (le_z_yes t)))

not_at_most : (a b : ℤ) → T (not (le_z a b)) ↔ T (lt_z b a)
not_at_most a b = (λ t. (nle_z→lt a b t).lt, λ t. not_T (le_z a b) (λ s. clash_ℤ {a = b} {b = a} (record { lt = t }) (le_z_yes s)))

pub opposite_iff : (op : Comparison) (x : ℤ) → T (not (compares op x)) ↔ T (compares (opposite op) x)
unfolding compares opposite
opposite_iff less x = not_less x (pos 0)
opposite_iff greater x = not_less (pos 0) x
opposite_iff at_most x = not_at_most x (pos 0)
opposite_iff at_least x = not_at_most (pos 0) x
opposite_iff equal x = (λ t. t, λ t. t)
opposite_iff different x = (not_not (eq_z x (pos 0)), λ t. not_T (not (eq_z x (pos 0))) (λ s. T_not (eq_z x (pos 0)) s t))

-- ---- rows

pub value_plus_one : (e : Row) (s : List ℤ) → value (plus_one e) s ≡ value e s +ℤ pos 1
unfolding plus_one
value_plus_one e s = value_add e (constant_row (pos 1)) s ∙ ap (λ (z : ℤ). value e s +ℤ z) (value_constant (pos 1) s)

pub value_negated : (e : Row) (s : List ℤ) → value (negated e) s ≡ neg_ℤ (value e s)
unfolding negated
value_negated e s = value_scale (negsuc 0) e s ∙ negone-*ℤ (value e s)

-- ---- cases

module _ (s : List ℤ) where
  one_row : (r : Row) → (value r s ≤ℤ pos 0) ↔ Holds s (r ∷ [])
  one_row r = (λ h. cons h nil, only)
    where
      only : Holds s (r ∷ []) → value r s ≤ℤ pos 0
      only (cons h k) = h

  two_rows_lem : (a b : Row) → ((value a s ≤ℤ pos 0) × (value b s ≤ℤ pos 0)) ↔ Holds s (a ∷ b ∷ [])
  two_rows_lem a b = (λ h. cons h.0 (cons h.1 nil), both)
    where
      both : Holds s (a ∷ b ∷ []) → (value a s ≤ℤ pos 0) × (value b s ≤ℤ pos 0)
      both (cons h (cons k l)) = (h, k)

  pub one_case : (d : Disjunct) → Holds s d ↔ Meets (d ∷ []) s
  unfolding Meets
  one_case d = (λ h. (d, Memᴰ.head refl, h), λ m. subst (Holds s) (Memᴰ.eq_of_singleton m.1) m.2)

  two_cases : (d d' : Disjunct) → (Holds s d ⊎ Holds s d') ↔ Meets (d ∷ d' ∷ []) s
  unfolding Meets
  two_cases d d' = (there, λ m. back m.0 m.2 (Memᴰ.cases_cons m.1))
    where
      there : Holds s d ⊎ Holds s d' → (x : Disjunct) × Memᴰ x (d ∷ d' ∷ []) × Holds s x
      there (inl h) = (d, Memᴰ.head refl, h)
      there (inr h) = (d', Memᴰ.tail (Memᴰ.head refl), h)

      back : (x : Disjunct) → Holds s x → (x ≡ d) ⊎ Memᴰ x (d' ∷ []) → Holds s d ⊎ Holds s d'
      back x h (inl e) = inl (subst (Holds s) e h)
      back x h (inr m) = inr (subst (Holds s) (Memᴰ.eq_of_singleton m) h)

  module _ (e : Row) where
    plus_row : ((value e s +ℤ pos 1) ≤ℤ pos 0) ↔ Holds s (plus_one e ∷ [])
    plus_row = rw (← value_plus_one e s) (one_row (plus_one e))

    minus_row : (neg_ℤ (value e s) ≤ℤ pos 0) ↔ Holds s (negated e ∷ [])
    minus_row = rw (← value_negated e s) (one_row (negated e))

    minus_plus_row : ((neg_ℤ (value e s) +ℤ pos 1) ≤ℤ pos 0) ↔ Holds s (plus_one (negated e) ∷ [])
    minus_plus_row = rw (← value_negated e s, ← value_plus_one (negated e) s) (one_row (plus_one (negated e)))

    either_row : (((value e s +ℤ pos 1) ≤ℤ pos 0) ⊎ ((neg_ℤ (value e s) +ℤ pos 1) ≤ℤ pos 0)) ↔ (Holds s (plus_one e ∷ []) ⊎ Holds s (plus_one (negated e) ∷ []))
    either_row = (there, back)
      where
        there : ((value e s +ℤ pos 1) ≤ℤ pos 0) ⊎ ((neg_ℤ (value e s) +ℤ pos 1) ≤ℤ pos 0) → Holds s (plus_one e ∷ []) ⊎ Holds s (plus_one (negated e) ∷ [])
        there (inl h) = inl (plus_row.0 h)
        there (inr h) = inr (minus_plus_row.0 h)

        back : Holds s (plus_one e ∷ []) ⊎ Holds s (plus_one (negated e) ∷ []) → ((value e s +ℤ pos 1) ≤ℤ pos 0) ⊎ ((neg_ℤ (value e s) +ℤ pos 1) ≤ℤ pos 0)
        back (inl h) = inl (plus_row.1 h)
        back (inr h) = inr (minus_plus_row.1 h)

    both_rows : ((value e s ≤ℤ pos 0) × (neg_ℤ (value e s) ≤ℤ pos 0)) ↔ Holds s (e ∷ negated e ∷ [])
    both_rows = rw (← value_negated e s) (two_rows_lem e (negated e))

    -- `e op 0` if and only if some case holds
    pub cases_iff : (op : Comparison) → T (compares op (value e s)) ↔ Meets (cases op e) s
    unfolding cases compares
    cases_iff less = iff_trans (below_zero (value e s)) (iff_trans plus_row (one_case (plus_one e ∷ [])))
    cases_iff greater = iff_trans (above_zero (value e s)) (iff_trans minus_plus_row (one_case (plus_one (negated e) ∷ [])))
    cases_iff at_most = iff_trans (λ t. le_z_yes t, λ h. h.le) (iff_trans (one_row e) (one_case (e ∷ [])))
    cases_iff at_least = iff_trans (at_least_zero (value e s)) (iff_trans minus_row (one_case (negated e ∷ [])))
    cases_iff equal = iff_trans (is_zero (value e s)) (iff_trans both_rows (one_case (e ∷ negated e ∷ [])))
    cases_iff different = iff_trans (not_zero (value e s)) (iff_trans either_row (two_cases (plus_one e ∷ []) (plus_one (negated e) ∷ [])))

    -- not `e op 0` if and only if some case of the opposite op holds
    pub opposite_cases_iff : (op : Comparison) → T (not (compares op (value e s))) ↔ Meets (cases (opposite op) e) s
    opposite_cases_iff op = iff_trans (opposite_iff op (value e s)) (cases_iff (opposite op))

  -- a side of a branch is allowed if and only if some case of it holds
  pub condition_iff : (g : Condition) (side : Bool) → Allows g side s ↔ Meets (condition_cases g side) s
  unfolding Allows condition_cases
  condition_iff choice side = (λ a. (one_case []).0 nil, λ m. tt)
  condition_iff (compare op e) true = cases_iff e op
  condition_iff (compare op e) false = opposite_cases_iff e op
