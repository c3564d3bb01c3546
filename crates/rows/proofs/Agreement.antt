-- Lists of coefficients, column by column; a missing one is 0. They agree if and only if they are the same in each column, and are all 0 if and only if
-- each is; those of a sum are sums, and those of a multiple are multiples.
use Rattle.std.specs.Prelude.{◌≡◌, refl, List, [], ◌∷◌, ℕ, zero, suc, T, ℤ, pos, ◌+ℤ◌, ◌*ℤ◌, get_or}
use Rattle.std.proofs.Common.{sym}
use Rattle.std.proofs.Math.IntN.{+ℤ_idl, +ℤ_idr, *ℤ-zero}
use Rattle.basics.proofs.Booleans.{and, and_l, and_r}
use Rattle.basics.specs.Integers.{eq_z}
use Rattle.basics.proofs.Integers.{eq_z→eq, eq→eqZ}
use Rattle.rows.specs.Rows.{plus, scaled, all_zero, agree}

pub zero_in : (xs : List ℤ) → T (all_zero xs) → (i : ℕ) → get_or xs i (pos 0) ≡ pos 0
unfolding all_zero
zero_in [] t i = refl
zero_in (x ∷ xs) t zero = eq_z→eq x (pos 0) (and_l (eq_z x (pos 0)) (all_zero xs) t)
zero_in (x ∷ xs) t (suc i) = zero_in xs (and_r (eq_z x (pos 0)) (all_zero xs) t) i

pub zero_each : (xs : List ℤ) → ((i : ℕ) → get_or xs i (pos 0) ≡ pos 0) → T (all_zero xs)
unfolding all_zero
zero_each [] h = tt
zero_each (x ∷ xs) h = and (eq_z x (pos 0)) (all_zero xs) (eq→eqZ (h 0)) (zero_each xs (λ i. h (suc i)))

pub agree_in : (xs ys : List ℤ) → T (agree xs ys) → (i : ℕ) → get_or xs i (pos 0) ≡ get_or ys i (pos 0)
unfolding agree
agree_in [] ys t i = sym (zero_in ys t i)
agree_in (x ∷ xs) [] t i = zero_in (x ∷ xs) t i
agree_in (x ∷ xs) (y ∷ ys) t zero = eq_z→eq x y (and_l (eq_z x y) (agree xs ys) t)
agree_in (x ∷ xs) (y ∷ ys) t (suc i) = agree_in xs ys (and_r (eq_z x y) (agree xs ys) t) i

pub agree_each : (xs ys : List ℤ) → ((i : ℕ) → get_or xs i (pos 0) ≡ get_or ys i (pos 0)) → T (agree xs ys)
unfolding agree
agree_each [] ys h = zero_each ys (λ i. sym (h i))
agree_each (x ∷ xs) [] h = zero_each (x ∷ xs) h
agree_each (x ∷ xs) (y ∷ ys) h = and (eq_z x y) (agree xs ys) (eq→eqZ (h 0)) (agree_each xs ys (λ i. h (suc i)))

-- ---- of sums and multiples

pub get_or_plus : (xs ys : List ℤ) (i : ℕ) → get_or (plus xs ys) i (pos 0) ≡ get_or xs i (pos 0) +ℤ get_or ys i (pos 0)
unfolding plus
get_or_plus [] ys i = sym (+ℤ_idl (get_or ys i (pos 0)))
get_or_plus (x ∷ xs) [] i = sym (+ℤ_idr (get_or (x ∷ xs) i (pos 0)))
get_or_plus (x ∷ xs) (y ∷ ys) zero = refl
get_or_plus (x ∷ xs) (y ∷ ys) (suc i) = get_or_plus xs ys i

pub get_or_scaled : (m : ℤ) (xs : List ℤ) (i : ℕ) → get_or (scaled m xs) i (pos 0) ≡ m *ℤ get_or xs i (pos 0)
unfolding scaled
get_or_scaled m [] i = sym (*ℤ-zero m)
get_or_scaled m (x ∷ xs) zero = refl
get_or_scaled m (x ∷ xs) (suc i) = get_or_scaled m xs i
