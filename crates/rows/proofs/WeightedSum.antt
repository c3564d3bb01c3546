-- THE WEIGHTED-SUM FACT, once for any number of rows and of columns: where each premise's sum is at most 0, so is their weighted sum,
-- since its value is Σ multiplier × value. Hence a contradiction leaves no state that meets the premises, and a sum that fits a row gives the
-- row, since a state's values are whole numbers.
use Rattle.std.specs.Prelude.{◌≡◌, refl, ℕ, ◌+◌, ◌*◌, ◌≤◌, List, [], ◌∷◌, map, T, ℤ, pos, ◌+ℤ◌, ◌*ℤ◌, ◌≤ℤ◌}
use Rattle.std.proofs.Common.{sym, ◌∙◌, ap, ap₂, subst, mul-le-mul_left, arith}
use Rattle.std.proofs.Math.IntN.{+ℤ_idl, +ℤ_idr, zero-*ℤ}
use Rattle.std.specs.Int.Signed.{le_z_yes, ≤ℤ_refl}
use Rattle.basics.proofs.Booleans.{parts}
use Rattle.basics.specs.Integers.{sum, up, down}
use Rattle.basics.proofs.Integers.{ints, ≤→halves, times, eq_z→eq}
use Rattle.rows.specs.Rows.{Row, dot, value, values, Holds, cons, combine, scaled, all_zero, agree, refutes, yields_by, yields}
use Rattle.rows.proofs.Values.{value_combine, dot_scaled}
use Rattle.rows.proofs.Rounding.{fits_exactly}

weigh : (m : ℕ) (v w : ℤ) → v ≤ℤ pos 0 → w ≤ℤ pos 0 → (pos m *ℤ v +ℤ w) ≤ℤ pos 0
weigh m v w h k = omega (arith, ints, sum (pos m *ℤ v) w, times m v, below m (up v) (down v) (≤→halves h))
  where
    below : (m a b : ℕ) → a + 0 ≤ 0 + b → m * a ≤ m * b
    below m a b h = mul-le-mul_left m (omega arith)

pub weighted_below : (ms : List ℕ) {rs : List Row} {s : List ℤ} → Holds s rs → value (combine (map pos ms) rs) s ≤ℤ pos 0
unfolding dot values
weighted_below ms {rs} {s} h = subst (λ (z : ℤ). z ≤ℤ pos 0) (sym (value_combine (map pos ms) rs s)) (go ms rs h)
  where
    go : (ms : List ℕ) (rs : List Row) → Holds s rs → dot (map pos ms) (values rs s) ≤ℤ pos 0
    go [] rs h = ≤ℤ_refl (pos 0)
    go (m ∷ ms) [] h = ≤ℤ_refl (pos 0)
    go (m ∷ ms) (r ∷ rs) (cons v h) = weigh m (value r s) (dot (map pos ms) (values rs s)) v (go ms rs h)

all_zero_dot : (xs s : List ℤ) → T (all_zero xs) → dot xs s ≡ pos 0
unfolding all_zero dot
all_zero_dot [] s t = refl
all_zero_dot (x ∷ xs) [] t = refl
all_zero_dot (x ∷ xs) (a ∷ s) t =
    ap₂ (λ (y z : ℤ). y *ℤ a +ℤ z) (eq_z→eq x (pos 0) (search parts)) (all_zero_dot xs s (search parts)) ∙ zeros a
  where
    zeros : (a : ℤ) → pos 0 *ℤ a +ℤ pos 0 ≡ pos 0
    zeros a = simp (zero-*ℤ, +ℤ_idl)

agree_dot : (xs ys s : List ℤ) → T (agree xs ys) → dot xs s ≡ dot ys s
unfolding agree dot
agree_dot [] ys s t = sym (all_zero_dot ys s t)
agree_dot (x ∷ xs) [] s t = all_zero_dot (x ∷ xs) s t
agree_dot (x ∷ xs) (y ∷ ys) [] t = refl
agree_dot (x ∷ xs) (y ∷ ys) (a ∷ s) t = ap₂ (λ (y z : ℤ). y *ℤ a +ℤ z) (eq_z→eq x y (search parts)) (agree_dot xs ys s (search parts))

-- a contradiction: no state meets the premises
pub refutes_sound : (ms : List ℕ) (premises : List Row) {s : List ℤ} → T (refutes ms premises) → Holds s premises → ⊥
unfolding refutes value
refutes_sound ms premises {s} t h = clash c (le_z_yes (search parts)) (subst (λ (z : ℤ). z ≤ℤ pos 0) e (weighted_below ms h))
  where
    w : Row
    w = combine (map pos ms) premises

    c : ℤ
    c = w.constant

    e : value w s ≡ c
    e = ap (λ (z : ℤ). c +ℤ z) (all_zero_dot w.coefficients s (search parts)) ∙ +ℤ_idr c

    clash : (c : ℤ) → pos 1 ≤ℤ c → c ≤ℤ pos 0 → ⊥
    clash c p q = omega (arith, ints)

-- a sum that fits a row: every whole-number state that meets the premises meets the row
pub yields_sound : (d : ℕ) (ms : List ℕ) (premises : List Row) (r : Row) {s : List ℤ} → T (yields d ms premises r) → Holds s premises → value r s ≤ℤ pos 0
unfolding yields_by value
yields_sound d ms premises r {s} t h = (fits_exactly d r.constant w.constant).0 (search parts) x (subst (λ (z : ℤ). z ≤ℤ pos 0) e (weighted_below ms h))
  where
    w : Row
    w = combine (map pos ms) premises

    x : ℤ
    x = dot r.coefficients s

    e : value w s ≡ w.constant +ℤ pos d *ℤ x
    e = ap (λ (z : ℤ). w.constant +ℤ z) (agree_dot w.coefficients (scaled (pos d) r.coefficients) s (search parts) ∙ dot_scaled (pos d) r.coefficients s)
