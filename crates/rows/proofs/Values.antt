-- Values of sums and of substituted rows. A weighted sum's value is the weighted sum of the values, and a substituted row's value is the
-- row's value at the values of the image: shown once, for any number of rows and of columns.
use Rattle.std.specs.Prelude.{◌≡◌, refl, ℤ, ◌+ℤ◌, ◌*ℤ◌, ◌≤ℤ◌}
use Rattle.std.proofs.Common.{sym, ◌∙◌, ap₂, subst}
use Rattle.std.proofs.Math.Path.{ap}
use mathlib.Core.List.{List, [], ◌∷◌, ◌++◌}
use Rattle.std.proofs.Math.IntN.{pos, +ℤ_idl, +ℤ_idr, *ℤ-zero}
use Rattle.basics.proofs.Integers.{ring}
use Rattle.rows.specs.Rows.{Row, dot, value, values, Holds, nil, cons, plus, scaled, constant_row, add, scale, combine, substitute, substitute_all}

-- `simp` stands in lemmas of its own: in a clause that calls itself it may find two different proofs
plus_step : (x y a u v : ℤ) → (x +ℤ y) *ℤ a +ℤ (u +ℤ v) ≡ (x *ℤ a +ℤ u) +ℤ (y *ℤ a +ℤ v)
plus_step x y a u v = simp ring

scaled_step : (m x a u : ℤ) → m *ℤ x *ℤ a +ℤ m *ℤ u ≡ m *ℤ (x *ℤ a +ℤ u)
scaled_step m x a u = simp ring

dot_plus : (xs ys s : List ℤ) → dot (plus xs ys) s ≡ dot xs s +ℤ dot ys s
unfolding dot plus
dot_plus [] ys s = sym (+ℤ_idl (dot ys s))
dot_plus (x ∷ xs) [] s = sym (+ℤ_idr (dot (x ∷ xs) s))
dot_plus (x ∷ xs) (y ∷ ys) [] = refl
dot_plus (x ∷ xs) (y ∷ ys) (a ∷ s) = ap (λ (z : ℤ). (x +ℤ y) *ℤ a +ℤ z) (dot_plus xs ys s) ∙ plus_step x y a (dot xs s) (dot ys s)

pub dot_scaled : (m : ℤ) (xs s : List ℤ) → dot (scaled m xs) s ≡ m *ℤ dot xs s
unfolding dot scaled
dot_scaled m [] s = sym (*ℤ-zero m)
dot_scaled m (x ∷ xs) [] = sym (*ℤ-zero m)
dot_scaled m (x ∷ xs) (a ∷ s) = ap (λ (z : ℤ). m *ℤ x *ℤ a +ℤ z) (dot_scaled m xs s) ∙ scaled_step m x a (dot xs s)

pub value_constant : (c : ℤ) (s : List ℤ) → value (constant_row c) s ≡ c
unfolding value constant_row dot
value_constant c s = +ℤ_idr c

pub value_add : (a b : Row) (s : List ℤ) → value (add a b) s ≡ value a s +ℤ value b s
unfolding value add
value_add a b s = ap (λ (z : ℤ). a.constant +ℤ b.constant +ℤ z) (dot_plus a.coefficients b.coefficients s) ∙ simp ring

pub value_scale : (m : ℤ) (a : Row) (s : List ℤ) → value (scale m a) s ≡ m *ℤ value a s
unfolding value scale
value_scale m a s = ap (λ (z : ℤ). m *ℤ a.constant +ℤ z) (dot_scaled m a.coefficients s) ∙ simp ring

pub value_combine : (ws : List ℤ) (rows : List Row) (s : List ℤ) → value (combine ws rows) s ≡ dot ws (values rows s)
unfolding combine dot values
value_combine [] rows s = value_constant (pos 0) s
value_combine (w ∷ ws) [] s = value_constant (pos 0) s
value_combine (w ∷ ws) (r ∷ rows) s = value_add (scale w r) (combine ws rows) s ∙ ap₂ (λ (x y : ℤ). x +ℤ y) (value_scale w r s) (value_combine ws rows s)

-- THE SUBSTITUTION FACT
pub value_substitute : (image : List Row) (r : Row) (s : List ℤ) → value (substitute image r) s ≡ value r (values image s)
unfolding value substitute
value_substitute image r s = value_add (constant_row r.constant) (combine r.coefficients image) s
    ∙ ap₂ (λ (x y : ℤ). x +ℤ y) (value_constant r.constant s) (value_combine r.coefficients image s)

pub values_substitute : (image rows : List Row) (s : List ℤ) → values (substitute_all image rows) s ≡ values rows (values image s)
unfolding values substitute_all
values_substitute image [] s = refl
values_substitute image (r ∷ rs) s = ap₂ (λ (x : ℤ) (xs : List ℤ). x ∷ xs) (value_substitute image r s) (values_substitute image rs s)

-- ---- rows that hold

pub holds_append : {s : List ℤ} {xs ys : List Row} → Holds s xs → Holds s ys → Holds s (xs ++ ys)
holds_append nil k = k
holds_append (cons v h) k = cons v (holds_append h k)

module _ (image : List Row) where
  pub holds_substituted : (rs : List Row) {s t : List ℤ} → values image s ≡ t → Holds t rs → Holds s (substitute_all image rs)
  unfolding substitute_all
  holds_substituted [] e h = nil
  holds_substituted (r ∷ rs) {s} e (cons v h) =
      cons (subst (λ (z : ℤ). z ≤ℤ pos 0) (sym (value_substitute image r s ∙ ap (value r) e)) v) (holds_substituted rs e h)

  pub substituted_holds : (rs : List Row) {s t : List ℤ} → values image s ≡ t → Holds s (substitute_all image rs) → Holds t rs
  unfolding substitute_all
  substituted_holds [] e h = nil
  substituted_holds (r ∷ rs) {s} e (cons v h) =
      cons (subst (λ (z : ℤ). z ≤ℤ pos 0) (value_substitute image r s ∙ ap (value r) e) v) (substituted_holds rs e h)
