-- One of a list of cases: of a single one, of a list that is mapped, and of two lists that are mapped one after the other.
use Rattle.std.specs.Prelude.{◌≡◌, refl, List, [], ◌∷◌, ◌++◌, map, ℕ, zero, suc, ◌+◌, ◌-◌, ◌≤◌, ◌<◌, length, get_or}
use Rattle.std.proofs.Common.{ap, ◌∙◌, arith, length-append, get_or-append-add}
use Rattle.std.proofs.Math.Option.{some, some-injective}
use Rattle.std.proofs.Math.ListN.{get_elem?, get_or-append}
use Rattle.std.proofs.lemmas.List.{length-map}

pub only_case : {A : Type 0} {l : List A} {x : A} (z : A) (i : ℕ) → l ≡ x ∷ [] → i < length l → get_or l i z ≡ x
only_case {l = l} {x} z i e h = go i (rw e at h)
  where
    go : (i : ℕ) → i < length (x ∷ []) → get_or l i z ≡ x
    go zero h = rw e
    go (suc i) h = absurd (omega arith)

there : {A : Type 0} (l : List A) (i : ℕ) (x : A) → i < length l → get_elem? l i ≡ some (get_or l i x)
there [] i x b = absurd (omega arith)
there (y ∷ l) zero x b = refl
there (y ∷ l) (suc i) x b = there l i x (omega arith)

pub mapped : {A B : Type 0} (f : A → B) (l : List A) (i : ℕ) (z : B) {y : A} → get_elem? l i ≡ some y → get_or (map f l) i z ≡ f y
mapped f [] i z e = absurd (let z : ◌≡◌ {A = ℕ} 0 1 = cc in omega arith)
mapped f (x ∷ l) zero z {y} e = ap f (some-injective x y e)
mapped f (x ∷ l) (suc i) z e = mapped f l i z e

module _ {A B : Type 0} (f g : A → B) (xs ys : List A) (x : A) (z : B) where
  pub length_sides : length (map f xs ++ map g ys) ≡ length xs + length ys
  length_sides = rw (length-append, length-map xs f, length-map ys g)

  pub first_side : (i : ℕ) → i < length xs → get_or (map f xs ++ map g ys) i z ≡ f (get_or xs i x)
  first_side i b = get_or-append (map f xs) (map g ys) z i (rw length-map b) ∙ mapped f xs i z (there xs i x b)

  pub second_side : (i : ℕ) → length xs ≤ i → i < length xs + length ys → get_or (map f xs ++ map g ys) i z ≡ g (get_or ys (i - length xs) x)
  second_side i low high =
      let e : length (map f xs) + (i - length xs) ≡ i = omega (arith, length-map xs f) in
      (rw e at (get_or-append-add (map f xs) (map g ys) (i - length xs) z)) ∙ mapped g ys (i - length xs) z (there ys (i - length xs) x (omega arith))
