-- What an argument asks for, by its bytes: `sparse` asks for the sparse form of a dense certificate, `dense` for the dense form of a sparse one, and
-- `trimmed` for a trimmed one of either.
use Rattle.std.specs.Prelude.{◌≡◌, refl, Bool, true, false, ◌&&◌, List, [], ◌∷◌, ℕ, eqb}
use Rattle.std.proofs.Common.{sym, ap₂, arith, eq-eqb, eqb-true}
use Rattle.plan_conversions.specs.Asked.{same_bytes}

-- ---- lists that are alike

alike : (l : List ℕ) → same_bytes l l ≡ true
unfolding same_bytes
alike [] = refl
alike (a ∷ l) = rw (eq-eqb a a refl) (alike l)

more : (a b : ℕ) {l m : List ℕ} (t : Bool) → eqb a b ≡ t → (same_bytes l m ≡ true → l ≡ m) → t && same_bytes l m ≡ true → a ∷ l ≡ b ∷ m
more a b true q rest e = ap₂ (λ (x : ℕ) (xs : List ℕ). x ∷ xs) (eqb-true a b q) (rest e)
more a b false q rest e = absurd (let z : ◌≡◌ {A = ℕ} 0 1 = cc in omega arith)

same_list : (l m : List ℕ) → same_bytes l m ≡ true → l ≡ m
unfolding same_bytes
same_list [] [] e = refl
same_list [] (b ∷ m) e = absurd (let z : ◌≡◌ {A = ℕ} 0 1 = cc in omega arith)
same_list (a ∷ l) [] e = absurd (let z : ◌≡◌ {A = ℕ} 0 1 = cc in omega arith)
same_list (a ∷ l) (b ∷ m) e = more a b (eqb a b) refl (same_list l m) e

-- a Boolean that says whether they are
pub same_test : (l m : List ℕ) (r : Bool) → (r ≡ true → l ≡ m) × (l ≡ m → r ≡ true) → r ≡ same_bytes l m
same_test l m true (there, back) = sym (rw (← there refl) (alike l))
same_test l m false (there, back) = go (same_bytes l m) refl
  where
    go : (t : Bool) → same_bytes l m ≡ t → false ≡ t
    go true q = back (same_list l m q)
    go false q = refl
