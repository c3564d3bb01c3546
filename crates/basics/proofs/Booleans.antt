-- Booleans: conjunctions taken apart and put together, choices by a Boolean that is known, and tests read as propositions.
use Rattle.std.specs.Prelude.{◌≡◌, refl, ◌↔◌, ◌⊎◌, Bool, true, false, not, cond, ◌&&◌, ◌||◌, ℕ, zero, suc, ◌≤◌, ◌<◌, T, leb, ltb, eqb}
use Rattle.std.proofs.Common.{sym, subst, inl, inr, arith, ltb-true, ltb-false, eq-eqb, leb→le, le→leb, eqb→eq}

pub and_l : (a b : Bool) → T (a && b) → T a
and_l true b t = tt
and_l false b t = t

pub and_r : (a b : Bool) → T (a && b) → T b
and_r true b t = t
and_r false b t = absurd t

-- `search parts` proves `T a` from `T (a && b && c)` in scope
pub ruleset parts = (and_l, and_r)

pub and : (a b : Bool) → T a → T b → T (a && b)
and true b s t = t
and false b s t = s

pub or_l : (a b : Bool) → T a → T (a || b)
or_l true b t = tt
or_l false b t = absurd t

pub or_r : (a b : Bool) → T b → T (a || b)
or_r true b t = tt
or_r false b t = t

pub or_cases : (a b : Bool) → T (a || b) → T a ⊎ T b
or_cases true b t = inl tt
or_cases false b t = inr t

pub holds : {b : Bool} → b ≡ true → T b
holds e = subst (λ (b : Bool). T b) (sym e) tt

pub is_true : (b : Bool) → T b → b ≡ true
is_true true t = refl
is_true false t = absurd t

pub not_not : (b : Bool) → T (not (not b)) → T b
not_not true t = tt
not_not false t = t

pub cond_yes : {A : Type 0} (b : Bool) (x y : A) → T b → cond b x y ≡ x
cond_yes true x y t = refl
cond_yes false x y t = absurd t

pub cond_no : {A : Type 0} (b : Bool) (x y : A) → T (not b) → cond b x y ≡ y
cond_no true x y t = absurd t
cond_no false x y t = refl

pub cond_cases : {X : Type 0} (b x y : Bool) → T (cond b x y) → (T b → X) → (T y → X) → X
cond_cases true x y t f g = f tt
cond_cases false x y t f g = g t

-- ---- tests as propositions: `simp tests` rewrites a test so, in the goal or in a hypothesis

pub both : (a b : Bool) → T (a && b) ↔ (T a × T b)
both a b = (λ t. (and_l a b t, and_r a b t), λ x. and a b x.0 x.1)

pub either : (a b : Bool) → T (a || b) ↔ (¬ T a → T b)
either true b = (λ t n. absurd (n t), λ f. tt)
either false b = (λ t n. t, λ f. f (λ x. x))

pub chosen : (b x y : Bool) → T (cond b x y) ↔ ((T b → T x) × (¬ T b → T y))
chosen true x y = (λ t. (λ u. t, λ n. absurd (n tt)), λ f. f.0 tt)
chosen false x y = (λ t. (λ u. absurd u, λ n. t), λ f. f.1 (λ u. u))

pub le_test : (a b : ℕ) → T (leb a b) ↔ (a ≤ b)
le_test a b = (leb→le a b, le→leb a b)

pub eq_test : (a b : ℕ) → T (eqb a b) ↔ (a ≡ b)
eq_test a b = (eqb→eq a b, λ e. holds (eq-eqb a b e))

pub ruleset tests = (both, either, chosen, le_test, eq_test)

-- ---- a conjunction that grows at its end, as a loop does that counts up

module _ (all one : ℕ → Bool) (P : ℕ → Type 0) (start : all 0 ≡ true) (grows : (i : ℕ) → all (suc i) ≡ all i && one i) (means : (i : ℕ) → T (one i) ↔ P i) where
  each_of : (m : ℕ) → T (all m) → (i : ℕ) → i < m → P i
  each_of zero t i h = absurd (omega arith)
  each_of (suc m) t i h = go (ltb i m) refl (rw grows at t) (λ u l. each_of m u i l)
    where
      go : (b : Bool) → ltb i m ≡ b → T (all m && one m) → (T (all m) → i < m → P i) → P i
      go true q t r = r (and_l (all m) (one m) t) (ltb-true i m q)
      go false q t r = let l : i ≡ m = omega (arith, ltb-false i m q) in rw l ((means m).0 (and_r (all m) (one m) t))

  of_each : (m : ℕ) → ((i : ℕ) → i < m → P i) → T (all m)
  of_each zero f = holds start
  of_each (suc m) f = rw grows (and (all m) (one m) (of_each m (λ i h. f i (omega arith))) ((means m).1 (f m (omega arith))))

  pub each : (m : ℕ) → T (all m) ↔ ((i : ℕ) → i < m → P i)
  each m = (each_of m, of_each m)

-- two that hold alike are one
pub same_truth : (a b : Bool) → (T a → T b) → (T b → T a) → a ≡ b
same_truth true true f g = refl
same_truth true false f g = absurd (f tt)
same_truth false true f g = absurd (g tt)
same_truth false false f g = refl
