-- The first failing test, for any list of tests: there is none if and only if each test passes, and it is a refusal if and only if the
-- list has a failing test with that refusal and each test before it passes. For a family of tests 1, 2, .., m, or of lists of tests, it is
-- the first i that is wrong, where those before it are right.
use Rattle.std.specs.Prelude.{◌≡◌, Bool, not, cond, ◌↔◌, ◌⊎◌}
use Rattle.std.proofs.Math.Path.{refl, subst}
use Rattle.std.proofs.Common.{sym, ap, ◌∙◌, arith}
use Rattle.std.proofs.Math.Bool.{true, false}
use mathlib.Core.List.Memᴰ
use mathlib.Core.List.{List, [], ◌∷◌, ◌++◌, Memᴰ, append_assoc}
use Rattle.std.proofs.Math.Logic.{inl, inr}
use Rattle.std.proofs.Math.Logic.Iff.{trans as iff_trans}
use Rattle.std.proofs.Math.Option.{Option, none, some, some-injective, none-ne-some}
use Prim.Native.Nat.{ℕ, zero, suc, ◌+◌, ◌-◌, ◌≤◌, ◌<◌}
use borrow.Author.Tests.{leb-true, leb-false}
use Rattle.std.proofs.Math.Dec.{T, leb}
use Rattle.basics.proofs.Booleans.{holds, cond_yes, cond_no}
use Rattle.basics.specs.Lists.{listed, gathered}
use Rattle.basics.proofs.Lists.{listed_member, member_listed}
use Rattle.words.specs.Tests.{Refusal, Test, test, test_on, first_failure, refusal_on}
use Rattle.words.specs.FirstFailure.{AllPass, First, FirstFails, FirstWrong, FirstWrongOn}

module _ (t : Test) (ts : List Test) where
  pub pass_more : T t.passes → AllPass ts → AllPass (t ∷ ts)
  unfolding AllPass
  pass_more h f u (Memᴰ.head e) = subst (λ (x : Test). T x.passes) (sym e) h
  pass_more h f u (Memᴰ.tail m) = f u m

  pub pass_fewer : AllPass (t ∷ ts) → AllPass ts
  unfolding AllPass
  pass_fewer f u m = f u (Memᴰ.tail m)

  pub pass_first : AllPass (t ∷ ts) → T t.passes
  unfolding AllPass
  pass_first f = f t (Memᴰ.head refl)

  pub pass_cons : AllPass (t ∷ ts) ↔ (T t.passes × AllPass ts)
  pass_cons = (λ f. (pass_first f, pass_fewer f), λ x. pass_more x.0 x.1)

pub none_pass : AllPass []
unfolding AllPass
none_pass t m = absurd (Memᴰ.not-nil m)

pass_all : (ts : List Test) → first_failure ts ≡ none → AllPass ts
unfolding first_failure
pass_all [] e = none_pass
pass_all (t ∷ ts) e = go t.passes refl (pass_all ts) e
  where
    go : (b : Bool) → t.passes ≡ b → (first_failure ts ≡ none → AllPass ts) → cond b (first_failure ts) (some t.refusal) ≡ none → AllPass (t ∷ ts)
    go true q h e = pass_more t ts (holds q) (h e)
    go false q h e = absurd (none-ne-some t.refusal (sym e))

all_pass : (ts : List Test) → AllPass ts → first_failure ts ≡ none
unfolding first_failure
all_pass [] f = refl
all_pass (t ∷ ts) f = cond_yes t.passes (first_failure ts) (some t.refusal) (pass_first t ts f) ∙ all_pass ts (pass_fewer t ts f)

pub no_failure : (ts : List Test) → (first_failure ts ≡ none) ↔ AllPass ts
no_failure ts = (pass_all ts, all_pass ts)

find : (ts : List Test) (r : Refusal) → first_failure ts ≡ some r → FirstFails ts r
unfolding first_failure
find [] r e = absurd (none-ne-some r e)
find (t ∷ ts) r e = go t.passes refl (find ts r) e
  where
    go : (b : Bool) → t.passes ≡ b → (first_failure ts ≡ some r → FirstFails ts r) → cond b (first_failure ts) (some t.refusal) ≡ some r → FirstFails (t ∷ ts) r
    go true q h e =
        let x : FirstFails ts r = h e in
        record { earlier = t ∷ x.earlier; failing = x.failing; later = x.later; splits = ap (λ (l : List Test). t ∷ l) x.splits; passed = pass_more t x.earlier (holds q) x.passed; fails = x.fails; refuses = x.refuses }
    go false q h e =
        record { earlier = []; failing = t; later = ts; splits = refl; passed = none_pass; fails = subst (λ (b : Bool). T (not b)) (sym q) tt; refuses = some-injective t.refusal r e }

-- tests that pass before others
pub passed_before : (ts us : List Test) → AllPass ts → first_failure (ts ++ us) ≡ first_failure us
unfolding first_failure
passed_before [] us f = refl
passed_before (t ∷ ts) us f = cond_yes t.passes (first_failure (ts ++ us)) (some t.refusal) (pass_first t ts f) ∙ passed_before ts us (pass_fewer t ts f)

found : (ts : List Test) (r : Refusal) → FirstFails ts r → first_failure ts ≡ some r
unfolding first_failure
found ts r x = ap first_failure x.splits ∙ passed_before x.earlier (x.failing ∷ x.later) x.passed
    ∙ cond_no x.failing.passes (first_failure x.later) (some x.failing.refusal) x.fails ∙ ap some x.refuses

pub first_failure_lem : (ts : List Test) (r : Refusal) → (first_failure ts ≡ some r) ↔ FirstFails ts r
first_failure_lem ts r = (find ts r, found ts r)

-- tests of which one fails before others
pub failed_before : (ts us : List Test) {r : Refusal} → first_failure ts ≡ some r → first_failure (ts ++ us) ≡ some r
failed_before ts us {r} e =
    let x : FirstFails ts r = find ts r e in
    found (ts ++ us) r
    (record {
      earlier = x.earlier;
      failing = x.failing;
      later = x.later ++ us;
      splits = ap (λ (l : List Test). l ++ us) x.splits ∙ append_assoc x.earlier (x.failing ∷ x.later) us;
      passed = x.passed;
      fails = x.fails;
      refuses = x.refuses;
    })

-- ---- families of tests

pub pass_append : (ts us : List Test) → AllPass (ts ++ us) ↔ (AllPass ts × AllPass us)
unfolding AllPass
pass_append ts us = (λ f. (λ t m. f t (Memᴰ.append_left us m), λ t m. f t (Memᴰ.append_right ts m)), λ f t m. go f t (Memᴰ.append_cases ts m))
  where
    go : AllPass ts × AllPass us → (t : Test) → Memᴰ t ts ⊎ Memᴰ t us → T t.passes
    go f t (inl m) = f.0 t m
    go f t (inr m) = f.1 t m

-- the tests f 1, f 2, .., f m
pub pass_listed : (f : ℕ → Test) (m : ℕ) → AllPass (listed f m) ↔ ((i : ℕ) → 1 ≤ i → i ≤ m → T (f i).passes)
unfolding AllPass
pass_listed f m = (there, λ h t k. back h t (member_listed f m k))
  where
    there : ((t : Test) → Memᴰ t (listed f m) → T t.passes) → (i : ℕ) → 1 ≤ i → i ≤ m → T (f i).passes
    there h i l k = let e : i - 1 + 1 ≡ i = omega arith in subst (λ j. T (f j).passes) e (h (f (i - 1 + 1)) (listed_member f m (i - 1) (omega arith)))

    back : ((i : ℕ) → 1 ≤ i → i ≤ m → T (f i).passes) → (t : Test) → (i : ℕ) × (i < m) × (t ≡ f (i + 1)) → T t.passes
    back h t x = let l : x.0 < m = x.1 in subst (λ (u : Test). T u.passes) (sym x.2) (h (x.0 + 1) (omega arith) (omega arith))

-- the lists of tests f 1, f 2, .., f m, one after the other
pub pass_gathered : (f : ℕ → List Test) (m : ℕ) → AllPass (gathered f m) ↔ ((i : ℕ) → 1 ≤ i → i ≤ m → AllPass (f i))
unfolding gathered
pass_gathered f zero = (λ h i l k. absurd (omega arith), λ h. none_pass)
pass_gathered f (suc m) = (there (pass_gathered f m).0, back (pass_gathered f m).1)
  where
    there : (AllPass (gathered f m) → (i : ℕ) → 1 ≤ i → i ≤ m → AllPass (f i)) → AllPass (gathered f m ++ f (m + 1)) → (i : ℕ) → 1 ≤ i → i ≤ suc m → AllPass (f i)
    there before h i l k = go (leb i m) refl
      where
        go : (b : Bool) → leb i m ≡ b → AllPass (f i)
        go true q = before ((pass_append (gathered f m) (f (m + 1))).0 h).0 i l (leb-true i m q)
        go false q = let e : m + 1 ≡ i = omega (arith, leb-false i m q) in rw e at ((pass_append (gathered f m) (f (m + 1))).0 h).1

    back : (((i : ℕ) → 1 ≤ i → i ≤ m → AllPass (f i)) → AllPass (gathered f m)) → ((i : ℕ) → 1 ≤ i → i ≤ suc m → AllPass (f i)) → AllPass (gathered f m ++ f (m + 1))
    back before h = (pass_append (gathered f m) (f (m + 1))).1 (before (λ i l k. h i l (omega arith)), h (m + 1) (omega arith) (omega arith))

same_first : (m : ℕ) {Right Right' Wrong Wrong' : ℕ → Type 0} → ((i : ℕ) → 1 ≤ i → Right i → Right' i) → ((i : ℕ) → 1 ≤ i → Wrong i → Wrong' i)
    → First m Right Wrong → First m Right' Wrong'
same_first m right wrong x = record { index = x.index; low = x.low; high = x.high; earlier = λ i l k. right i l (x.earlier i l k); wrong = wrong x.index x.low x.wrong }

-- tests before others: the refusal is of the first, or of the others where the first pass
module _ (ts us : List Test) (r : Refusal) where
  pub append_fails : (first_failure (ts ++ us) ≡ some r) ↔ ((first_failure ts ≡ some r) ⊎ (AllPass ts × (first_failure us ≡ some r)))
  append_fails = (there (first_failure ts) refl, back)
    where
      there : (o : Option Refusal) → first_failure ts ≡ o → first_failure (ts ++ us) ≡ some r → (first_failure ts ≡ some r) ⊎ (AllPass ts × (first_failure us ≡ some r))
      there none q e = let a : AllPass ts = (no_failure ts).0 q in inr (a, sym (passed_before ts us a) ∙ e)
      there (some t) q e = inl (q ∙ (sym (failed_before ts us q) ∙ e))

      back : (first_failure ts ≡ some r) ⊎ (AllPass ts × (first_failure us ≡ some r)) → first_failure (ts ++ us) ≡ some r
      back (inl q) = failed_before ts us q
      back (inr (a, q)) = passed_before ts us a ∙ q

  -- where only one of the two can have the refusal
  pub sooner_fails : (first_failure us ≡ some r → ⊥) → (first_failure (ts ++ us) ≡ some r) ↔ (first_failure ts ≡ some r)
  sooner_fails other = iff_trans append_fails (go, inl)
    where
      go : (first_failure ts ≡ some r) ⊎ (AllPass ts × (first_failure us ≡ some r)) → first_failure ts ≡ some r
      go (inl q) = q
      go (inr (a, q)) = absurd (other q)

  pub later_fails : (first_failure ts ≡ some r → ⊥) → (first_failure (ts ++ us) ≡ some r) ↔ (AllPass ts × (first_failure us ≡ some r))
  later_fails other = iff_trans append_fails (go, inr)
    where
      go : (first_failure ts ≡ some r) ⊎ (AllPass ts × (first_failure us ≡ some r)) → AllPass ts × (first_failure us ≡ some r)
      go (inl q) = absurd (other q)
      go (inr x) = x

-- the lists of tests f 1, f 2, .., f m: the first list in which a test fails
module _ (f : ℕ → List Test) (r : Refusal) where
  find_gathered : (m : ℕ) → first_failure (gathered f m) ≡ some r → First m (λ i. AllPass (f i)) (λ i. first_failure (f i) ≡ some r)
  unfolding gathered first_failure
  find_gathered zero e = absurd (none-ne-some r e)
  find_gathered (suc m) e = go (find_gathered m) ((append_fails (gathered f m) (f (m + 1)) r).0 e)
    where
      go : (first_failure (gathered f m) ≡ some r → First m (λ i. AllPass (f i)) (λ i. first_failure (f i) ≡ some r))
          → (first_failure (gathered f m) ≡ some r) ⊎ (AllPass (gathered f m) × (first_failure (f (m + 1)) ≡ some r)) → First (suc m) (λ i. AllPass (f i)) (λ i. first_failure (f i) ≡ some r)
      go h (inl q) = let x = h q in record { index = x.index; low = x.low; high = omega arith; earlier = x.earlier; wrong = x.wrong }
      go h (inr (a, q)) = record { index = m + 1; low = omega arith; high = omega arith; earlier = λ i l k. (pass_gathered f m).0 a i l (omega arith); wrong = q }

  found_gathered : (m : ℕ) → First m (λ i. AllPass (f i)) (λ i. first_failure (f i) ≡ some r) → first_failure (gathered f m) ≡ some r
  unfolding gathered
  found_gathered zero x = absurd (omega arith)
  found_gathered (suc m) x = (append_fails (gathered f m) (f (m + 1)) r).1 (go (leb x.index m) refl (found_gathered m))
    where
      go : (b : Bool) → leb x.index m ≡ b → (First m (λ i. AllPass (f i)) (λ i. first_failure (f i) ≡ some r) → first_failure (gathered f m) ≡ some r)
          → (first_failure (gathered f m) ≡ some r) ⊎ (AllPass (gathered f m) × (first_failure (f (m + 1)) ≡ some r))
      go true q h = inl (h (record { index = x.index; low = x.low; high = leb-true x.index m q; earlier = x.earlier; wrong = x.wrong }))
      go false q h =
          let e : x.index ≡ m + 1 = omega (arith, leb-false x.index m q) in
          inr ((pass_gathered f m).1 (λ i l k. x.earlier i l (omega arith)), subst (λ i. first_failure (f i) ≡ some r) e x.wrong)

  pub first_gathered : (m : ℕ) → (first_failure (gathered f m) ≡ some r) ↔ First m (λ i. AllPass (f i)) (λ i. first_failure (f i) ≡ some r)
  first_gathered m = (find_gathered m, found_gathered m)

  -- and what that means, where it is known what the tests mean
  pub first_means : (m : ℕ) {Right Wrong : ℕ → Type 0} → ((i : ℕ) → 1 ≤ i → AllPass (f i) ↔ Right i) → ((i : ℕ) → 1 ≤ i → (first_failure (f i) ≡ some r) ↔ Wrong i)
      → (first_failure (gathered f m) ≡ some r) ↔ First m Right Wrong
  first_means m right wrong =
      iff_trans (first_gathered m) (same_first m (λ i l. (right i l).0) (λ i l. (wrong i l).0), same_first m (λ i l. (right i l).1) (λ i l. (wrong i l).1))

-- one test, where it is known what it means
pub test_fails : (number place line : ℕ) (passes : Bool) {Right : Type 0} → (T passes ↔ Right) → (r : Refusal)
    → (first_failure (test_on number place line passes ∷ []) ≡ some r) ↔ ((r.number ≡ number) × (r.place ≡ place) × (r.line ≡ line) × ¬ Right)
unfolding first_failure
test_fails number place line passes {Right} means r = (there passes means.1, back passes means.0)
  where
    there : (b : Bool) → (Right → T b) → cond b none (some (refusal_on number place line)) ≡ some r → (r.number ≡ number) × (r.place ≡ place) × (r.line ≡ line) × ¬ Right
    there true f e = absurd (none-ne-some r e)
    there false f e =
        let q = sym (some-injective _ r e) in (ap (λ (r : Refusal). r.number) q, ap (λ (r : Refusal). r.place) q, ap (λ (r : Refusal). r.line) q, f)

    back : (b : Bool) → (T b → Right) → (r.number ≡ number) × (r.place ≡ place) × (r.line ≡ line) × ¬ Right → cond b none (some (refusal_on number place line)) ≡ some r
    back true f x = absurd (x.3 (f tt))
    back false f x = ap some (λ i. refusal_on (sym x.0 i) (sym x.1 i) (sym x.2 i))

pub test_passes : (t : Test) → AllPass (t ∷ []) ↔ T t.passes
test_passes t = (pass_first t [], λ h. pass_more t [] h none_pass)

pub two_pass : (t u : Test) → AllPass (t ∷ u ∷ []) ↔ (T t.passes × T u.passes)
two_pass t u = (λ f. let x = (pass_cons t (u ∷ [])).0 f in (x.0, (test_passes u).0 x.1), λ x. pass_more t (u ∷ []) x.0 ((test_passes u).1 x.1))

pub listed_gathered : (f : ℕ → Test) (m : ℕ) → listed f m ≡ gathered (λ i. f i ∷ []) m
unfolding listed gathered
listed_gathered f zero = refl
listed_gathered f (suc m) = ap (λ (l : List Test). l ++ (f (m + 1) ∷ [])) (listed_gathered f m)

-- the tests f 1, f 2, .., f m, all with one number: it is the first of them that isn't right
pub first_listed_on : (number m : ℕ) (place_of line_of : ℕ → ℕ) (passes : ℕ → Bool) {Right : ℕ → Type 0} → ((i : ℕ) → 1 ≤ i → T (passes i) ↔ Right i) → (r : Refusal)
    → (first_failure (listed (λ i. test_on number (place_of i) (line_of i) (passes i)) m) ≡ some r) ↔ ((r.number ≡ number) × FirstWrongOn m Right place_of line_of r.place r.line)
first_listed_on number m place_of line_of passes {Right} means r =
    rw (listed_gathered (λ i. test_on number (place_of i) (line_of i) (passes i)) m)
    (iff_trans
    (first_means (λ i. test_on number (place_of i) (line_of i) (passes i) ∷ []) r m (λ i l. iff_trans (test_passes (test_on number (place_of i) (line_of i) (passes i))) (means i l))
    (λ i l. test_fails number (place_of i) (line_of i) (passes i) (means i l) r))
    (there, back))
  where
    Wrong : ℕ → Type 0
    Wrong i = (r.number ≡ number) × (r.place ≡ place_of i) × (r.line ≡ line_of i) × ¬ Right i

    there : First m Right Wrong → (r.number ≡ number) × FirstWrongOn m Right place_of line_of r.place r.line
    there x = (x.wrong.0, same_first m (λ i l h. h) (λ i l w. (w.1, w.2, w.3)) x)

    back : (r.number ≡ number) × FirstWrongOn m Right place_of line_of r.place r.line → First m Right Wrong
    back (e, x) = same_first m (λ i l h. h) (λ i l w. (e, w.0, w.1, w.2)) x

-- where none has a line
pub first_listed : (number m : ℕ) (place_of : ℕ → ℕ) (passes : ℕ → Bool) {Right : ℕ → Type 0} → ((i : ℕ) → 1 ≤ i → T (passes i) ↔ Right i) → (r : Refusal)
    → (first_failure (listed (λ i. test number (place_of i) (passes i)) m) ≡ some r) ↔ ((r.number ≡ number) × (r.line ≡ 0) × FirstWrong m Right place_of r.place)
first_listed number m place_of passes means r =
    iff_trans (first_listed_on number m place_of (λ i. 0) passes means r) (
      λ x. (x.0, x.1.wrong.1, same_first m (λ i l h. h) (λ i l w. (w.0, w.2)) x.1),
      λ x. (x.0, same_first m (λ i l h. h) (λ i l w. (w.0, x.1, w.1)) x.2),
    )
