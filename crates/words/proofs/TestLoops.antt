-- Loops over tests: what a loop that counts up and leaves at the first failure knows of the first failure, before its turns, in them and
-- on its ways out, for any tests f 1, f 2, .., f m and any test that stands before them.
use Rattle.std.specs.Prelude.{◌≡◌, true, false, ℕ, ◌+◌, ◌<◌}
use Rattle.std.proofs.Math.Path.{refl, ap}
use Rattle.std.proofs.Common.{◌∙◌, add-one, arith}
use mathlib.Core.List.{List, [], ◌∷◌, ◌++◌}
use Rattle.std.proofs.Math.Option.{none, some}
use Rattle.basics.specs.Lists.{listed, gathered}
use Rattle.words.specs.Tests.{Refusal, Test, first_failure}
use Rattle.words.proofs.FirstFailure.{passed_before, no_failure, pass_listed, pass_gathered, first_gathered, test_passes, listed_gathered}

-- ---- one test before others

module _ (t : Test) (ts : List Test) where
  pub first_fails : t.passes ≡ false → first_failure (t ∷ ts) ≡ some t.refusal
  unfolding first_failure
  first_fails e = simp e

  pub first_passes : t.passes ≡ true → first_failure (t ∷ ts) ≡ first_failure ts
  unfolding first_failure
  first_passes e = simp e

-- ---- tests before others

pub passed : (ts us : List Test) → first_failure ts ≡ none → first_failure (ts ++ us) ≡ first_failure us
passed ts us e = passed_before ts us ((no_failure ts).0 e)

-- ---- the tests f 1, f 2, .., f m

module _ (f : ℕ → Test) where
  pub no_test : first_failure (listed f 0) ≡ none
  unfolding first_failure listed
  no_test = refl

  listed_next : (i : ℕ) → listed f (i + 1) ≡ listed f i ++ (f (i + 1) ∷ [])
  unfolding listed
  listed_next i = ap (λ j. listed f j) (add-one i)

  next : (i : ℕ) → first_failure (listed f i) ≡ none → first_failure (listed f (i + 1)) ≡ first_failure (f (i + 1) ∷ [])
  next i e = ap first_failure (listed_next i) ∙ passed (listed f i) (f (i + 1) ∷ []) e

  pub next_passes : (i : ℕ) → first_failure (listed f i) ≡ none → (f (i + 1)).passes ≡ true → first_failure (listed f (i + 1)) ≡ none
  unfolding listed
  next_passes i e q = next i e ∙ (first_passes (f (i + 1)) [] q ∙ no_test)

  pub one_fails : (i m : ℕ) → i < m → first_failure (listed f i) ≡ none → (f (i + 1)).passes ≡ false → first_failure (listed f m) ≡ some (f (i + 1)).refusal
  one_fails i m h e q =
      rw (listed_gathered f m)
      ((first_gathered (λ j. f j ∷ []) (f (i + 1)).refusal m).1
      (record {
        index = i + 1;
        low = omega arith;
        high = omega arith;
        earlier = λ j l k. (test_passes (f j)).1 ((pass_listed f i).0 ((no_failure (listed f i)).0 e) j l (omega arith));
        wrong = first_fails (f (i + 1)) [] q;
      }))

  -- the ways out, where a test that passed stands before them
  module _ (t : Test) (p : t.passes ≡ true) where
    pub fails_after : (i m : ℕ) → i < m → first_failure (listed f i) ≡ none → (f (i + 1)).passes ≡ false → first_failure (t ∷ listed f m) ≡ some (f (i + 1)).refusal
    fails_after i m h e q = first_passes t (listed f m) p ∙ one_fails i m h e q

    pub passes_after : (m : ℕ) → first_failure (listed f m) ≡ none → first_failure (t ∷ listed f m) ≡ none
    passes_after m e = first_passes t (listed f m) p ∙ e

-- ---- the lists of tests f 1, f 2, .., f m, one after the other

module _ (f : ℕ → List Test) where
  pub no_list : first_failure (gathered f 0) ≡ none
  unfolding first_failure gathered
  no_list = refl

  gathered_next : (i : ℕ) → gathered f (i + 1) ≡ gathered f i ++ f (i + 1)
  unfolding gathered
  gathered_next i = ap (λ j. gathered f j) (add-one i)

  pub next_list_passes : (i : ℕ) → first_failure (gathered f i) ≡ none → first_failure (f (i + 1)) ≡ none → first_failure (gathered f (i + 1)) ≡ none
  next_list_passes i e q = ap first_failure (gathered_next i) ∙ (passed (gathered f i) (f (i + 1)) e ∙ q)

  one_list_fails : (i m : ℕ) {r : Refusal} → i < m → first_failure (gathered f i) ≡ none → first_failure (f (i + 1)) ≡ some r → first_failure (gathered f m) ≡ some r
  one_list_fails i m {r} h e q =
      (first_gathered f r m).1
      (record { index = i + 1; low = omega arith; high = omega arith; earlier = λ j l k. (pass_gathered f i).0 ((no_failure (gathered f i)).0 e) j l (omega arith); wrong = q })

  -- the ways out, where a test that passed stands before them
  module _ (t : Test) (p : t.passes ≡ true) where
    pub list_fails_after : (i m : ℕ) {r : Refusal} → i < m → first_failure (gathered f i) ≡ none → first_failure (f (i + 1)) ≡ some r → first_failure (t ∷ gathered f m) ≡ some r
    list_fails_after i m h e q = first_passes t (gathered f m) p ∙ one_list_fails i m h e q

    pub lists_pass_after : (m : ℕ) → first_failure (gathered f m) ≡ none → first_failure (t ∷ gathered f m) ≡ none
    lists_pass_after m e = first_passes t (gathered f m) p ∙ e
