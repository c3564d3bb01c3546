-- What the tests of an entry come to: the first failure, or the next free place.
use Rattle.std.specs.Prelude.{ℕ, ◌≡◌, refl, Option as Maybe, Some, None, ok_or, Result, Ok, Err}
use Rattle.std.proofs.Common.{sym, arith}
use Rattle.std.proofs.Math.Option.{Option, none, some}
use Rattle.words.specs.Tests as tests

unfoldable pub outcome : Option tests.Refusal → ℕ → Result ℕ tests.Refusal
outcome none free = Ok free
outcome (some r) free = Err r

pub outcome_failed : (o : Option tests.Refusal) (free : ℕ) (r : tests.Refusal) → outcome o free ≡ Err r → o ≡ some r
unfolding outcome
outcome_failed none free r e = absurd (let z : ◌≡◌ {A = ℕ} 0 1 = cc in omega arith)
outcome_failed (some x) free r e = let q : x ≡ r = cc in rw q refl

pub outcome_passed : (o : Option tests.Refusal) (free next : ℕ) → outcome o free ≡ Ok next → (o ≡ none) × (next ≡ free)
unfolding outcome
outcome_passed none free next e = (refl, let q : free ≡ next = cc in sym q)
outcome_passed (some x) free next e = absurd (let z : ◌≡◌ {A = ℕ} 0 1 = cc in omega arith)

-- ---- what stands behind a `?`

pub none_refused : {A B : Type 0} (o : Maybe A) (e q : B) → ok_or o e ≡ Err q → (o ≡ None) × (q ≡ e)
none_refused (Some x) e q h = absurd (let z : ◌≡◌ {A = ℕ} 0 1 = cc in omega arith)
none_refused None e q h = (refl, let p : e ≡ q = cc in sym p)

pub some_handed : {A B : Type 0} (o : Maybe A) (e : B) (x : A) → ok_or o e ≡ Ok x → o ≡ Some x
some_handed (Some y) e x h = let p : y ≡ x = cc in rw p refl
some_handed None e x h = absurd (let z : ◌≡◌ {A = ℕ} 0 1 = cc in omega arith)
