-- What the code's outcome says of the first failure, and how a loop over tests, left at the first that fails, comes to it.
use Rattle.std.specs.Prelude.{◌≡◌, refl, false, ℕ, ◌+◌, ◌<◌, Ok, Err}
use Rattle.std.proofs.Math.Option.{Option, none, some}
use Rattle.std.proofs.Common.{arith}
use Rattle.basics.specs.Lists.{listed}
use Rattle.words.specs.Tests as tests
use Rattle.words.proofs.TestLoops.{one_fails}
use Rattle.answers.specs.Tested.{tested}

pub passed_none : (o : Option tests.Refusal) → tested o ≡ Ok tt → o ≡ none
unfolding tested
passed_none none e = refl
passed_none (some r) e = absurd (let z : ◌≡◌ {A = ℕ} 0 1 = cc in omega arith)

pub failed_some : (o : Option tests.Refusal) (r : tests.Refusal) → tested o ≡ Err r → o ≡ some r
unfolding tested
failed_some none r e = absurd (let z : ◌≡◌ {A = ℕ} 0 1 = cc in omega arith)
failed_some (some t) r e = cc

module _ (f : ℕ → tests.Test) (m : ℕ) where
  pub loop_failed : (i : ℕ) → i < m → tests.first_failure (listed f i) ≡ none → (f (i + 1)).passes ≡ false → Err (f (i + 1)).refusal ≡ tested (tests.first_failure (listed f m))
  unfolding tested
  loop_failed i h e t = rw (one_fails f i m h e t)

  pub loop_passed : tests.first_failure (listed f m) ≡ none → Ok tt ≡ tested (tests.first_failure (listed f m))
  unfolding tested
  loop_passed e = rw e
