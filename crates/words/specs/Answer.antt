-- Answers: "safe, trace or the refusal, number and place, of the first of the papers' tests, in their order, that fails", with its line.
use Rattle.std.specs.Prelude.{ℕ}
use Rattle.std.proofs.Math.Option.{Option, none, some}
use Rattle.words.specs.Tests.{Refusal, refusal_on}

-- safe carries the number of entailments, trace the number of steps
pub data Answer : Type 0 where
  safe : (entailments : ℕ) → Answer
  trace : (steps : ℕ) → Answer
  refused : Refusal → Answer

abbrev pub refuse_on : ℕ → ℕ → ℕ → Answer
refuse_on number place line = refused (refusal_on number place line)

-- without a line
abbrev pub refuse : ℕ → ℕ → Answer
refuse number place = refuse_on number place 0

-- the refusal of a test that failed; else what follows the tests
unfoldable pub answer_after : Option Refusal → Answer → Answer
answer_after (some r) a = refused r
answer_after none a = a
