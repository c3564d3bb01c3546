-- The first failure of a list of tests, as what the code's tests come to.
use Rattle.std.specs.Prelude.{ℕ, Result, Ok, Err}
use Rattle.std.proofs.Math.Option.{Option, none, some}
use Rattle.words.specs.Tests as tests
use Rattle.answers.specs.Answers.{number_of}
use Rattle.answers.specs.declared.Reason.{Reason}
use Rattle.answers.specs.declared.Refusal.{Refusal}

-- a refusal without a line
abbrev pub refusal_at : Reason → ℕ → Refusal
refusal_at reason place = record { number = number_of reason; place = place; line = 0 }

unfoldable pub tested : Option tests.Refusal → Result Unit tests.Refusal
tested none = Ok tt
tested (some r) = Err r
