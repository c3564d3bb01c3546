-- Tests in their order: a refusal is that of the first test that fails.
use Rattle.std.specs.Prelude.{ℕ, Bool, cond, List, [], ◌∷◌}
use Rattle.std.proofs.Math.Option.{Option, none, some}

-- a refusal: its number, the "returned place", and "the line beside the place"
pub record Refusal : Type 0 where
  pub number : ℕ
  pub place : ℕ
  pub line : ℕ

-- how a refusal is written
abbrev pub refusal_on : ℕ → ℕ → ℕ → Refusal
refusal_on number place line = record { number = number; place = place; line = line }

-- without a line: "else 0, as in all other answers"
abbrev pub refusal_at : ℕ → ℕ → Refusal
refusal_at number place = refusal_on number place 0

pub record Test : Type 0 where
  pub refusal : Refusal
  pub passes : Bool

abbrev pub test_on : ℕ → ℕ → ℕ → Bool → Test
test_on number place line passes = record { refusal = refusal_on number place line; passes = passes }

abbrev pub test : ℕ → ℕ → Bool → Test
test number place passes = test_on number place 0 passes

unfoldable pub first_failure : List Test → Option Refusal
first_failure [] = none
first_failure (t ∷ ts) = cond t.passes (first_failure ts) (some t.refusal)
