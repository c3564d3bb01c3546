-- What a call sees, and what the code relies on where it works out expressions over it.
use Rattle.std.specs.Prelude.{List, ◌++◌, ℕ, ◌+◌, ◌*◌, ◌-◌, ◌^◌, ◌≤◌, ◌<◌, ℤ, nat_abs, length, take, drop}
use Rattle.numbers.specs.Small.{Small}
use Rattle.words.specs.Limits.{most_locals, coefficient_limit, value_limit}
use Rattle.words.specs.Words.{word}
use Rattle.programs.specs.ProgramWords.{G, locals}
use Rattle.run_state.specs.Frames.{locals_from, procedure_in}
use Rattle.run_state.specs.declared.expressions.Scope.{Scope}

-- the values of the columns: the globals', then the locals'
abbrev pub values_of : List ℤ → List ℤ → Scope → List ℤ
values_of globals frames scope = take scope.globals globals ++ take scope.locals (drop scope.from frames)

-- k, the number of the columns
abbrev pub width_of : Scope → ℕ
width_of scope = scope.globals + scope.locals

-- the columns of the top one of so many calls
abbrev pub scope_at : List ℤ → List ℤ → ℕ → Scope
scope_at words frames depth = record { globals = G words; from = locals_from (depth - 1); locals = locals words (procedure_in frames (depth - 1)) }

-- so many values from a place on
pub record Bounded (values : List ℤ) (from count : ℕ) : Type 0 where
  pub few : count ≤ most_locals
  pub inside : from + count ≤ length values
  pub small : Small value_limit values

pub record Scoped (globals frames : List ℤ) (scope : Scope) : Type 0 where
  pub shared : Bounded globals 0 scope.globals
  pub own : Bounded frames scope.from scope.locals

-- so many coefficients stand from a place on, and their products fit beside a sum
pub record Coefficients (words : List ℤ) (at count : ℕ) (sum : ℤ) : Type 0 where
  pub inside : at + count ≤ length words
  pub small : (i : ℕ) → i < count → nat_abs (word words (at + i)) ≤ coefficient_limit
  pub fits : nat_abs sum + count * (coefficient_limit * value_limit) < 2 ^ 63
