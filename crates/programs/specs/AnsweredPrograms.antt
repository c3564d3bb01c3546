-- Programs whose first failing test pins the definitions, by computation over one list: for each limit that a short program shows, what is at
-- the limit and what is beyond it, and number, place and line of what is refused. And each op, by the side that is taken at −1, 0 and 1.
use Rattle.std.specs.Prelude.{◌≡◌, Bool, List, [], ◌∷◌, ◌++◌, ℕ, ℤ, pos}
use Rattle.std.proofs.Math.Option.{Option, none, some}
use Rattle.words.specs.Literals.{◌·◌, −◌, times}
use Rattle.words.specs.Tests.{Refusal, first_failure, refusal_on}
use Rattle.programs.specs.Program.{compares}
use Rattle.programs.specs.ProgramTests.{program_tests}
use Rattle.programs.specs.Decode.{comparison}

-- a program and its first failing test
pub record Case : Type 0 where
  pub program : List ℤ
  pub failure : Option Refusal

unfoldable pub AllTested : List Case → Type 0
AllTested [] = Unit
AllTested (c ∷ cs) = (first_failure (program_tests c.program) ≡ c.failure) × AllTested cs

abbrev passes : Option Refusal
passes = none

abbrev fails_on : ℕ → ℕ → ℕ → Option Refusal
fails_on number place line = some (refusal_on number place line)

abbrev fails : ℕ → ℕ → Option Refusal
fails number place = fails_on number place 0

abbrev case : List ℤ → Option Refusal → Case
case program failure = record { program = program; failure = failure }

-- program S, a skip that is its own successor, and sizes: G of 8 and 9, no statement, no procedure
abbrev sizes : List Case
sizes = case (1 · 1 · 0 · 5 · 1 · 6 · 0 · 2 · 0 · 1 · 1 · 0 · 0 · []) passes
    ∷ case (1 · 1 · 8 · 5 · 1 · 6 · 0 · 2 · 0 · 1 · 1 · 0 · 0 · []) passes
    ∷ case (1 · 1 · 9 · 5 · 1 · 6 · 0 · 2 · 0 · 1 · 1 · 0 · 0 · []) (fails 1 0)
    ∷ case (0 · 1 · 0 · 3 · 6 · 0 · 1 · 0 · 0 · []) (fails 1 0)
    ∷ case (1 · 0 · 0 · 2 · 1 · 0 · 0 · 1 · []) (fails 1 0)
    ∷ []

-- its exit: L of 8 and 9, F of 8 with L of 8 and 7, its row one word too late; and that with a line in the statement's row
abbrev exits : List Case
exits = case (1 · 1 · 0 · 5 · 1 · 6 · 0 · 2 · 0 · 1 · 1 · 8 · 0 · []) passes
    ∷ case (1 · 1 · 0 · 5 · 1 · 6 · 0 · 2 · 0 · 1 · 1 · 9 · 0 · []) (fails 2 5)
    ∷ case (1 · 1 · 0 · 5 · 1 · 6 · 0 · 2 · 0 · 1 · 1 · 8 · 8 · []) passes
    ∷ case (1 · 1 · 0 · 5 · 1 · 6 · 0 · 2 · 0 · 1 · 1 · 7 · 8 · []) (fails 2 5)
    ∷ case (1 · 1 · 0 · 5 · 1 · 6 · 0 · 3 · 0 · 1 · 1 · 0 · 0 · []) (fails 2 5)
    ∷ case (1 · 1 · 0 · 5 · 1 · 6 · 0 · 3 · 9 · 1 · 1 · 0 · 0 · []) (fails 2 5)
    ∷ []

-- its statement: a row place below 0, a row past the pool, a wrong kind; and that together with a wrong exit, which is tested first
abbrev statements : List Case
statements = case (1 · 1 · 0 · 5 · 1 · 6 · − 1 ∷ 2 · 9 · 1 · 1 · 0 · 0 · []) (fails 3 4)
    ∷ case (1 · 1 · 0 · 5 · 1 · 6 · 5 · 2 · 9 · 1 · 1 · 0 · 0 · []) (fails 3 4)
    ∷ case (1 · 1 · 0 · 5 · 7 · 6 · 0 · 2 · 0 · 1 · 1 · 0 · 0 · []) (fails 3 4)
    ∷ case (1 · 1 · 0 · 5 · 7 · 5 · 0 · 2 · 0 · 1 · 1 · 0 · 0 · []) (fails 2 5)
    ∷ []

-- its line: at its limit and beyond, below 0; with a wrong successor, an unknown kind, an exit's kind; and a row of which only the line is left
abbrev lines : List Case
lines = case (1 · 1 · 0 · 5 · 1 · 6 · 0 · 2 · 1000000 · 1 · 1 · 0 · 0 · []) passes
    ∷ case (1 · 1 · 0 · 5 · 1 · 6 · 0 · 2 · 1000001 · 1 · 1 · 0 · 0 · []) (fails 3 4)
    ∷ case (1 · 1 · 0 · 5 · 1 · 6 · 0 · 2 · − 1 ∷ 1 · 1 · 0 · 0 · []) (fails 3 4)
    ∷ case (1 · 1 · 0 · 5 · 1 · 6 · 0 · 2 · 1 · 3 · 1 · 0 · 0 · []) (fails_on 3 4 1)
    ∷ case (1 · 1 · 0 · 5 · 1 · 6 · 0 · 2 · 1000000 · 3 · 1 · 0 · 0 · []) (fails_on 3 4 1000000)
    ∷ case (1 · 1 · 0 · 5 · 1 · 6 · 0 · 2 · 1000001 · 3 · 1 · 0 · 0 · []) (fails 3 4)
    ∷ case (1 · 1 · 0 · 5 · 7 · 6 · 0 · 2 · 12 · 1 · 1 · 0 · 0 · []) (fails_on 3 4 12)
    ∷ case (1 · 1 · 0 · 5 · 6 · 6 · 0 · 2 · 12 · 1 · 1 · 0 · 0 · []) (fails_on 3 4 12)
    ∷ case (1 · 1 · 0 · 5 · − 1 ∷ 6 · 0 · 2 · 12 · 1 · 1 · 0 · 0 · []) (fails_on 3 4 12)
    ∷ case (1 · 1 · 0 · 6 · 1 · 6 · 5 · 2 · 8 · 1 · 1 · 0 · 0 · 9 · []) (fails_on 3 4 9)
    ∷ case (1 · 1 · 0 · 6 · 1 · 6 · 5 · 2 · 8 · 1 · 1 · 0 · 0 · 1000001 · []) (fails 3 4)
    ∷ []

-- two procedures of a skip each: the second exit wrong, the second statement wrong, first statements that don't rise, a successor in the other
-- procedure; rows with lines
abbrev procedures : List Case
procedures = case (2 · 2 · 0 · 10 · 1 · 1 · 6 · 6 · 0 · 2 · 4 · 7 · 0 · 3 · 0 · 4 · 1 · 0 · 0 · 2 · 0 · 0 · []) passes
    ∷ case (2 · 2 · 0 · 10 · 1 · 1 · 6 · 5 · 0 · 2 · 4 · 7 · 0 · 3 · 0 · 4 · 1 · 0 · 0 · 2 · 0 · 0 · []) (fails 2 7)
    ∷ case (2 · 2 · 0 · 10 · 1 · 7 · 6 · 6 · 0 · 2 · 4 · 7 · 0 · 3 · 0 · 4 · 1 · 0 · 0 · 2 · 0 · 0 · []) (fails 3 5)
    ∷ case (2 · 2 · 0 · 10 · 1 · 1 · 6 · 6 · 0 · 2 · 4 · 7 · 0 · 3 · 0 · 4 · 1 · 0 · 0 · 1 · 0 · 0 · []) (fails 2 7)
    ∷ case (2 · 2 · 0 · 10 · 1 · 1 · 6 · 6 · 0 · 2 · 4 · 7 · 0 · 4 · 0 · 4 · 1 · 0 · 0 · 2 · 0 · 0 · []) (fails 3 4)
    ∷ case (2 · 2 · 0 · 10 · 1 · 7 · 6 · 6 · 0 · 2 · 4 · 7 · 11 · 3 · 22 · 4 · 1 · 0 · 0 · 2 · 0 · 0 · []) (fails_on 3 5 22)
    ∷ case (2 · 2 · 0 · 10 · 1 · 1 · 6 · 6 · 0 · 0 · 4 · 7 · 11 · 3 · 22 · 4 · 1 · 0 · 0 · 2 · 0 · 0 · []) (fails_on 3 5 11)
    ∷ []

-- plan A, x = 540 and assert x − 600 < 0, with another column, constant, coefficient and op: a column past k, and each at its limit and beyond
abbrev plan_a : ℕ → ℤ → ℤ → ℤ → ℕ → Option Refusal → Case
plan_a column high low coefficient op = case (2 · 1 · 1 · 15 · 2 · 4 · 6 · 0 · 6 · 12 · 0 · 2 · column · high ∷ low ∷ coefficient ∷ 0 · 3 · op · − 1 ∷ 999400 · 1 · 1 · 0 · 0 · [])

abbrev fields : List Case
fields = plan_a 0 (pos 0) (pos 540) (pos 0) 1 passes
    ∷ plan_a 1 (pos 0) (pos 540) (pos 0) 1 (fails 3 4)
    ∷ plan_a 0 (pos 0) (pos 540) (pos 1000) 1 passes
    ∷ plan_a 0 (pos 0) (pos 540) (pos 1001) 1 (fails 3 4)
    ∷ plan_a 0 (pos 0) (pos 540) (− 1000) 1 passes
    ∷ plan_a 0 (pos 0) (pos 540) (− 1001) 1 (fails 3 4)
    ∷ plan_a 0 (pos 0) (pos 540) (pos 0) 6 passes
    ∷ plan_a 0 (pos 0) (pos 540) (pos 0) 7 (fails 3 5)
    ∷ plan_a 0 (pos 0) (pos 540) (pos 0) 0 (fails 3 5)
    ∷ []

-- constants: 4,000,000,000 and −4,000,000,000, and one more; low words at their limits and beyond; high words at the ends of 32 bits
abbrev constants : List Case
constants = plan_a 0 (pos 4000) (pos 0) (pos 0) 1 passes
    ∷ plan_a 0 (pos 4000) (pos 1) (pos 0) 1 (fails 3 4)
    ∷ plan_a 0 (− 4000) (pos 0) (pos 0) 1 passes
    ∷ plan_a 0 (− 4001) (pos 999999) (pos 0) 1 (fails 3 4)
    ∷ plan_a 0 (pos 3999) (pos 999999) (pos 0) 1 passes
    ∷ plan_a 0 (pos 0) (pos 1000000) (pos 0) 1 (fails 3 4)
    ∷ plan_a 0 (pos 1) (− 1) (pos 0) 1 (fails 3 4)
    ∷ plan_a 0 (pos 2147483647) (pos 0) (pos 0) 1 (fails 3 4)
    ∷ plan_a 0 (− 2147483648) (pos 0) (pos 0) 1 (fails 3 4)
    ∷ []

-- a branch on `?`, no variables: both words of the constant are 0
abbrev choices : List Case
choices = case (1 · 1 · 0 · 9 · 3 · 6 · 0 · 6 · 0 · 1 · 2 · 0 · 0 · 0 · 1 · 0 · 0 · []) passes
    ∷ case (1 · 1 · 0 · 9 · 3 · 6 · 0 · 6 · 0 · 1 · 2 · 0 · 1 · 0 · 1 · 0 · 0 · []) (fails 3 4)
    ∷ case (1 · 1 · 0 · 9 · 3 · 6 · 0 · 6 · 0 · 1 · 2 · 0 · 0 · 1 · 1 · 0 · 0 · []) (fails 3 4)
    ∷ []

-- ---- sizes at their limits and beyond, with all other words 0: where the sizes are right, the first exit isn't

abbrev zeros : ℕ → ℕ → ℕ → ℕ → Option Refusal → Case
zeros n p Q words = case (n · p · 0 · Q · times words (0 · []) [])

abbrev limits : List Case
limits = zeros 1024 1 0 2050 (fails 2 1028)
    ∷ zeros 1025 1 0 2052 (fails 1 0)
    ∷ zeros 1 32 0 66 (fails 2 5)
    ∷ zeros 1 33 0 68 (fails 1 0)
    ∷ zeros 1 1 12000 12004 (fails 2 5)
    ∷ zeros 1 1 12001 12005 (fails 1 0)
    ∷ zeros 1 1 0 5 (fails 1 0)
    ∷ []

abbrev pub cases : List Case
cases = sizes ++ exits ++ statements ++ lines ++ procedures ++ fields ++ constants ++ choices ++ limits

-- ---- "op: 0 `?` (expression all 0), 1 <, 2 >, 3 ≤, 4 ≥, 5 =, 6 ≠"

-- whether −1, 0 and 1 are so
unfoldable pub sides : ℕ → List Bool
sides op = compares (comparison op) (− 1) ∷ compares (comparison op) (pos 0) ∷ compares (comparison op) (pos 1) ∷ []
