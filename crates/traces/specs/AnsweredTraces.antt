-- Traces whose answers pin the definitions, by computation over one list: each op by the sides that an assertion takes at −1, 0 and 1; the
-- limits of values, start values, entry values and open calls, at the limit and beyond it; the vertices that are refused; and the entry values
-- that are used, missing and left over; and the lines.
use Rattle.std.specs.Prelude.{◌≡◌, List, [], ◌∷◌, ◌++◌, ℕ, ℤ, pos}
use Rattle.words.specs.Answer.{Answer, trace, refuse, refuse_on}
use Rattle.words.specs.Literals.{◌·◌, −◌, times}
use Rattle.traces.specs.Replay.{trace_answer}

-- a program, a trace and the answer, with a result buffer of one number
pub record Case : Type 0 where
  pub program : List ℤ
  pub witness : List ℤ
  pub answer : Answer

unfoldable pub AllAnswered : List Case → Type 0
AllAnswered [] = Unit
AllAnswered (c ∷ cs) = (trace_answer c.program c.witness 1 ≡ c.answer) × AllAnswered cs

abbrev case : List ℤ → List ℤ → Answer → Case
case program witness answer = record { program = program; witness = witness; answer = answer }

-- ---- ops: assert x op 0, a trace from a start value of x to 0

abbrev by_op : ℕ → ℤ → Answer → Case
by_op op x = case (1 · 1 · 1 · 9 · 4 · 6 · 0 · 6 · 0 · 2 · op · 0 · 0 · 1 · 1 · 0 · 0 · []) (3 · 1 · 0 · x ∷ 1 · 0 · [])

abbrev failed : Answer
failed = trace 1

abbrev passed : Answer
passed = refuse 10 5

abbrev ops : List Case
ops = by_op 1 (− 1) passed ∷ by_op 1 (pos 0) failed ∷ by_op 1 (pos 1) failed
    ∷ by_op 2 (− 1) failed ∷ by_op 2 (pos 0) failed ∷ by_op 2 (pos 1) passed
    ∷ by_op 3 (− 1) passed ∷ by_op 3 (pos 0) passed ∷ by_op 3 (pos 1) failed
    ∷ by_op 4 (− 1) failed ∷ by_op 4 (pos 0) passed ∷ by_op 4 (pos 1) passed
    ∷ by_op 5 (− 1) failed ∷ by_op 5 (pos 0) passed ∷ by_op 5 (pos 1) failed
    ∷ by_op 6 (− 1) passed ∷ by_op 6 (pos 0) failed ∷ by_op 6 (pos 1) passed
    ∷ []

-- a branch on x < 0, the true side to an assertion that fails there, the false side to the exit
abbrev sides : List Case
sides = case (2 · 1 · 1 · 16 · 3 · 4 · 6 · 0 · 7 · 13 · 0 · 2 · 3 · 1 · 0 · 0 · 1 · 0 · 3 · 1 · 0 · 1 · 0 · 1 · 0 · 0 · []) (3 · 2 · 0 · − 1 ∷ 1 · 2 · 0 · []) (trace 2)
    ∷ case (2 · 1 · 1 · 16 · 3 · 4 · 6 · 0 · 7 · 13 · 0 · 2 · 3 · 1 · 0 · 0 · 1 · 0 · 3 · 1 · 0 · 1 · 0 · 1 · 0 · 0 · []) (3 · 2 · 0 · 0 · 1 · 2 · 0 · []) (refuse 10 5)
    ∷ []

-- ---- values: x = 1,000 x + a constant, then an assertion that fails: x < 0 from 1,000,000,000 and beyond, x > 0 from −1,000,000,000

abbrev scaled : ℤ → ℕ → ℕ → ℤ → Answer → Case
scaled high low op x = case (2 · 1 · 1 · 15 · 2 · 4 · 6 · 0 · 6 · 12 · 0 · 2 · 0 · high ∷ low · 1000 · 0 · 3 · op · 0 · 0 · 1 · 1 · 0 · 0 · []) (3 · 2 · 0 · x ∷ 1 · 2 · 0 · [])

abbrev values : List Case
values = scaled (pos 0) 0 1 (pos 1000000000) (trace 2)
    ∷ scaled (pos 0) 1 1 (pos 1000000000) (refuse 11 5)
    ∷ scaled (pos 0) 0 1 (pos 1000000001) (refuse 9 3)
    ∷ scaled (pos 0) 0 2 (− 1000000000) (trace 2)
    ∷ scaled (− 1) 999999 2 (− 1000000000) (refuse 11 5)
    ∷ scaled (pos 0) 0 2 (− 1000000001) (refuse 9 3)
    ∷ []

-- ---- vertices of plan B, x = 660 and assert x − 600 < 0: a first that isn't 1, one that isn't allowed, a last that isn't 0; and no step at all

abbrev plan_b : List ℤ → Answer → Case
plan_b = case (2 · 1 · 1 · 15 · 2 · 4 · 6 · 0 · 6 · 12 · 0 · 2 · 0 · 0 · 660 · 0 · 0 · 3 · 1 · − 1 ∷ 999400 · 1 · 1 · 0 · 0 · [])

abbrev vertices : List Case
vertices = plan_b (3 · 2 · 0 · 0 · 1 · 2 · 0 · []) (trace 2)
    ∷ plan_b (3 · 2 · 0 · 0 · 2 · 2 · 0 · []) (refuse 10 4)
    ∷ plan_b (3 · 2 · 0 · 0 · 1 · 3 · 0 · []) (refuse 10 5)
    ∷ plan_b (3 · 2 · 0 · 0 · 1 · 2 · 3 · []) (refuse 10 6)
    ∷ plan_b (3 · 0 · 0 · 0 · 1 · []) (refuse 4 0)
    ∷ plan_b (2 · 2 · 0 · 0 · 1 · 2 · 0 · []) (refuse 4 0)
    ∷ []

-- ---- open calls: f(a) asserts a ≠ 0 and calls f(a − 1); main calls f(62) and f(63): "opens 64 calls, in; 63: 12", and 10 before 12

abbrev recursive : ℕ → ℕ → List ℤ → Answer → Case
recursive m N last = case (3 · 2 · 0 · 23 · 5 · 4 · 5 · 6 · 6 · 0 · 5 · 11 · 17 · 20 · 0 · 4 · 2 · 0 · m · 0 · 3 · 6 · 0 · 0 · 1 · 0 · 5 · 2 · − 1 ∷ 999999 · 1 · 1 · 0 · 0 · 2 · 1 · 1 · []) (3 · N · 0 · 1 · times m (2 · 3 · []) last)

abbrev depths : List Case
depths = recursive 62 126 (2 · 0 · []) (trace 126) ∷ recursive 63 128 (2 · 0 · []) (refuse 12 130) ∷ recursive 63 127 (2 · []) (refuse 10 130) ∷ []

-- ---- steps: N of 4,096 and of 4,097, each with so many vertices and one more, all 0

abbrev steps : ℕ → ℕ → Answer → Case
steps N vertices = case (1 · 1 · 0 · 5 · 1 · 6 · 0 · 2 · 0 · 1 · 1 · 0 · 0 · []) (3 · N · 0 · times vertices (0 · []) [])

abbrev lengths : List Case
lengths = steps 4096 4097 (refuse 10 3) ∷ steps 4097 4098 (refuse 4 0) ∷ []

-- ---- entry values: main calls f, which has one other local and asserts that it is below 5

abbrev enters : List ℤ → Answer → Case
enters = case (2 · 2 · 0 · 15 · 5 · 4 · 6 · 6 · 0 · 3 · 9 · 12 · 0 · 3 · 2 · 0 · 4 · 1 · − 1 ∷ 999995 · 1 · 1 · 0 · 0 · 2 · 1 · 0 · [])

abbrev entries : List Case
entries = enters (3 · 2 · 1 · 1 · 2 · 0 · 5 · []) (trace 2)
    ∷ enters (3 · 2 · 1 · 1 · 2 · 0 · 4 · []) (refuse 10 5)
    ∷ enters (3 · 2 · 0 · 1 · 2 · 0 · []) (refuse 14 4)
    ∷ enters (3 · 1 · 0 · 1 · 2 · []) (refuse 10 4)
    ∷ enters (3 · 2 · 3 · 1 · 2 · 0 · 5 · 6 · 7 · []) (refuse 14 7)
    ∷ enters (3 · 2 · 2 · 1 · 2 · 1 · 5 · 6 · []) (refuse 10 5)
    ∷ enters (3 · 2 · 1 · 1 · 2 · 0 · 1000000000 · []) (trace 2)
    ∷ enters (3 · 2 · 1 · 2 · 2 · 0 · 1000000001 · []) (refuse 9 6)
    ∷ enters (3 · 2 · 2 · 2 · 2 · 0 · 5 · − 1000000001 ∷ []) (refuse 9 7)
    ∷ []

-- f has two other locals and asserts that the first is below the second; their values stand by rising columns, and a left-over value comes
-- before the short buffer
abbrev pair : List ℤ → Answer → Case
pair = case (2 · 2 · 0 · 16 · 5 · 4 · 6 · 6 · 0 · 3 · 10 · 13 · 0 · 3 · 2 · 0 · 4 · 1 · 0 · 0 · 1 · − 1 ∷ 1 · 0 · 0 · 2 · 2 · 0 · [])

abbrev pairs : List Case
pairs = pair (3 · 2 · 2 · 1 · 2 · 0 · 5 · 3 · []) (refuse 13 2)
    ∷ pair (3 · 2 · 2 · 1 · 2 · 0 · 3 · 5 · []) (refuse 10 5)
    ∷ pair (3 · 2 · 1 · 1 · 2 · 0 · 5 · []) (refuse 14 4)
    ∷ pair (3 · 2 · 3 · 1 · 2 · 0 · 5 · 3 · 1 · []) (refuse 14 8)
    ∷ []

-- f(1,000 x + 1) from x = 1,000,000,000: 14 before 11; f calls itself, and each call has one other local: 12 before 14
abbrev orders : List Case
orders = case (2 · 2 · 1 · 14 · 5 · 1 · 6 · 6 · 0 · 6 · 8 · 11 · 0 · 3 · 2 · 0 · 1 · 1000 · 0 · 4 · 1 · 0 · 0 · 2 · 2 · 1 · []) (3 · 2 · 0 · 1000000000 · 1 · 2 · 0 · []) (refuse 14 5)
    ∷ case (2 · 2 · 1 · 14 · 5 · 1 · 6 · 6 · 0 · 6 · 8 · 11 · 0 · 3 · 2 · 0 · 1 · 1000 · 0 · 4 · 1 · 0 · 0 · 2 · 2 · 1 · []) (3 · 2 · 1 · 1000000000 · 1 · 2 · 0 · 7 · []) (refuse 11 5)
    ∷ case (2 · 2 · 0 · 12 · 5 · 5 · 6 · 6 · 0 · 3 · 6 · 9 · 0 · 3 · 2 · 0 · 4 · 2 · 1 · 0 · 0 · 2 · 1 · 0 · []) (3 · 65 · 63 · 1 · times 64 (2 · []) (0 · times 63 (7 · []) [])) (refuse 12 67)
    ∷ case (2 · 2 · 0 · 12 · 5 · 5 · 6 · 6 · 0 · 3 · 6 · 9 · 0 · 3 · 2 · 0 · 4 · 2 · 1 · 0 · 0 · 2 · 1 · 0 · []) (3 · 65 · 62 · 1 · times 64 (2 · []) (0 · times 62 (7 · []) [])) (refuse 14 66)
    ∷ []

-- main has one other local, any value at its start; E beyond its range
abbrev main : List ℤ → Answer → Case
main = case (1 · 1 · 0 · 9 · 4 · 6 · 0 · 6 · 0 · 2 · 1 · 0 · 0 · 1 · 1 · 1 · 0 · [])

abbrev starts : List Case
starts = main (3 · 1 · 0 · 5 · 1 · 0 · []) (trace 1)
    ∷ main (3 · 1 · 0 · − 5 ∷ 1 · 0 · []) (refuse 10 5)
    ∷ main (3 · 1 · 0 · 1000000001 · 1 · 0 · []) (refuse 9 3)
    ∷ main (3 · 1 · − 1 ∷ 5 · 1 · 0 · []) (refuse 4 0)
    ∷ main (3 · 1 · 32769 · 5 · 1 · 0 · times 32769 (0 · []) []) (refuse 4 0)
    ∷ []

-- ---- lines: x = 660 or 540 at 11, assert x − 600 < 0 at 22. The first vertex leaves none; leaving 1, and 2, by a wrong vertex, and 2 by a last
-- that isn't 0; leaving vertex 0, and main's exit

abbrev plan : ℕ → List ℤ → Answer → Case
plan x = case (2 · 1 · 1 · 15 · 2 · 4 · 6 · 0 · 6 · 12 · 11 · 2 · 0 · 0 · x · 0 · 22 · 3 · 1 · − 1 ∷ 999400 · 1 · 1 · 0 · 0 · [])

abbrev left : List Case
left = plan 660 (3 · 2 · 0 · 0 · 2 · 2 · 0 · []) (refuse 10 4)
    ∷ plan 660 (3 · 2 · 0 · 0 · 1 · 3 · 0 · []) (refuse_on 10 5 11)
    ∷ plan 660 (3 · 2 · 0 · 0 · 1 · − 1 ∷ 0 · []) (refuse_on 10 5 11)
    ∷ plan 660 (3 · 3 · 0 · 0 · 1 · 2 · 3 · 0 · []) (refuse_on 10 6 22)
    ∷ plan 540 (3 · 2 · 0 · 0 · 1 · 2 · 3 · []) (refuse_on 10 6 22)
    ∷ plan 660 (3 · 3 · 0 · 0 · 1 · 2 · 0 · 0 · []) (refuse 10 7)
    ∷ plan 540 (3 · 3 · 0 · 0 · 1 · 2 · 3 · 0 · []) (refuse 10 7)
    ∷ []

-- 11 where x = 1,000 x + 1 at 11 is left; 12 where f's own call of f at 33 is, main's waiting at 31; 14 has none
abbrev limited : List Case
limited = case (2 · 1 · 1 · 15 · 2 · 4 · 6 · 0 · 6 · 12 · 11 · 2 · 0 · 0 · 1 · 1000 · 22 · 3 · 1 · 0 · 0 · 1 · 1 · 0 · 0 · []) (3 · 2 · 0 · 1000000000 · 1 · 2 · 0 · []) (refuse_on 11 5 11)
    ∷ case (3 · 2 · 0 · 23 · 5 · 4 · 5 · 6 · 6 · 0 · 5 · 11 · 17 · 20 · 31 · 4 · 2 · 0 · 63 · 32 · 3 · 6 · 0 · 0 · 1 · 33 · 5 · 2 · − 1 ∷ 999999 · 1 · 1 · 0 · 0 · 2 · 1 · 1 · []) (3 · 128 · 0 · 1 · times 63 (2 · 3 · []) (2 · 0 · [])) (refuse_on 12 130 33)
    ∷ case (2 · 2 · 0 · 15 · 5 · 4 · 6 · 6 · 0 · 3 · 9 · 12 · 31 · 3 · 2 · 32 · 4 · 1 · − 1 ∷ 999995 · 1 · 1 · 0 · 0 · 2 · 1 · 0 · []) (3 · 2 · 0 · 1 · 2 · 0 · []) (refuse 14 4)
    ∷ []

-- ---- all of them

abbrev pub cases : List Case
cases = ops ++ sides ++ values ++ vertices ++ depths ++ lengths ++ entries ++ pairs ++ orders ++ starts ++ left ++ limited
