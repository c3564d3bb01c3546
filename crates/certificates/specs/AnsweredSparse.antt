-- Plan A's certificate with sparse rows, and what is refused of it, by computation: for each test of document 02, CR 9, words that fail it, with the
-- number and the place, and words that fail two tests, which show their order.
use Rattle.std.specs.Prelude.{List, [], ◌∷◌, ◌++◌, ℕ, ℤ}
use Rattle.words.specs.Answer.{safe, refuse}
use Rattle.words.specs.Literals.{◌·◌, −◌}
use Rattle.certificates.specs.AnsweredCertificates.{Case, plan_a}

-- R, the count of the last entry, the places of the last two, the words of vertex 2's row, and those behind them
abbrev words : ℕ → ℕ → ℕ → ℕ → List ℤ → List ℤ → List ℤ
words R count third fourth row rest = 4 · R · 8 · 1 · 1 · 1 · count · 0 · 1 · third · fourth · 0 · 1 · row ++ (rest ++ 1 · 1 · 1 · 1 · 0 · 1 · 1 · 1 · [])

-- x − 540 ≤ 0: the constant, one column, x now, with coefficient 1
abbrev row : List ℤ
row = − 1 ∷ 999460 · 1 · 1 · 1 · []

abbrev pub sparse_a : List ℤ
sparse_a = words 9 1 7 8 row (0 · 0 · [])

abbrev pub cases : List Case
cases = plan_a sparse_a (safe 5)
    -- a count and a column out of range, a coefficient beyond its limit, a low word
    ∷ plan_a (words 9 1 7 8 (− 1 ∷ 999460 · 3 · 1 · 1 · []) (0 · 0 · [])) (refuse 5 4)
    ∷ plan_a (words 9 1 7 8 (− 1 ∷ 999460 · − 1 ∷ 1 · 1 · []) (0 · 0 · [])) (refuse 5 4)
    ∷ plan_a (words 9 1 7 8 (− 1 ∷ 999460 · 1 · 2 · 1 · []) (0 · 0 · [])) (refuse 5 4)
    ∷ plan_a (words 9 1 7 8 (− 1 ∷ 999460 · 1 · − 1 ∷ 1 · []) (0 · 0 · [])) (refuse 5 4)
    ∷ plan_a (words 9 1 7 8 (− 1 ∷ 999460 · 1 · 1 · 1001 · []) (0 · 0 · [])) (refuse 5 4)
    ∷ plan_a (words 9 1 7 8 (− 1 ∷ 1000000 · 1 · 1 · 1 · []) (0 · 0 · [])) (refuse 5 4)
    -- a place past the rows, one inside them that isn't the next free one, and an empty entry's
    ∷ plan_a (words 9 1 9 8 row (0 · 0 · [])) (refuse 5 5)
    ∷ plan_a (words 9 1 8 8 row (0 · 0 · [])) (refuse 25 5)
    ∷ plan_a (words 8 0 7 8 row (0 · [])) (refuse 6 26)
    ∷ plan_a (words 8 0 7 0 row (0 · [])) (refuse 25 6)
    ∷ plan_a (words 8 0 7 9 row (0 · [])) (refuse 25 6)
    -- a zero coefficient, a repeated and a falling column
    ∷ plan_a (words 9 1 7 8 (− 1 ∷ 999460 · 1 · 1 · 0 · []) (0 · 0 · [])) (refuse 25 4)
    ∷ plan_a (words 11 1 9 10 (− 1 ∷ 999460 · 2 · 1 · 1 · 1 · 1 · []) (0 · 0 · [])) (refuse 25 4)
    ∷ plan_a (words 11 1 9 10 (− 1 ∷ 999460 · 2 · 1 · 0 · 1 · 1 · []) (0 · 0 · [])) (refuse 25 4)
    ∷ plan_a (words 11 1 9 10 (− 1 ∷ 999460 · 2 · 0 · 1 · 1 · 1 · []) (0 · 0 · [])) (refuse 7 23)
    -- in one entry 5 before 25, and 25 before 15
    ∷ plan_a (words 11 1 9 10 (− 1 ∷ 999460 · 2 · 1 · 0 · 0 · 1001 · []) (0 · 0 · [])) (refuse 5 4)
    ∷ plan_a (4 · 7 · 8 · 1 · 1 · 1 · 1 · 0 · 0 · 5 · 6 · 1 · − 1 ∷ 999460 · 0 · 0 · 0 · 0 · 1 · 1 · 1 · 1 · 0 · 1 · 1 · 1 · []) (refuse 15 3)
    ∷ plan_a (words 7 1 5 6 (− 1 ∷ 999460 · 0 · []) (0 · 0 · [])) (refuse 15 4)
    ∷ plan_a (4 · 7 · 8 · 1 · 1 · 1 · 1 · 1 · 0 · 5 · 6 · 0 · 1 · − 1 ∷ 999460 · 0 · 0 · 0 · 1 · 1 · 1 · 1 · 0 · 1 · 1 · 1 · []) (refuse 25 3)
    -- 15 before the next entry's 5 and 25
    ∷ plan_a (words 7 1 9 6 (− 1 ∷ 999460 · 0 · []) (0 · 0 · [])) (refuse 15 4)
    ∷ plan_a (words 7 1 6 6 (− 1 ∷ 999460 · 0 · []) (0 · 0 · [])) (refuse 15 4)
    -- a row word left, before 6
    ∷ plan_a (words 10 1 7 8 row (0 · 0 · 0 · [])) (refuse 25 1)
    ∷ plan_a (4 · 10 · 1 · 1 · 1 · 1 · 1 · 0 · 1 · 7 · 8 · 0 · 1 · row ++ (0 · 0 · 0 · 9 · [])) (refuse 25 1)
    -- and then the judgement: −600 for −540
    ∷ plan_a (words 9 1 7 8 (− 1 ∷ 999400 · 1 · 1 · 1 · []) (0 · 0 · [])) (refuse 7 24)
    ∷ []
