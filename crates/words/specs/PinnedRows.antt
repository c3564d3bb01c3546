-- Sparse rows, as document 02 has them, by computation: what words say, which rows 5 refuses and which 25 does; each row has two columns. And dense
-- rows are what they were.
use Rattle.std.specs.Prelude.{List, [], ◌∷◌, ℤ, pos}
use Rattle.rows.specs.Rows.{Row}
use Rattle.words.specs.Literals.{◌·◌, −◌}

-- plan A's row, over entry and now: −540 + now
abbrev pub plan_a : Row
plan_a = record { constant = − 540; coefficients = 0 · 1 · [] }

abbrev pub plan_aWords : List ℤ
plan_aWords = − 1 ∷ 999460 · 1 · 1 · 1 · []

-- two rows, one after the other: −540 + now, and 7 + 3 entry − 1,000 now
abbrev pub two_rows : List Row
two_rows = plan_a ∷ record { constant = pos 7; coefficients = 3 · − 1000 ∷ [] } ∷ []

abbrev pub two_rows_words : List ℤ
two_rows_words = − 1 ∷ 999460 · 1 · 1 · 1 · 0 · 7 · 2 · 0 · 1 · 3 · − 1000 ∷ []
