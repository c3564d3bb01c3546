-- A choice made definite, by computation, with a dense and with a sparse certificate: what is put in place of `?`; where zeros are put in, on both sides, in
-- each list, in leaves below one split and below two, and in a contradiction; that both are accepted with the same count; and rows that share words.
use Rattle.std.specs.Prelude.{List, [], ◌∷◌, ℕ, ℤ, pos}
use Rattle.rows.specs.Rows.{Row}
use Rattle.words.specs.Literals.{◌·◌, −◌}

-- a branch on `?`, both sides to the exit
abbrev pub undecided : List ℤ
undecided = 1 · 1 · 1 · 10 · 3 · 6 · 0 · 7 · 0 · 2 · 2 · 0 · 0 · 0 · 0 · 1 · 0 · 0 · []

-- with x + 5 < 0 for it
abbrev pub condition : Row
condition = record { constant = pos 5; coefficients = pos 1 ∷ [] }

abbrev pub decided : List ℤ
decided = 1 · 1 · 1 · 10 · 3 · 6 · 0 · 7 · 0 · 2 · 2 · 1 · 0 · 5 · 1 · 1 · 0 · 0 · []

-- at the branch x now ≤ x at entry; at the exit that and x now ≤ 0, or x now ≥ 1; W and the witness words are given
abbrev pub dense : ℕ → List ℤ → List ℤ
dense W witnesses = 1 · 20 · W · 1 · 2 · 1 · 0 · 5 · 19 · 1 · 0 · 0 · − 1 ∷ 1 · 2 · 0 · 0 · − 1 ∷ 1 · 0 · 0 · 0 · 1 · 1 · 0 · 1 · 0 · − 1 ∷ 0 · witnesses

abbrev pub sparse : ℕ → List ℤ → List ℤ
sparse W witnesses = 4 · 28 · W · 1 · 2 · 1 · 0 · 8 · 27 · 1 · 0 · 0 · 2 · 0 · 1 · − 1 ∷ 1 · 2 · 0 · 0 · 2 · 0 · 1 · − 1 ∷ 1 · 0 · 0 · 1 · 1 · 1 · 1 · 0 · 1 · 1 · 1 · − 1 ∷ 0 · witnesses

-- the start's; the true side's, with a split; the false side's, with a split below a split and a contradiction; the exit's two
abbrev pub before : List ℤ
before = 1 · 1
    · − 1 ∷ 0 · 0 · 0 · 1 · 1 · 1 · 1 · 0 · 1 · 0 · 1 · 2 · 1 · 0 · 1
    · − 1 ∷ 0 · 0 · 0 · 0 · − 1 ∷ 0 · 0 · 0 · 1 · 1 · 1 · 1 · 0 · 0 · 1 · 0 · 0 · 1 · 2 · 1 · 0 · 0 · 1 · 0 · 0 · 1
    · 1 · 1 · []

abbrev pub after : List ℤ
after = 1 · 1
    · − 1 ∷ 0 · 0 · 0 · 1 · 1 · 1 · 1 · 0 · 0 · 1 · 0 · 0 · 1 · 2 · 1 · 0 · 0 · 1
    · − 1 ∷ 0 · 0 · 0 · 0 · − 1 ∷ 0 · 0 · 0 · 1 · 1 · 1 · 1 · 0 · 0 · 0 · 1 · 0 · 0 · 0 · 1 · 2 · 1 · 0 · 0 · 0 · 1 · 0 · 0 · 0 · 1
    · 1 · 1 · []
