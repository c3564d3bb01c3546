-- A certificate trimmed, by computation, dense and sparse, with a split and a return: of vertex 2's three disjuncts the middle one goes, which only the
-- return from the callee's first summary disjunct names, that no exit names, so that it goes with its return; so the split's second leaf names
-- disjunct 2 and not 3. All of vertex 3 goes, which no step reaches, and its entry is left empty at the next free place. Main's summary, which
-- main's exit names and no call uses, stays. What is written is accepted, and trimmed again it stays.
use Rattle.std.specs.Prelude.{List, [], ◌∷◌, ℕ, ℤ}
use Rattle.words.specs.Literals.{◌·◌, −◌}
use Rattle.traces.specs.Opened.{traces_open}
use Rattle.layouts.specs.Opened.{layouts_open}
use Rattle.trimming.specs.Opened.{trimming_open}
use Rattle.checker.specs.Check.{judged, replayed, check}
use Rattle.trimmed_words.specs.Trim.{trimmed_words, trim_failure, trim}

-- main: 1 calls the second procedure and returns to 2, and 2 and 3 go to main's exit, 5; the callee: 4 goes to its exit, 6
abbrev pub plan : List ℤ
plan = 4 · 2 · 1 · 15 · 5 · 1 · 1 · 1 · 6 · 6 · 0 · 3 · 5 · 7 · 9 · 12 · 0 · 2 · 2 · 0 · 5 · 0 · 5 · 0 · 6 · 1 · 0 · 0 · 4 · 0 · 0 · []

-- the start's; the call's entry, its return from the first summary disjunct, and that from the second, a split whose leaves name 1 and 3; vertex 2's
-- three, 3's and 4's, main's exit's two, and the other exit's, which is given
abbrev witnesses : ℕ → List ℤ
witnesses last = 1 · 1 · 2 · − 1 ∷ 0 · 0 · 0 · 0 · 1 · 1 · 1 · 1 · 3 · 1 · 1 · 2 · 2 · 2 · 2 · 1 · 1 · 1 · last · []

-- at vertex 2 x now ≤ 0, no rows, or x now ≥ 1; at main's exit x now ≤ 0, or no rows; in the callee's summary x at entry ≤ 0, or no rows; all others have
-- one disjunct without rows, and in the dense form share its word
abbrev pub dense : ℕ → List ℤ
dense last = 1 · 24 · 23 · 1 · 3 · 1 · 1 · 2 · 1 · 1 · 2 · 0 · 1 · 0 · 0 · 12 · 0 · 0 · 18
    · 0 · 1 · 0 · 0 · 0 · 1 · 0 · 1 · 0 · 1 · 0 · − 1 ∷ 1 · 0 · 0 · 0 · 1 · 0 · 1 · 0 · 0 · 1 · 0 · 0 · witnesses last

abbrev pub sparse : ℕ → List ℤ
sparse last = 4 · 32 · 23 · 1 · 3 · 1 · 1 · 2 · 1 · 1 · 2 · 0 · 1 · 14 · 15 · 16 · 23 · 24 · 25
    · 0 · 1 · 0 · 0 · 1 · 1 · 1 · 0 · 1 · 0 · 1 · 1 · 1 · − 1 ∷ 0 · 0 · 1 · 0 · 0 · 1 · 1 · 1 · 0 · 0 · 0 · 1 · 0 · 0 · 1 · 0 · 1 · 0 · witnesses last

abbrev pub left : List ℤ
left = 1 · 16 · 19 · 1 · 2 · 0 · 1 · 1 · 1 · 1 · 1 · 0 · 1 · 11 · 11 · 12 · 13 · 14 · 15
    · 0 · 1 · 0 · 0 · 0 · 1 · 1 · 0 · 1 · 0 · − 1 ∷ 0 · 0 · 0 · 0 · 0
    · 1 · 1 · − 1 ∷ 0 · 0 · 0 · 0 · 1 · 1 · 1 · 1 · 2 · 1 · 1 · 1 · 1 · 1 · 1 · 1 · []

-- all that trimming computes with
unfoldable pub trims_open : ℕ
unfolding trimming_open layouts_open traces_open judged replayed check trimmed_words trim_failure trim
trims_open = 0
