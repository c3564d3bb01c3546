-- Lines that pin the definitions, by computation over one list, and bytes of words.
use Rattle.std.specs.Prelude.{◌≡◌, List, [], ◌∷◌, ℕ, ℤ, pos, negsuc}
use Rattle.words.specs.Answer.{Answer, safe, trace, refuse, refuse_on}
use Rattle.plan_text.specs.Lines.{digit, digits_within, digits, signed, number, value, values_in, line_of}

pub record Pinned : Type 0 where
  pub answer : Answer
  pub values : List ℤ
  pub line : List ℕ

unfoldable pub line_for : Pinned → List ℕ
unfolding digit digits_within digits signed number value values_in line_of
line_for p = line_of p.answer p.values

unfoldable pub AllPinned : List Pinned → Type 0
AllPinned [] = Unit
AllPinned (p ∷ ps) = (line_for p ≡ p.line) × AllPinned ps

abbrev pinned : Answer → List ℤ → List ℕ → Pinned
pinned answer values line = record { answer = answer; values = values; line = line }

abbrev pub pinned_lines : List Pinned
pinned_lines =
    -- `safe 5`, with values that aren't printed
    pinned (safe 5) (pos 7 ∷ []) (115 ∷ 97 ∷ 102 ∷ 101 ∷ 32 ∷ 53 ∷ 10 ∷ [])
    -- `safe 0`, `safe 10`, `safe 907`
    ∷ pinned (safe 0) [] (115 ∷ 97 ∷ 102 ∷ 101 ∷ 32 ∷ 48 ∷ 10 ∷ [])
    ∷ pinned (safe 10) [] (115 ∷ 97 ∷ 102 ∷ 101 ∷ 32 ∷ 49 ∷ 48 ∷ 10 ∷ [])
    ∷ pinned (safe 907) [] (115 ∷ 97 ∷ 102 ∷ 101 ∷ 32 ∷ 57 ∷ 48 ∷ 55 ∷ 10 ∷ [])
    -- `trace 2 660`
    ∷ pinned (trace 2) (pos 660 ∷ []) (116 ∷ 114 ∷ 97 ∷ 99 ∷ 101 ∷ 32 ∷ 50 ∷ 32 ∷ 54 ∷ 54 ∷ 48 ∷ 10 ∷ [])
    -- `trace 4096`, without a value
    ∷ pinned (trace 4096) [] (116 ∷ 114 ∷ 97 ∷ 99 ∷ 101 ∷ 32 ∷ 52 ∷ 48 ∷ 57 ∷ 54 ∷ 10 ∷ [])
    -- `trace 1 -1000000000000 0 -1`
    ∷ pinned (trace 1) (negsuc 999999999999 ∷ pos 0 ∷ negsuc 0 ∷ []) (116 ∷ 114 ∷ 97 ∷ 99 ∷ 101 ∷ 32 ∷ 49
    ∷ 32 ∷ 45 ∷ 49 ∷ 48 ∷ 48 ∷ 48 ∷ 48 ∷ 48 ∷ 48 ∷ 48 ∷ 48 ∷ 48 ∷ 48 ∷ 48 ∷ 48 ∷ 32 ∷ 48 ∷ 32 ∷ 45 ∷ 49 ∷ 10 ∷ [])
    -- `refused 13 1 0`, `refused 4 0 0`, `refused 3 4 12`
    ∷ pinned (refuse 13 1) [] (114 ∷ 101 ∷ 102 ∷ 117 ∷ 115 ∷ 101 ∷ 100 ∷ 32 ∷ 49 ∷ 51 ∷ 32 ∷ 49 ∷ 32 ∷ 48 ∷ 10 ∷ [])
    ∷ pinned (refuse 4 0) [] (114 ∷ 101 ∷ 102 ∷ 117 ∷ 115 ∷ 101 ∷ 100 ∷ 32 ∷ 52 ∷ 32 ∷ 48 ∷ 32 ∷ 48 ∷ 10 ∷ [])
    ∷ pinned (refuse_on 3 4 12) [] (114 ∷ 101 ∷ 102 ∷ 117 ∷ 115 ∷ 101 ∷ 100 ∷ 32 ∷ 51 ∷ 32 ∷ 52 ∷ 32 ∷ 49 ∷ 50 ∷ 10 ∷ [])
    ∷ []
