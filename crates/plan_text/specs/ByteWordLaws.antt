-- The words that bytes spell, word by word: there is one for each four bytes, and word i begins at byte 4 * i. So a loop that counts up
-- puts them into a buffer one after the other.
use Rattle.std.specs.Prelude.{List, ◌++◌, ℕ, ℤ, take, drop}

-- so many words at a buffer's front, and the rest as it was
abbrev pub fronted : List ℤ → List ℤ → ℕ → List ℤ
fronted words buffer n = take n words ++ drop n buffer
