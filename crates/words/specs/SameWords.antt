-- Lists of words that are the same from a place on, so many of them: the rows that stand there are the same, and have the same form.
use Rattle.std.specs.Prelude.{◌≡◌, ℤ}
use mathlib.Core.List.{List}
use Prim.Native.Nat.{ℕ, ◌+◌, ◌<◌}
use Rattle.words.specs.Words.{word}

module _ (words' words : List ℤ) where
  -- from a place on, so many
  abbrev pub Same : ℕ → ℕ → Type 0
  Same at size = (i : ℕ) → i < size → word words' (at + i) ≡ word words (at + i)
