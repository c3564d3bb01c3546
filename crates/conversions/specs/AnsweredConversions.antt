-- The conversions of plan A's certificate, there and back, by computation, with what is refused: the wrong kind, and a buffer one word short.
use Rattle.std.specs.Prelude.{List, [], ◌∷◌, ℕ, ℤ}
use Rattle.words.specs.Literals.{◌·◌, −◌}
use Rattle.layouts.specs.Opened.{layouts_open}
use Rattle.conversions.specs.Conversions.{other_words, conversion_tests, converted, to_sparse, to_dense}

-- all that the conversions compute with, under one name
unfoldable pub conversions_open : ℕ
unfolding
    layouts_open
    other_words conversion_tests converted to_sparse to_dense
conversions_open = 0

-- x = 540; assert x − 600 < 0
abbrev pub plan_a : List ℤ
plan_a = 2 · 1 · 1 · 15 · 2 · 4 · 6 · 0 · 6 · 12 · 0 · 2 · 0 · 0 · 540 · 0 · 0 · 3 · 1 · − 1 ∷ 999400 · 1 · 1 · 0 · 0 · []

abbrev witness_a : List ℤ
witness_a = 1 · 1 · 1 · 1 · 0 · 1 · 1 · 1 · []

-- its certificate, as document 01 has it, whose entries share words
abbrev pub certificate_a : List ℤ
certificate_a = 1 · 6 · 8 · 1 · 1 · 1 · 1 · 0 · 1 · 0 · 0 · 0 · 1 · − 1 ∷ 999460 · 0 · 1 · witness_a

-- laid out in order
abbrev pub dense_a : List ℤ
dense_a = 1 · 8 · 8 · 1 · 1 · 1 · 1 · 0 · 1 · 6 · 7 · 0 · 1 · − 1 ∷ 999460 · 0 · 1 · 0 · 0 · witness_a
