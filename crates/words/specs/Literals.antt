-- Words written out, for examples by computation: `2 · 0 · 540 · − 600 ∷ []` are the words 2, 0, 540 and −600.
use Rattle.std.specs.Prelude.{ℕ, zero, suc, List, ◌∷◌, ◌++◌, ℤ, pos, neg_ℤ}

infixr 67 ◌·◌
infix 80 −◌
abbrev pub ◌·◌ : ℕ → List ℤ → List ℤ
n · words = pos n ∷ words

abbrev pub −◌ : ℕ → ℤ
− n = neg_ℤ (pos n)

-- words so many times over, and then more words
abbrev pub times : ℕ → List ℤ → List ℤ → List ℤ
times zero words more = more
times (suc m) words more = words ++ times m words more
