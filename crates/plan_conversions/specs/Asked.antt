-- What an argument asks for, by its bytes: `sparse` asks for the sparse form of a dense certificate, `dense` for the dense form of a sparse one, and
-- `trimmed` for a trimmed one of either.
use Rattle.std.specs.Prelude.{Bool, true, false, cond, ◌&&◌, List, [], ◌∷◌, ℕ, eqb, Option, Some, None}
use Rattle.words.specs.declared.StoredForm.TheVariants.{Dense, Sparse}
use Rattle.plan_conversions.specs.declared.Conversion.{Conversion}
use Rattle.plan_conversions.specs.declared.Conversion.TheVariants.{From, Trimmed}

unfoldable pub same_bytes : List ℕ → List ℕ → Bool
same_bytes [] [] = true
same_bytes [] (b ∷ m) = false
same_bytes (a ∷ l) [] = false
same_bytes (a ∷ l) (b ∷ m) = eqb a b && same_bytes l m

abbrev pub sparse_word : List ℕ
sparse_word = 115 ∷ 112 ∷ 97 ∷ 114 ∷ 115 ∷ 101 ∷ []

abbrev pub dense_word : List ℕ
dense_word = 100 ∷ 101 ∷ 110 ∷ 115 ∷ 101 ∷ []

abbrev pub trimmed_word : List ℕ
trimmed_word = 116 ∷ 114 ∷ 105 ∷ 109 ∷ 109 ∷ 101 ∷ 100 ∷ []

unfoldable pub asked_by : List ℕ → Option Conversion
asked_by argument =
    cond (same_bytes argument sparse_word) (Some (From Dense)) (cond (same_bytes argument dense_word) (Some (From Sparse)) (cond (same_bytes argument trimmed_word) (Some Trimmed) None))
