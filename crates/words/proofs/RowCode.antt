-- The words of a row, for whoever writes one: its constant's and then its coefficients. Reading them gives the row back, and words with the low
-- one in its range are those of the row that is read.
use Rattle.std.specs.Prelude.{◌≡◌, refl, ℕ, ◌+◌, ◌≤◌, T, ℤ, pos, length, take, drop}
use Rattle.std.proofs.Common.{ap, ◌∙◌, arith, take_at, drop_at, take-add}
use Rattle.std.proofs.Math.Path.{ap₂}
use mathlib.Core.List.{List, [], ◌∷◌, ◌++◌}
use Rattle.std.proofs.Math.ListN.{length-append}
use Rattle.basics.proofs.Booleans.{and_l, and_r}
use Rattle.rows.specs.Rows.{Row}
use Rattle.words.specs.Limits.{constant_limit, most_low}
use Rattle.words.specs.Words.{word, within, small}
use Rattle.words.specs.RowWords.{constant_words, constant_of, is_constant, constant_at, row_size, row_of}
use Rattle.words.specs.Ranges.{Between}
use Rattle.words.proofs.Ranges.{within_between}
use Rattle.words.proofs.ConstantCode.{spelled_read, words_are}
use Rattle.words.specs.RowCode.{constant_code, row_code}

pub constant_coded : (c : ℤ) (rest : List ℤ) → constant_at (constant_code c ++ rest) 0 ≡ c
unfolding constant_code constant_at
constant_coded c rest = spelled_read c

-- and words with the low one in its range are the constant's own
own_words : (high low : ℤ) → Between (pos 0) (pos most_low) low → high ∷ low ∷ [] ≡ constant_code (constant_of high low)
unfolding constant_code
own_words high low b = let e = words_are high low b in ap₂ (λ (h l : ℤ). h ∷ l ∷ []) e.0 e.1

pub constant_own : (words : List ℤ) → constant_words ≤ length words → Between (pos 0) (pos most_low) (word words 1) → take constant_words words ≡ constant_code (constant_at words 0)
unfolding constant_at
constant_own [] h b = absurd (omega arith)
constant_own (high ∷ []) h b = absurd (omega arith)
constant_own (high ∷ low ∷ words) h b = own_words high low b

-- so whoever reads words that pass has the constant's own words, and a constant within its limit
module _ (high low : ℤ) (t : T (is_constant high low)) where
  pub constant_words_lem : high ∷ low ∷ [] ≡ constant_code (constant_of high low)
  unfolding is_constant
  constant_words_lem = own_words high low ((within_between 0 most_low low).0 (and_l (within 0 most_low low) (small constant_limit (constant_of high low)) t))

  pub constant_within : T (small constant_limit (constant_of high low))
  unfolding is_constant
  constant_within = and_r (within 0 most_low low) (small constant_limit (constant_of high low)) t

constant_length : (c : ℤ) → length (constant_code c) ≡ constant_words
unfolding constant_code
constant_length c = refl

module _ (columns : ℕ) (r : Row) (wide : length r.coefficients ≡ columns) where
  pub length_coded : length (row_code r) ≡ row_size columns
  unfolding row_code
  length_coded = length-append (constant_code r.constant) r.coefficients ∙ omega (arith, wide, constant_length r.constant)

  module _ (rest : List ℤ) where
    pub row_coded : row_of columns (row_code r ++ rest) ≡ r
    unfolding row_of row_code constant_code constant_at
    row_coded = ap₂ (λ (c : ℤ) (l : List ℤ). record { constant = c; coefficients = l }) (spelled_read r.constant) (take_at r.coefficients rest columns wide)

    pub rest_coded : drop (row_size columns) (row_code r ++ rest) ≡ rest
    rest_coded = drop_at (row_code r) rest (row_size columns) length_coded

pub row_own : (columns : ℕ) (words : List ℤ) → row_size columns ≤ length words → Between (pos 0) (pos most_low) (word words 1) → take (row_size columns) words ≡ row_code (row_of columns words)
unfolding row_of row_code
row_own columns words h b = take-add constant_words columns words ∙ ap (λ (l : List ℤ). l ++ take columns (drop constant_words words)) (constant_own words (omega arith) b)
