-- How many words the parts of a shaped witness take: there are as many multipliers as premises, for each row of a target a divisor and that many
-- multipliers, and a split's row has the entailment's columns.
use Rattle.std.specs.Prelude.{◌≡◌, refl, List, [], ◌∷◌, map, ℕ, zero, suc, ◌+◌, ◌*◌, T, ℤ, pos, length}
use Rattle.std.proofs.Common.{ap, suc-mul, arith, length-append}
use Rattle.std.proofs.lemmas.List.{length-map}
use Rattle.basics.proofs.Booleans.{parts}
use Rattle.rows.specs.Rows.{Row}
use Rattle.words.specs.RowWords.{row_size}
use Rattle.words.specs.RowCode.{row_code}
use Rattle.words.proofs.RowCode.{length_coded}
use Rattle.certificates.specs.Witnesses.{Share, encode_shares, shaped_multipliers, shaped_shares, shaped_coefficients, shaped_row}

pub multipliers_count : (n : ℕ) (ms : List ℕ) → T (shaped_multipliers n ms) → length ms ≡ n
unfolding shaped_multipliers
multipliers_count zero [] t = refl
multipliers_count zero (m ∷ ms) t = absurd t
multipliers_count (suc n) [] t = absurd t
multipliers_count (suc n) (m ∷ ms) t = ap suc (multipliers_count n ms (search parts))

pub shares_length : (n : ℕ) (rs : List Row) (xs : List Share) → T (shaped_shares n rs xs) → length (encode_shares xs) ≡ length rs * (1 + n)
unfolding shaped_shares encode_shares
shares_length n [] [] t = omega arith
shares_length n [] (x ∷ xs) t = absurd t
shares_length n (r ∷ rs) [] t = absurd t
shares_length n (r ∷ rs) (x ∷ xs) t =
    omega (
      arith,
      length-append (map pos x.multipliers) (encode_shares xs),
      length-map x.multipliers pos,
      multipliers_count n x.multipliers (search parts),
      shares_length n rs xs (search parts),
      suc-mul (length rs) (1 + n),
    )

coefficients_count : (n : ℕ) (cs : List ℤ) → T (shaped_coefficients n cs) → length cs ≡ n
unfolding shaped_coefficients
coefficients_count zero [] t = refl
coefficients_count zero (c ∷ cs) t = absurd t
coefficients_count (suc n) [] t = absurd t
coefficients_count (suc n) (c ∷ cs) t = ap suc (coefficients_count n cs (search parts))

pub shaped_width : (columns : ℕ) (r : Row) → T (shaped_row columns r) → length r.coefficients ≡ columns
unfolding shaped_row
shaped_width columns r t = coefficients_count columns r.coefficients (search parts)

pub row_length : (columns : ℕ) (r : Row) → T (shaped_row columns r) → length (row_code r) ≡ row_size columns
row_length columns r t = length_coded columns r (shaped_width columns r t)
