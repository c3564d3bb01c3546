-- Witnesses: "A witness is 0 and one multiplier a premise .. Or it is j, a target disjunct, and for each target row a divisor and one
-- multiplier a premise". Or, by document 02, CR 5, it begins with −1 and is a row and two witnesses, one under each side of the row. A witness
-- is shaped for an entailment if its counts and ranges are right, and fits if its sums do.
use Rattle.std.specs.Prelude.{ℕ, zero, suc, Bool, true, false, ◌&&◌, List, [], ◌∷◌, ◌++◌, map, leb, length, ℤ, pos, negsuc}
use Rattle.std.proofs.Math.Option.{Option, none, some}
use Rattle.std.proofs.Math.ListN.{get_elem?}
use Rattle.rows.specs.Rows.{Row, substitute_all, fits_constant, refutes, yields_by}
use Rattle.words.specs.Limits.{constant_limit, coefficient_limit, most_multiplier, most_divisor, most_splits}
use Rattle.words.specs.Words.{small}
use Rattle.words.specs.RowCode.{row_code}
use Rattle.certificates.specs.Certificate.{Disjunct}
use Rattle.certificates.specs.Guards.{plus_one, negated}
use Rattle.certificates.specs.Entailments.{Entailment}

-- for one target row
pub record Share : Type 0 where
  pub divisor : ℕ
  pub multipliers : List ℕ

-- a contradiction; or a target disjunct (here from 0) and a share for each of its rows; or a split, "one witness under «row ≤ 0» and one under
-- «−row + 1 ≤ 0»"
pub data Witness : Type 0 where
  contradiction : (multipliers : List ℕ) → Witness
  target : (j : ℕ) → List Share → Witness
  split : Row → Witness → Witness → Witness

-- the entailment with one premise more, "each premise added last"
unfoldable pub under : Row → Entailment → Entailment
under r e = record { columns = e.columns; premises = e.premises ++ (r ∷ []); image = e.image; targets = e.targets }

-- "−row + 1"
unfoldable pub other_side : Row → Row
other_side r = plus_one (negated r)

-- ---- its words

unfoldable pub encode_shares : List Share → List ℤ
encode_shares [] = []
encode_shares (x ∷ xs) = pos x.divisor ∷ (map pos x.multipliers ++ encode_shares xs)

-- "disjuncts count from 1"
unfoldable pub encode : Witness → List ℤ
encode (contradiction ms) = pos 0 ∷ map pos ms
encode (target j xs) = pos (suc j) ∷ encode_shares xs
encode (split r w v) = negsuc 0 ∷ (row_code r ++ (encode w ++ encode v))

unfoldable pub encode_all : List Witness → List ℤ
encode_all [] = []
encode_all (w ∷ ws) = encode w ++ encode_all ws

-- ---- counts and ranges: "Multipliers 0..1,000, divisors 1..1,000"

unfoldable pub shaped_multipliers : ℕ → List ℕ → Bool
shaped_multipliers zero [] = true
shaped_multipliers zero (_ ∷ _) = false
shaped_multipliers (suc n) [] = false
shaped_multipliers (suc n) (m ∷ ms) = leb m most_multiplier && shaped_multipliers n ms

unfoldable pub shaped_shares : ℕ → List Row → List Share → Bool
shaped_shares n [] [] = true
shaped_shares n [] (_ ∷ _) = false
shaped_shares n (_ ∷ _) [] = false
shaped_shares n (r ∷ rs) (x ∷ xs) = (leb 1 x.divisor && leb x.divisor most_divisor) && (shaped_multipliers n x.multipliers && shaped_shares n rs xs)

unfoldable pub shaped_at : ℕ → Option Disjunct → List Share → Bool
shaped_at n none xs = false
shaped_at n (some d) xs = shaped_shares n d xs

-- "a row over that entailment's columns", within document 01's limits
unfoldable pub shaped_coefficients : ℕ → List ℤ → Bool
shaped_coefficients zero [] = true
shaped_coefficients zero (_ ∷ _) = false
shaped_coefficients (suc n) [] = false
shaped_coefficients (suc n) (c ∷ cs) = small coefficient_limit c && shaped_coefficients n cs

unfoldable pub shaped_row : ℕ → Row → Bool
shaped_row columns r = small constant_limit r.constant && shaped_coefficients columns r.coefficients

-- with so many splits left
unfoldable pub shaped_tree : ℕ → Entailment → Witness → Bool
shaped_tree d e (contradiction ms) = shaped_multipliers (length e.premises) ms
shaped_tree d e (target j xs) = shaped_at (length e.premises) (get_elem? e.targets j) xs
shaped_tree zero e (split r w v) = false
shaped_tree (suc d) e (split r w v) = shaped_row e.columns r && (shaped_tree d (under r e) w && shaped_tree d (under (other_side r) e) v)

-- "down to 8 splits on any way to a leaf"
unfoldable pub shaped : Entailment → Witness → Bool
shaped e w = shaped_tree most_splits e w

-- ---- a witness that works, and one for each entailment, by a rule for the constants of sums; a target's rows are those of its disjunct with
-- the image put in

module _ (rule : ℕ → ℤ → ℤ → Bool) where
  unfoldable pub fit_shares_by : List Row → List Row → List Share → Bool
  fit_shares_by premises [] [] = true
  fit_shares_by premises [] (_ ∷ _) = false
  fit_shares_by premises (_ ∷ _) [] = false
  fit_shares_by premises (r ∷ rs) (x ∷ xs) = yields_by rule x.divisor x.multipliers premises r && fit_shares_by premises rs xs

  unfoldable pub fits_at_by : Entailment → Option Disjunct → List Share → Bool
  fits_at_by e none xs = false
  fits_at_by e (some d) xs = fit_shares_by e.premises (substitute_all e.image d) xs

  unfoldable pub fits_by : Entailment → Witness → Bool
  fits_by e (contradiction ms) = refutes ms e.premises
  fits_by e (target j xs) = fits_at_by e (get_elem? e.targets j) xs
  fits_by e (split r w v) = fits_by (under r e) w && fits_by (under (other_side r) e) v

  unfoldable pub works_by : Entailment → Witness → Bool
  works_by e w = shaped e w && fits_by e w

  unfoldable pub all_work_by : List Entailment → List Witness → Bool
  all_work_by [] [] = true
  all_work_by [] (_ ∷ _) = false
  all_work_by (_ ∷ _) [] = false
  all_work_by (e ∷ es) (w ∷ ws) = works_by e w && all_work_by es ws

-- ---- by the rule that holds

abbrev pub fit_shares : List Row → List Row → List Share → Bool
fit_shares premises rs xs = fit_shares_by fits_constant premises rs xs

abbrev pub fits_at : Entailment → Option Disjunct → List Share → Bool
fits_at e o xs = fits_at_by fits_constant e o xs

abbrev pub fits : Entailment → Witness → Bool
fits e w = fits_by fits_constant e w

abbrev pub works : Entailment → Witness → Bool
works e w = works_by fits_constant e w

abbrev pub all_work : List Entailment → List Witness → Bool
all_work es ws = all_work_by fits_constant es ws
