-- No sum of the judge leaves 64 bits, once for all kinds of entailments. Where an entailment is within its limits and a witness is shaped for it,
-- each number that is made on the way is below 2^63: an image put into a target's row column by column, the premises weighted and added one by
-- one, on each way through splits to a leaf, and a target's entries times a divisor.
use Rattle.std.specs.Prelude.{ℕ, ◌+◌, ◌*◌, ◌^◌, ◌<◌, ℤ, pos, nat_abs, ◌-ℤ◌, length, get_or, take}
use Rattle.std.proofs.Math.Option.{Option, none, some}
use mathlib.Core.List.{List, [], ◌∷◌, map}
use Rattle.std.proofs.Math.ListN.{get_elem?}
use Rattle.rows.specs.Rows.{Row, constant_row, add, combine, substitute}
use Rattle.certificates.specs.Certificate.{Disjunct}
use Rattle.certificates.specs.Entailments as certificates
use Rattle.certificates.specs.Witnesses.{Share, Witness, contradiction, target, split, under, other_side}
use Rattle.row_buffers.specs.Entries.{entry}

-- ---- what is to be below 2^63

-- rows, weighted and added one by one: each sum so far, with the product that comes next
pub record SumFits (ws : List ℤ) (rs : List Row) : Type 0 where
  pub fits : (i j : ℕ) → j < length rs → nat_abs (entry i (combine (take j ws) rs)) + nat_abs (get_or ws j (pos 0)) * nat_abs (entry i (get_or rs j (constant_row (pos 0)))) < 2 ^ 63

-- an image put into a row, column by column: the same, from the row's constant on
pub record ImageFits (image : List Row) (r : Row) : Type 0 where
  pub fits : (i j : ℕ) → nat_abs (entry i (add (constant_row r.constant) (combine (take j r.coefficients) image))) + nat_abs (get_or r.coefficients j (pos 0)) * nat_abs (entry i (get_or image j (constant_row (pos 0)))) < 2 ^ 63

-- a target's row, times a divisor: its entries, and what the sum's constant is compared with
pub record TargetFits (divisor : ℕ) (r : Row) : Type 0 where
  pub multiples : (i : ℕ) → divisor * nat_abs (entry i r) < 2 ^ 63
  pub rounded : 1 + divisor * nat_abs (entry 0 r -ℤ pos 1) < 2 ^ 63

-- a share of each row of a target's disjunct
unfoldable pub SharesFit : certificates.Entailment → Disjunct → List Share → Type 0
SharesFit e [] xs = Unit {0}
SharesFit e (r ∷ t) [] = Unit {0}
SharesFit e (r ∷ t) (x ∷ xs) = (ImageFits e.image r × SumFits (map pos x.multipliers) e.premises × TargetFits x.divisor (substitute e.image r)) × SharesFit e t xs

unfoldable pub ChosenFits : certificates.Entailment → Option Disjunct → List Share → Type 0
ChosenFits e none xs = Unit {0}
ChosenFits e (some t) xs = SharesFit e t xs

-- a witness, leaf by leaf
unfoldable pub WitnessFits : certificates.Entailment → Witness → Type 0
WitnessFits e (contradiction ms) = SumFits (map pos ms) e.premises
WitnessFits e (target j xs) = ChosenFits e (get_elem? e.targets j) xs
WitnessFits e (split r w v) = WitnessFits (under r e) w × WitnessFits (under (other_side r) e) v
