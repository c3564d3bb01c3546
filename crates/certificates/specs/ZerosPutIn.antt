-- A multiplier 0 put in, at one index, in each list of multipliers of a witness, those of each leaf of its tree: what works for an entailment works
-- so for the entailment with a premise put in there, whatever premise it is, since no weighted sum changes. Of its words nothing changes but that a 0 is put in for each list.
use Rattle.std.specs.Prelude.{length}
use Prim.Native.Nat.{ℕ, ◌+◌}
use mathlib.Core.List.{List, [], ◌∷◌}
use Rattle.basics.specs.Lists.{put_in}
use Rattle.rows.specs.Rows.{Row}
use Rattle.certificates.specs.Entailments.{Entailment}
use Rattle.certificates.specs.Witnesses.{Share, Witness, contradiction, target, split}

-- ---- the entailment and the witness

-- with a premise put in before the one with number i, counted from 0
unfoldable pub with_premise : ℕ → Row → Entailment → Entailment
with_premise i g e = record { columns = e.columns; premises = put_in i g e.premises; image = e.image; targets = e.targets }

-- the lists of a target's rows
unfoldable pub shares_with_zeros : ℕ → List Share → List Share
shares_with_zeros i [] = []
shares_with_zeros i (x ∷ xs) = record { divisor = x.divisor; multipliers = put_in i 0 x.multipliers } ∷ shares_with_zeros i xs

-- "one multiplier 0 put in .., in each list of multipliers .. and each leaf of their trees"; the rows of splits stay as they are
unfoldable pub with_zeros : ℕ → Witness → Witness
with_zeros i (contradiction ms) = contradiction (put_in i 0 ms)
with_zeros i (target j xs) = target j (shares_with_zeros i xs)
with_zeros i (split r w v) = split r (with_zeros i w) (with_zeros i v)

-- how many lists of multipliers there are
unfoldable pub lists_in : Witness → ℕ
lists_in (contradiction ms) = 1
lists_in (target j xs) = length xs
lists_in (split r w v) = lists_in w + lists_in v
