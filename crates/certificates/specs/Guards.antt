-- Guard rows: the cases of a condition's true and false side.
use Rattle.std.specs.Prelude.{Bool, true, false, List, [], ◌∷◌, pos, negsuc}
use Rattle.rows.specs.Rows.{Row, add, scale, constant_row}
use Rattle.programs.specs.Program.{Comparison, less, greater, at_most, at_least, equal, different, Condition, choice, compare}
use Rattle.certificates.specs.Certificate.{Disjunct}

-- e+1
unfoldable pub plus_one : Row → Row
plus_one e = add e (constant_row (pos 1))

-- −e
unfoldable pub negated : Row → Row
negated e = scale (negsuc 0) e

unfoldable pub opposite : Comparison → Comparison
opposite less = at_least
opposite greater = at_most
opposite at_most = greater
opposite at_least = less
opposite equal = different
opposite different = equal

-- "`<` gives e+1; `≤` gives e; `>` gives −e+1; `≥` gives −e; `=` gives e and −e in one case; `≠` gives two cases, e+1 then −e+1"
unfoldable pub cases : Comparison → Row → List Disjunct
cases less e = (plus_one e ∷ []) ∷ []
cases greater e = (plus_one (negated e) ∷ []) ∷ []
cases at_most e = (e ∷ []) ∷ []
cases at_least e = (negated e ∷ []) ∷ []
cases equal e = (e ∷ negated e ∷ []) ∷ []
cases different e = (plus_one e ∷ []) ∷ (plus_one (negated e) ∷ []) ∷ []

-- "False is the opposite op's cases; `?` is one case a side, no guard row."
unfoldable pub condition_cases : Condition → Bool → List Disjunct
condition_cases choice side = [] ∷ []
condition_cases (compare op e) true = cases op e
condition_cases (compare op e) false = cases (opposite op) e
