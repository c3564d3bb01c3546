-- No number of a list is negative: each is its own size.
use Rattle.std.specs.Prelude.{◌≡◌, List, [], ◌∷◌, ℤ, pos, nat_abs}

unfoldable pub Natural : List ℤ → Type 0
Natural [] = Unit
Natural (x ∷ l) = (x ≡ pos (nat_abs x)) × Natural l
