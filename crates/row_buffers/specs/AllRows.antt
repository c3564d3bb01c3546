-- A property of each row of a list.
use Rattle.std.specs.Prelude.{List, [], ◌∷◌}
use Rattle.rows.specs.Rows.{Row}

pub data AllRows (P : Row → Type 0) : List Row → Type 0 where
  none : AllRows P []
  one : {r : Row} {rs : List Row} → P r → AllRows P rs → AllRows P (r ∷ rs)
