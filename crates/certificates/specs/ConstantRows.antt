-- Constant rows, those "whose coefficients are all 0": that the test finds one if and only if there is one, and that the edges of a certificate
-- that has the form have none.
use Rattle.std.specs.Prelude.{◌≡◌, ℕ, pos, get_or}
use mathlib.Core.List.Memᴰ
use mathlib.Core.List.{List, Memᴰ}
use Rattle.rows.specs.Rows.{Row}
use Rattle.certificates.specs.Certificate.{Disjunct}

-- "rows whose coefficients are all 0"
abbrev pub Constant : Row → Type 0
Constant r = (i : ℕ) → get_or r.coefficients i (pos 0) ≡ pos 0

-- a constant row in some disjunct
pub record HasConstant (ds : List Disjunct) : Type 0 where
  pub disjunct : Disjunct
  pub row : Row
  pub listed : Memᴰ disjunct ds
  pub held : Memᴰ row disjunct
  pub constant : Constant row
