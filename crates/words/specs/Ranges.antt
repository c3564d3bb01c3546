-- Tests of words against inequalities over ℤ: each test passes if and only if its inequalities hold, and then a capped number is the word.
use Rattle.std.specs.Prelude.{ℤ, pos, neg_ℤ, ◌≤ℤ◌}
use Prim.Native.Nat.{ℕ, ◌≤◌}

-- "from .. to"
pub record Between (low high z : ℤ) : Type 0 where
  pub least : low ≤ℤ z
  pub most : z ≤ℤ high

-- "within ±"
abbrev pub Small : ℕ → ℤ → Type 0
Small limit z = Between (neg_ℤ (pos limit)) (pos limit) z
