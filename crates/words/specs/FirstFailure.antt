-- The first failing test, for any list of tests: there is none if and only if each test passes, and it is a refusal if and only if the
-- list has a failing test with that refusal and each test before it passes. For a family of tests 1, 2, .., m, or of lists of tests, it is
-- the first i that is wrong, where those before it are right.
use Rattle.std.specs.Prelude.{◌≡◌, not}
use mathlib.Core.List.Memᴰ
use mathlib.Core.List.{List, ◌∷◌, ◌++◌, Memᴰ}
use Prim.Native.Nat.{ℕ, ◌+◌, ◌-◌, ◌≤◌, ◌<◌}
use Rattle.std.proofs.Math.Dec.{T}
use Rattle.words.specs.Tests.{Refusal, Test}

-- each test of the list passes
unfoldable pub AllPass : List Test → Type 0
AllPass ts = (t : Test) → Memᴰ t ts → T t.passes

-- one test of the list fails with the refusal, and each before it passes
pub record FirstFails (ts : List Test) (r : Refusal) : Type 0 where
  pub earlier : List Test
  pub failing : Test
  pub later : List Test
  pub splits : ts ≡ earlier ++ (failing ∷ later)
  pub passed : AllPass earlier
  pub fails : T (not failing.passes)
  pub refuses : failing.refusal ≡ r

-- ---- the first that is wrong

-- the first of 1, 2, .., m that is wrong; those before it are right
pub record First (m : ℕ) (Right Wrong : ℕ → Type 0) : Type 0 where
  pub index : ℕ
  pub low : 1 ≤ index
  pub high : index ≤ m
  pub earlier : (i : ℕ) → 1 ≤ i → i < index → Right i
  pub wrong : Wrong index

-- the first of them that isn't right stands at the place
abbrev pub FirstWrong : ℕ → (ℕ → Type 0) → (ℕ → ℕ) → ℕ → Type 0
FirstWrong m Right place_of place = First m Right (λ i. (place ≡ place_of i) × ¬ Right i)

-- with the line that it is refused with
abbrev pub FirstWrongOn : ℕ → (ℕ → Type 0) → (ℕ → ℕ) → (ℕ → ℕ) → ℕ → ℕ → Type 0
FirstWrongOn m Right place_of line_of place line = First m Right (λ i. (place ≡ place_of i) × (line ≡ line_of i) × ¬ Right i)
