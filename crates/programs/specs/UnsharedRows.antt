-- A statement's row that shares no words with another row, document 02, CR 13: "whose row shares no words". No word of it, its line's included, is a word
-- of another statement's row or of an exit's. It is said of places and as a test: of two rows one ends before the other begins.
use Rattle.std.specs.Prelude.{◌≡◌, Bool, true, ◌&&◌, ◌||◌, List, leb, ℤ}
use Prim.Native.Nat.{ℕ, zero, suc, ◌+◌, ◌≤◌, ◌<◌}
use Rattle.std.proofs.Math.Dec.{eqb}
use Rattle.programs.specs.ProgramWords.{n, p, row, exit_words, statement_words}

module _ (words : List ℤ) (v : ℕ) where
  -- no place is both in the row of v and among so many words from a place on
  abbrev pub ApartFrom : ℕ → ℕ → Type 0
  ApartFrom at size = (i : ℕ) → row words v ≤ i → i < row words v + statement_words words v → at ≤ i → i < at + size → ⊥

  pub record Unshared : Type 0 where
    pub from_exits : (q : ℕ) → 1 ≤ q → q ≤ p words → ApartFrom (row words (n words + q)) exit_words
    pub from_statements : (u : ℕ) → 1 ≤ u → u ≤ n words → ¬ (u ≡ v) → ApartFrom (row words u) (statement_words words u)

  -- ---- the test

  unfoldable pub is_apart : ℕ → ℕ → Bool
  is_apart at size = leb (row words v + statement_words words v) at || leb (at + size) (row words v)

  -- from the rows of the exits 1..i
  unfoldable pub exits_apart : ℕ → Bool
  exits_apart zero = true
  exits_apart (suc i) = exits_apart i && is_apart (row words (n words + suc i)) exit_words

  -- from those of the statements 1..i but v
  unfoldable pub statements_apart : ℕ → Bool
  statements_apart zero = true
  statements_apart (suc i) = statements_apart i && (eqb (suc i) v || is_apart (row words (suc i)) (statement_words words (suc i)))

  unfoldable pub is_unshared : Bool
  is_unshared = exits_apart (p words) && statements_apart (n words)
