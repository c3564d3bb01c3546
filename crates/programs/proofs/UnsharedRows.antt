-- A statement's row that shares no words with another row, document 02, CR 13: "whose row shares no words". No word of it, its line's included, is a word
-- of another statement's row or of an exit's. It is said of places and as a test: of two rows one ends before the other begins.
use Rattle.std.specs.Prelude.{◌≡◌, ◌↔◌, Bool, true, false, ◌||◌, List, leb, ℤ}
use Rattle.std.proofs.Math.Path.{refl}
use Prim.Native.Nat.{ℕ, zero, suc, ◌+◌, ◌≤◌, ◌<◌}
use Rattle.std.proofs.Common.{arith, leb-true, leb-false, eqb-true}
use Rattle.std.proofs.lemmas.Bool.{eqb-false}
use Rattle.std.proofs.Math.Dec.{T, eqb}
use Rattle.basics.proofs.Booleans.{both, tests, each}
use Rattle.programs.specs.ProgramWords.{n, p, row, exit_words, statement_words}
use Rattle.programs.specs.UnsharedRows.{ApartFrom, Unshared, exits_apart, is_apart, is_unshared, statements_apart}

module _ (words : List ℤ) (v : ℕ) where
  -- ---- it says so

  -- where neither ends before the other begins, the one that begins later begins in both
  apart_iff : (at size : ℕ) → 1 ≤ size → T ((is_apart words v) at size) ↔ (ApartFrom words v) at size
  unfolding is_apart
  apart_iff at size some = (there, back)
    where
      there : T ((is_apart words v) at size) → (ApartFrom words v) at size
      there t i low high low' high' = let x = simp tests at t in omega (arith, x (λ h. omega arith))

      back : (ApartFrom words v) at size → T ((is_apart words v) at size)
      back f = simp tests (λ h. ends h (leb (at + size) (row words v)) refl)
        where
          ends : ¬ (row words v + statement_words words v ≤ at) → (b : Bool) → leb (at + size) (row words v) ≡ b → at + size ≤ row words v
          ends h true q = leb-true (at + size) (row words v) q
          ends h false q = absurd (meets (leb (row words v) at) refl)
            where
              meets : (b : Bool) → leb (row words v) at ≡ b → ⊥
              meets true r = f at (leb-true (row words v) at r) (omega arith) (omega arith) (omega arith)
              meets false r = let k = leb-false (row words v) at r in f (row words v) (omega arith) (omega arith) (omega arith) (omega (arith, leb-false (at + size) (row words v) q))

  other_iff : (u : ℕ) → T (eqb u v || (is_apart words v) (row words u) (statement_words words u)) ↔ (¬ (u ≡ v) → (ApartFrom words v) (row words u) (statement_words words u))
  other_iff u = go (eqb u v) refl (apart_iff (row words u) (statement_words words u) (omega arith))
    where
      go : (b : Bool) → eqb u v ≡ b → T ((is_apart words v) (row words u) (statement_words words u)) ↔ (ApartFrom words v) (row words u) (statement_words words u)
          → T (b || (is_apart words v) (row words u) (statement_words words u)) ↔ (¬ (u ≡ v) → (ApartFrom words v) (row words u) (statement_words words u))
      go true q x = (λ t o. absurd (o (eqb-true u v q)), λ f. tt)
      go false q x = (λ t o. x.0 t, λ f. x.1 (f (eqb-false u v q)))

  exits_iff : (m : ℕ) → T ((exits_apart words v) m) ↔ ((i : ℕ) → i < m → (ApartFrom words v) (row words (n words + suc i)) exit_words)
  unfolding exits_apart
  exits_iff =
      each (exits_apart words v) (λ i. (is_apart words v) (row words (n words + suc i)) exit_words) (λ i. (ApartFrom words v) (row words (n words + suc i)) exit_words) refl (λ i. refl)
      (λ i. apart_iff (row words (n words + suc i)) exit_words (omega arith))

  statements_iff : (m : ℕ) → T ((statements_apart words v) m) ↔ ((i : ℕ) → i < m → ¬ (suc i ≡ v) → (ApartFrom words v) (row words (suc i)) (statement_words words (suc i)))
  unfolding statements_apart
  statements_iff =
      each (statements_apart words v) (λ i. eqb (suc i) v || (is_apart words v) (row words (suc i)) (statement_words words (suc i)))
      (λ i. ¬ (suc i ≡ v) → (ApartFrom words v) (row words (suc i)) (statement_words words (suc i))) refl (λ i. refl) (λ i. other_iff (suc i))

  pub unshared_iff : T (is_unshared words v) ↔ (Unshared words v)
  unfolding is_unshared
  unshared_iff = (there, back)
    where
      -- counted from 1
      from_one : (P : ℕ → Type 0) (m : ℕ) → ((i : ℕ) → i < m → P (suc i)) → (u : ℕ) → 1 ≤ u → u ≤ m → P u
      from_one P m f zero l h = absurd (omega arith)
      from_one P m f (suc i) l h = f i (omega arith)

      there : T (is_unshared words v) → (Unshared words v)
      there t =
          let x = simp (both, exits_iff, statements_iff) at t in
          record {
            from_exits = from_one (λ q. (ApartFrom words v) (row words (n words + q)) exit_words) (p words) x.0;
            from_statements = from_one (λ u. ¬ (u ≡ v) → (ApartFrom words v) (row words u) (statement_words words u)) (n words) x.1;
          }

      back : (Unshared words v) → T (is_unshared words v)
      back u = simp (both, exits_iff, statements_iff) (λ i h. u.from_exits (suc i) (omega arith) (omega arith), λ i h. u.from_statements (suc i) (omega arith) (omega arith))
