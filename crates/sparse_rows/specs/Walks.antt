-- What a walk over sparse rows comes to, row by row: whether they are all there and pass test 5, and, if so, whether they pass test 25, whether each has
-- a coefficient, and where they end.
use Prim.Native.Nat.{ℕ, ◌+◌, ◌≤◌, ◌<◌}
use Rattle.std.specs.Bool.{then_some}
use Rattle.std.specs.Prelude.{◌≡◌, Option, Some, None, Bool, not, ◌&&◌, List, leb, eqb, ℤ, length, drop}
use Rattle.std.proofs.Math.Path.{refl}
use Rattle.std.proofs.Common.{sym, arith, drop-drop, le-leb}
use Rattle.std.proofs.Math.Bool.{true, false, and-false}
use Rattle.std.proofs.lemmas.Bool.{lt-leb}
use Rattle.basics.proofs.Booleans.{holds}
use Rattle.words.specs.SparseRows.{used_of, sparse_words, sparse_passes, each_sparse, sparse_rows_pass, sparse_rows_strict}
use Rattle.words.specs.SparseForm.{SparseRowForm, SparseRowsForm}
use Rattle.words.proofs.SparseForm.{sparse_form, sparse_rows_form}
use Rattle.sparse_rows.specs.declared.Walked.{Walked}

-- the row at the head of the words has a coefficient
abbrev pub sparse_filled : ℕ → List ℤ → Bool
sparse_filled columns words = not (eqb (used_of columns words) 0)

unfoldable pub sparse_rows_filled : ℕ → ℕ → List ℤ → Bool
sparse_rows_filled columns n words = each_sparse (sparse_filled columns) columns n words

-- what is given where a test holds
pub none_failed : {A : Type 0} (b : Bool) (w : A) → then_some b w ≡ None → b ≡ false
none_failed true w e = absurd (let z : ◌≡◌ {A = ℕ} 0 1 = cc in omega arith)
none_failed false w e = refl

pub some_passed : {A : Type 0} (b : Bool) (w x : A) → then_some b w ≡ Some x → (b ≡ true) × (x ≡ w)
some_passed true w x e = (refl, let q : w ≡ x = cc in sym q)
some_passed false w x e = absurd (let z : ◌≡◌ {A = ℕ} 0 1 = cc in omega arith)

-- so many rows from a place on, of so many columns
module _ (words : List ℤ) (at columns n : ℕ) where
  abbrev pub rows_hold : Bool
  rows_hold = leb (at + sparse_words columns n (drop at words)) (length words) && sparse_rows_pass columns n (drop at words)

  abbrev pub rows_walked : Walked
  rows_walked = record { strict = sparse_rows_strict columns n (drop at words); filled = sparse_rows_filled columns n (drop at words); end = at + sparse_words columns n (drop at words) }

  abbrev pub rows_walk : Option Walked
  rows_walk = then_some rows_hold rows_walked

  -- ---- the ways out of a loop over them

  pub rows_past : length words < at + sparse_words columns n (drop at words) → None ≡ rows_walk
  rows_past h = rw (lt-leb _ _ h)

  pub row_fails : (i : ℕ) → i < n → sparse_passes columns (drop (at + sparse_words columns i (drop at words)) words) ≡ false → None ≡ rows_walk
  row_fails i h e = rw (failed (sparse_rows_pass columns n (drop at words)) refl, and-false)
    where
      failed : (b : Bool) → sparse_rows_pass columns n (drop at words) ≡ b → sparse_rows_pass columns n (drop at words) ≡ false
      failed false q = q
      failed true q =
          let place : ℕ = sparse_words columns i (drop at words) in
          let f : SparseRowForm columns (drop place (drop at words)) = unfold SparseRowsForm in ((sparse_rows_form columns n (drop at words)).0 (holds q) i h) in
          absurd (rw e at ((sparse_form columns (drop (at + place) words)).1 (rw (drop-drop place at words) at f)))

  pub rows_pass : at + sparse_words columns n (drop at words) ≤ length words → sparse_rows_pass columns n (drop at words) ≡ true → Some rows_walked ≡ rows_walk
  rows_pass h e = rw (le-leb _ _ h, e)
