-- Sparse rows where they stand in the words, by a table of their places: what is asked of them, and the rows that they are. Each is narrow and small,
-- because it has its form.
use Rattle.std.specs.Prelude.{◌≡◌, Bool, true, false, eqb, ℤ, pos, length, get_or, take, drop, set}
use Rattle.std.proofs.Math.Path.{refl, ap}
use Rattle.std.proofs.Common.{◌∙◌, add-one, arith, eqb-true, length-set, get_or-set_same, get_or-set_other}
use mathlib.Core.List.{List, [], ◌∷◌, ◌++◌}
use Prim.Native.Nat.{ℕ, zero, suc, ◌+◌, ◌≤◌, ◌<◌, zero-le}
use Rattle.std.proofs.lemmas.Bool.{eqb-false}
use Rattle.std.proofs.Math.ListN.{length-map}
use Rattle.std.proofs.Math.Seq.{length-take-le}
use Rattle.rows.specs.Rows.{Row, constant_row}
use Rattle.words.specs.Limits.{most_rows}
use Rattle.words.specs.declared.StoredForm.TheVariants.{Sparse}
use Rattle.words.specs.RowLimits.{RowWithin}
use Rattle.words.specs.SparseRows.{sparse_row_of}
use Rattle.words.proofs.CodedRows.{row_within}
use Rattle.row_buffers.specs.AllRows.{AllRows, none, one}
use Rattle.row_buffers.specs.EntryLimits.{entry_limit, SmallRows}
use Rattle.row_buffers.proofs.EntryLimits.{small_weaken, limited_small}
use Rattle.row_buffers.proofs.RowsOfWords.{within_limited}
use Rattle.row_buffers.specs.FlatRows.{Narrow}
use Rattle.row_buffers.specs.PlacedRows.{PlacedHere, SparseHere, placed_rows, row_at}

module _ (m : ℕ) (words : List ℤ) where
  pub length_placed : (n : ℕ) (places : List ℕ) → n ≤ length places → length (placed_rows m words n places) ≡ n
  unfolding placed_rows
  length_placed n places h = length-map (take n places) (row_at m words) ∙ length-take-le n places h

  pub placed_at : (n j : ℕ) (places : List ℕ) → j < n → n ≤ length places → get_or (placed_rows m words n places) j (constant_row (pos 0)) ≡ (row_at m words) (get_or places j 0)
  unfolding placed_rows
  placed_at zero j places h k = absurd (omega arith)
  placed_at (suc n) j [] h k = absurd (omega arith)
  placed_at (suc n) zero (place ∷ places) h k = refl
  placed_at (suc n) (suc j) (place ∷ places) h k = placed_at n j places (omega arith) (omega arith)

each_placed : {P : Row → Type 0} (m : ℕ) (words : List ℤ) (n : ℕ) (places : List ℕ) → ((j : ℕ) → j < n → P (sparse_row_of m (drop (get_or places j 0) words))) → AllRows P (placed_rows m words n places)
unfolding placed_rows
each_placed m words zero places f = none
each_placed m words (suc n) [] f = none
each_placed m words (suc n) (place ∷ places) f = one (f 0 (omega arith)) (each_placed m words n places (λ j h. f (suc j) (omega arith)))

module _ {m : ℕ} {words : List ℤ} where
  here_within : {place : ℕ} → SparseHere m words place → RowWithin m (sparse_row_of m (drop place words))
  here_within {place} s = row_within m words place Sparse s.inside s.formed

  module _ {n : ℕ} {places : List ℕ} (p : PlacedHere m words n places) where
    pub placed_small : SmallRows entry_limit (placed_rows m words n places)
    placed_small = each_placed m words n places (λ j h. small_weaken (omega arith) (limited_small (within_limited (here_within (p.each j h)))))

    pub placed_narrow : {columns : ℕ} → m ≤ columns → Narrow columns (placed_rows m words n places)
    placed_narrow h = each_placed m words n places (λ j k. omega (arith, (here_within (p.each j k)).wide))

-- ---- a table that is filled place by place

module _ (m : ℕ) (words : List ℤ) where
  pub none_placed : (places : List ℕ) → PlacedHere m words 0 places
  none_placed places = record { few = zero-le; many = zero-le; each = λ j h. absurd (omega arith) }

  pub more_placed : {n : ℕ} {places : List ℕ} (place : ℕ) → PlacedHere m words n places → n < most_rows → n < length places → SparseHere m words place → PlacedHere m words (n + 1) (set places n place)
  more_placed {n} {places} place p few many s = record { few = omega arith; many = rw length-set (omega arith); each = λ j h. go j h (eqb j n) refl }
    where
      go : (j : ℕ) → j < n + 1 → (b : Bool) → eqb j n ≡ b → SparseHere m words (get_or (set places n place) j 0)
      go j h true q = rw (eqb-true j n q, get_or-set_same places n place 0 many) s
      go j h false q = let d = eqb-false j n q in rw (get_or-set_other places n j place 0 d) (p.each j (omega arith))

  placed_suc : (n : ℕ) (places : List ℕ) (place : ℕ) → n < length places → placed_rows m words (suc n) (set places n place) ≡ placed_rows m words n places ++ sparse_row_of m (drop place words) ∷ []
  unfolding placed_rows
  placed_suc n [] place h = absurd (omega arith)
  placed_suc zero (p ∷ places) place h = refl
  placed_suc (suc n) (p ∷ places) place h = ap (λ (rs : List Row). sparse_row_of m (drop p words) ∷ rs) (placed_suc n places place (omega arith))

  -- its rows have one more at their end
  pub placed_more : (n : ℕ) (places : List ℕ) (place : ℕ) → n < length places → placed_rows m words (n + 1) (set places n place) ≡ placed_rows m words n places ++ sparse_row_of m (drop place words) ∷ []
  placed_more n places place h = rw (add-one n) (placed_suc n places place h)
