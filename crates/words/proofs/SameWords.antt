-- Lists of words that are the same from a place on, so many of them: the rows that stand there are the same, and have the same form.
use Rattle.std.specs.Prelude.{◌≡◌, ℤ, pos, length, take, drop}
use Rattle.std.proofs.Math.Path.{refl, sym, ap₂}
use Rattle.std.proofs.Common.{◌∙◌, arith, length-take, length-drop, ext_get_or, get_or-take, get_or-drop}
use mathlib.Core.List.{List, ◌∷◌}
use Prim.Native.Nat.{ℕ, zero, suc, ◌+◌, ◌*◌, ◌≤◌, ◌<◌}
use Rattle.std.proofs.Math.Nat.{add-zero, suc-mul, mul-le-mul_right}
use Rattle.std.proofs.Math.Seq.{drop-drop}
use Rattle.rows.specs.Rows.{Row}
use Rattle.words.specs.RowWords.{constant_words, constant_of, constant_at, row_size, row_of, rows_by, rows_of}
use Rattle.words.specs.RowForm.{RowForm, RowsForm}
use Rattle.words.proofs.RowLaws.{constant_dropped}
use Rattle.words.specs.SameWords.{Same}

module _ (words' words : List ℤ) where
  pub same_part : (at size i m : ℕ) → i + m ≤ size → (Same words' words) at size → (Same words' words) (at + i) m
  same_part at size i m h s j l = let e : at + i + j ≡ at + (i + j) = omega arith in rw e (s (i + j) (omega arith))

  same_constant : (at : ℕ) → (Same words' words) at constant_words → constant_at words' at ≡ constant_at words at
  unfolding constant_at
  same_constant at s = ap₂ constant_of (rw add-zero at (s 0 (omega arith))) (s 1 (omega arith))

  pub same_row_form : (at columns : ℕ) → (Same words' words) at (row_size columns) → RowForm words at columns → RowForm words' at columns
  same_row_form at columns s f =
      record {
        low = rw (s 1 (omega arith)) f.low;
        constant = rw (same_constant at (λ i h. s i (omega arith))) f.constant;
        coefficients = λ i h. let e : at + constant_words + i ≡ at + (constant_words + i) = omega arith in rw (e, s (constant_words + i) (omega arith)) (rw e at (f.coefficients i h));
      }

  pub same_rows_form : (at columns m : ℕ) → (Same words' words) at (m * row_size columns) → RowsForm words at columns m → RowsForm words' at columns m
  unfolding RowsForm
  same_rows_form at columns m s f i h =
      same_row_form (at + i * row_size columns) columns (same_part at (m * row_size columns) (i * row_size columns) (row_size columns) (omega (arith, mul-le-mul_right (row_size columns) h, suc-mul i (row_size columns))) s) (f i h)

  module _ (long : length words' ≡ length words) where
    same_take : (at size : ℕ) → (Same words' words) at size → take size (drop at words') ≡ take size (drop at words)
    same_take at size s =
        ext_get_or (pos 0) (take size (drop at words')) (take size (drop at words)) (rw (length-take, length-take, length-drop, length-drop, long))
        (λ i h. let l : i < size = omega (arith, length-take size (drop at words')) in
        get_or-take size (drop at words') i (pos 0) l ∙ (get_or-drop at words' i (pos 0) ∙ (s i l ∙ (sym (get_or-drop at words i (pos 0)) ∙ sym (get_or-take size (drop at words) i (pos 0) l)))))

    pub same_row : (at columns : ℕ) → (Same words' words) at (row_size columns) → row_of columns (drop at words') ≡ row_of columns (drop at words)
    unfolding row_of
    same_row at columns s =
        ap₂ (λ (c : ℤ) (l : List ℤ). record { constant = c; coefficients = l })
        (constant_dropped at words' ∙ (same_constant at (λ i h. s i (omega arith)) ∙ sym (constant_dropped at words)))
        (rw (drop-drop constant_words at words', drop-drop constant_words at words) (same_take (at + constant_words) columns (same_part at (row_size columns) constant_words columns (omega arith) s)))

    pub same_rows : (columns m at : ℕ) → (Same words' words) at (m * row_size columns) → rows_of columns m (drop at words') ≡ rows_of columns m (drop at words)
    unfolding rows_of rows_by
    same_rows columns zero at s = refl
    same_rows columns (suc m) at s =
        ap₂ (λ (r : Row) (rs : List Row). r ∷ rs) (same_row at columns (λ i h. s i (omega (arith, suc-mul m (row_size columns)))))
        (rw (drop-drop (row_size columns) at words', drop-drop (row_size columns) at words)
        (same_rows columns m (at + row_size columns) (same_part at (suc m * row_size columns) (row_size columns) (m * row_size columns) (omega (arith, suc-mul m (row_size columns))) s)))
