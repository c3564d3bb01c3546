-- The form of rows in words, said in inequalities over ℤ: it holds if and only if their tests pass, each of which is an inequality. A row of
-- that form that lies in the words whole is an expression.
use Rattle.std.proofs.Math.Path.{refl}
use Rattle.std.specs.Prelude.{◌↔◌, List, ℕ, ◌+◌, ◌*◌, ◌≤◌, ℤ, length}
use Rattle.std.proofs.Common.{mul-le-mul_right, suc-mul, arith}
use Rattle.std.proofs.Math.Dec.{T}
use Rattle.basics.proofs.Booleans.{both, each}
use Rattle.words.specs.RowWords.{is_constant, constant_at, constant_passes, row_size, row_passes, rows_pass}
use Rattle.words.proofs.Ranges.{within_between, small_between, all_small_lem}
use Rattle.words.specs.RowForm.{Expressions, RowForm, RowsForm}

module _ (words : List ℤ) where
  pub row_form : (at columns : ℕ) → T (row_passes words at columns) ↔ RowForm words at columns
  unfolding is_constant constant_at constant_passes row_passes
  row_form at columns = (there, back)
    where
      there : T (row_passes words at columns) → RowForm words at columns
      there t = let x = simp (both, within_between, small_between, all_small_lem) at t in search

      back : RowForm words at columns → T (row_passes words at columns)
      back x = simp (both, within_between, small_between, all_small_lem) search

  pub rows_form : (at columns m : ℕ) → T (rows_pass words at columns m) ↔ (RowsForm words) at columns m
  unfolding rows_pass RowsForm
  rows_form at columns =
      each (rows_pass words at columns) (λ i. row_passes words (at + i * row_size columns) columns) (λ i. RowForm words (at + i * row_size columns) columns)
      refl (λ i. refl) (λ i. row_form (at + i * row_size columns) columns)

pub expressions_stand : (words : List ℤ) (at columns count : ℕ) → at + count * row_size columns ≤ length words → RowsForm words at columns count → Expressions words at columns count
unfolding RowsForm
expressions_stand words at columns count h f =
    record { each = λ i b. record { inside = omega (arith, mul-le-mul_right (row_size columns) b, suc-mul i (row_size columns)); form = f i b } }
