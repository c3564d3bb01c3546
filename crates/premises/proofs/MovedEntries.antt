-- An entry that is read from a row of words and signed is the entry of the guard's row, moved: an entry inside the columns moves with them, and
-- outside there is nothing.
use mathlib.Core.Path.{◌≡◌, sym, ap, ◌∙◌}
use mathlib.Core.Bool.{Bool, true, false}
use mathlib.Core.List.{List}
use Prim.Native.Nat.{ℕ, suc, ◌+◌, ◌-◌, ◌≤◌, ◌<◌}
use native.Mathlib.Omega.{arith}
use lib.IntN.{ℤ, pos, ◌+ℤ◌}
use lib.ListN.{drop}
use Rattle.rows.specs.Rows.{Row, substitute}
use Rattle.rows.specs.Columns.{columns as columnsFrom}
use Rattle.words.specs.Words.{word}
use Rattle.words.specs.RowWords.{constant_words, constant_at, row_of}
use Rattle.row_buffers.specs.Entries.{entry}
use Rattle.row_buffers.proofs.RowsOfWords.{entry_constant, entry_coefficient}
use Rattle.entailments.specs.GuardRows.{signed, guard_row}
use Rattle.entailments.proofs.GuardRows.{guard_constant, guard_constant_more, guard_coefficient}
use Rattle.row_buffers.proofs.MovedColumns.{moved_constant, moved_inside, moved_outside}

module _ (words : List ℤ) (place k : ℕ) (negative : Bool) (shift : ℕ) where
  abbrev pub moved : Bool → Row
  moved plus = substitute (columnsFrom shift k) (guard_row negative plus (row_of k (drop place words)))

  module _ (x : ℤ) (i : ℕ) (z : i ≡ 0) (e : x ≡ signed negative (constant_at words place)) where
    first : x ≡ signed negative (entry 0 (row_of k (drop place words)))
    first = rw entry_constant e

    pub constant_is : x ≡ entry i (moved false)
    constant_is = rw (z, moved_constant, guard_constant) first

    pub constant_more_is : x +ℤ pos 1 ≡ entry i (moved true)
    constant_more_is = rw (z, moved_constant, guard_constant_more) (ap (λ (y : ℤ). y +ℤ pos 1) first)

  module _ (plus : Bool) (i : ℕ) where
    pub nothing_is : 0 < i → (shift < i → i ≤ shift + k → ⊥) → pos 0 ≡ entry i (moved plus)
    nothing_is h o = sym (moved_outside shift k (guard_row negative plus (row_of k (drop place words))) i h o)

    pub coefficient_is : (x : ℤ) → shift < i → i ≤ shift + k → x ≡ signed negative (word words (place + constant_words + (i - shift - 1))) → x ≡ entry i (moved plus)
    coefficient_is x h l e =
        let f : suc (i - shift - 1) ≡ i - shift = omega arith in
        e ∙ sym (moved_inside shift k (guard_row negative plus (row_of k (drop place words))) i h l
        ∙ guard_coefficient negative (row_of k (drop place words)) plus (i - shift) (omega arith) ∙ ap (signed negative) (rw f at (entry_coefficient k place (i - shift - 1) words (omega arith))))
