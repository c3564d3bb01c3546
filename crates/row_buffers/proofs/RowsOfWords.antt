-- Rows of words, as rows: the parts and the entries of the one at a place, and its sizes where its form holds. None is wider than its columns.
use Rattle.std.specs.Prelude.{◌≡◌, List, [], ◌∷◌, ℕ, zero, suc, ◌+◌, ◌*◌, ◌≤◌, ◌<◌, ℤ, pos, nat_abs, get_or, take, drop}
use Rattle.std.proofs.Common.{ap, ◌∙◌, arith, leb→le, length-take, get_or-take, get_or-drop, drop-drop}
use Rattle.rows.specs.Rows.{Row}
use Rattle.words.specs.Limits.{constant_limit, coefficient_limit}
use Rattle.words.specs.Words.{word, small}
use Rattle.words.specs.RowWords.{constant_words, constant_at, row_size, row_of, rows_of}
use Rattle.words.proofs.RowLaws.{constant_dropped}
use Rattle.words.specs.RowForm.{RowForm}
use Rattle.words.specs.RowLimits as limits
use Rattle.words.specs.RowLimits.{AllWithin, RowWithin, RowsWithin}
use Rattle.words.specs.Ranges as ranges
use Rattle.words.proofs.Ranges as ranges_laws
use Rattle.numbers.specs.Small.{Small}
use Rattle.row_buffers.specs.AllRows.{AllRows, none, one}
use Rattle.row_buffers.proofs.AllRows.{all_by}
use Rattle.row_buffers.specs.Entries.{entry}
use Rattle.row_buffers.specs.Spread.{NarrowRow}
use Rattle.row_buffers.specs.EntryLimits.{weight_limit, LimitedRow}
use Rattle.row_buffers.specs.FlatRows.{Narrow}

-- ---- parts

pub constant_at_lem : (m from : ℕ) (words : List ℤ) → (row_of m (drop from words)).constant ≡ constant_at words from
unfolding row_of
constant_at_lem m from words = constant_dropped from words

pub coefficients_at : (m from : ℕ) (words : List ℤ) → (row_of m (drop from words)).coefficients ≡ take m (drop (from + constant_words) words)
unfolding row_of
coefficients_at m from words = ap (take m) (drop-drop constant_words from words)

pub entry_constant : (m from : ℕ) (words : List ℤ) → entry 0 (row_of m (drop from words)) ≡ constant_at words from
unfolding entry
entry_constant m from words = constant_at_lem m from words

pub entry_coefficient : (m from i : ℕ) (words : List ℤ) → i < m → entry (suc i) (row_of m (drop from words)) ≡ word words (from + constant_words + i)
unfolding entry
entry_coefficient m from i words h =
    ap (λ (l : List ℤ). get_or l i (pos 0)) (coefficients_at m from words)
    ∙ get_or-take m (drop (from + constant_words) words) i (pos 0) h ∙ get_or-drop (from + constant_words) words i (pos 0)

-- ---- rows one after the other

pub all_rows : {P : Row → Type 0} (columns n : ℕ) (words : List ℤ) → ((j : ℕ) → j < n → P (row_of columns (drop (j * row_size columns) words))) → AllRows P (rows_of columns n words)
unfolding rows_of
all_rows columns = all_by (row_size columns) (row_of columns)

pub narrow_row : (columns : ℕ) (words : List ℤ) → NarrowRow columns (row_of columns words)
unfolding row_of
narrow_row columns words = omega (arith, length-take columns (drop constant_words words))

pub narrow_rows : (columns n : ℕ) (words : List ℤ) → Narrow columns (rows_of columns n words)
narrow_rows columns n words = all_rows {P = NarrowRow columns} columns n words (λ j h. narrow_row columns (drop (j * row_size columns) words))

-- ---- sizes

pub size : (limit : ℕ) (z : ℤ) → ranges.Small limit z → nat_abs z ≤ limit
unfolding small
size limit z h = leb→le (nat_abs z) limit ((ranges_laws.small_between limit z).1 h)

pub small_each : (b m : ℕ) (l : List ℤ) → ((i : ℕ) → i < m → nat_abs (get_or l i (pos 0)) ≤ b) → Small b (take m l)
unfolding Small
small_each b zero l h = tt
small_each b (suc m) [] h = tt
small_each b (suc m) (x ∷ l) h = (h 0 (omega arith), small_each b m l (λ i k. h (suc i) (omega arith)))

module _ {words : List ℤ} {from m : ℕ} (form : RowForm words from m) where
  pub form_constant : nat_abs (constant_at words from) ≤ constant_limit
  form_constant = size constant_limit (constant_at words from) form.constant

  pub form_limited : LimitedRow (row_of m (drop from words))
  form_limited =
      record {
        constant = rw (constant_at_lem m from words) form_constant;
        coefficients =
            rw (coefficients_at m from words)
            (small_each weight_limit m (drop (from + constant_words) words) (λ i h. rw get_or-drop (size coefficient_limit (word words (from + constant_words + i)) (form.coefficients i h))));
      }

-- ---- rows within their limits, of either form

within_small : (l : List ℤ) → AllWithin coefficient_limit l → Small weight_limit l
unfolding Small
within_small [] h = tt
within_small (x ∷ l) h = (size coefficient_limit x (h 0), within_small l (λ i. h (suc i)))

pub within_limited : {m : ℕ} {r : Row} → RowWithin m r → LimitedRow r
within_limited {r = r} h = record { constant = size constant_limit r.constant h.constant; coefficients = within_small r.coefficients h.coefficients }

pub all_limited : {m : ℕ} {rs : List Row} → RowsWithin m rs → AllRows LimitedRow rs
all_limited limits.none = none
all_limited (limits.one h hs) = one (within_limited h) (all_limited hs)

within_narrow : {m : ℕ} {r : Row} → RowWithin m r → NarrowRow m r
within_narrow h = omega (arith, h.wide)

pub all_narrow : {m : ℕ} {rs : List Row} → RowsWithin m rs → Narrow m rs
all_narrow limits.none = none
all_narrow (limits.one h hs) = one (within_narrow h) (all_narrow hs)
