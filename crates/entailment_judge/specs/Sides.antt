-- Splits of a witness: whether one begins with −1, what is known of a split's row that was read, and the row on each of its sides, put behind
-- the premises of a buffer. Those stay as they are, because the row is put behind them.
use Rattle.std.specs.Prelude.{◌≡◌, refl, Bool, true, false, ℕ, zero, suc, ◌+◌, ◌*◌, ◌≤◌, T, ℤ, pos, negsuc, length, take, drop}
use Rattle.std.proofs.Math.Path.{sym, ap, ap₂}
use Rattle.std.proofs.Common.{◌∙◌, arith, length-take, take-append-drop, length-take-le, drop_at, ext_get_or}
use mathlib.Core.List.{List, [], ◌∷◌, ◌++◌}
use Rattle.std.proofs.Math.ListN.{length-append, length-drop, get_or-append}
use Rattle.std.proofs.lemmas.List.{take-append-le, drop-append-le}
use Rattle.rows.specs.Rows.{Row, scaled, constant_row, add, scale}
use Rattle.words.specs.RowWords.{row_size, row_of, rows_by}
use Rattle.words.proofs.RowLaws.{more_by}
use Rattle.words.specs.RowCode.{row_code}
use Rattle.words.proofs.RowCode.{length_coded, row_coded, rest_coded}
use Rattle.certificates.specs.Guards.{plus_one, negated}
use Rattle.certificates.specs.Witnesses.{other_side, shaped_row}
use Rattle.certificates.proofs.WitnessLengths.{shaped_width}
use Rattle.certificates.specs.Judgement.{got, read_row}
use Rattle.certificates.proofs.WitnessCode.{row_read}
use Rattle.row_buffers.specs.HeldRows.{stride, held_row, held_rows}
use Rattle.row_buffers.specs.Entries.{entry, Alike}
use Rattle.row_buffers.specs.Spread.{spread}
use Rattle.row_buffers.proofs.Spread.{length_spread, stored_alike}
use Rattle.row_buffers.specs.EntryLimits.{Capacity, SmallRow}
use Rattle.row_buffers.proofs.EntryLimits.{limited_small}
use Rattle.row_buffers.specs.FlatRows.{pushed}
use Rattle.row_buffers.proofs.FlatRows.{length_scaled}
use Rattle.row_buffers.proofs.MovedColumns.{plus_none}
use Rattle.entailments.specs.GuardRows.{guard_limit}
use Rattle.entailments.proofs.GuardRows.{small_side, small_other_side}
use Rattle.entailments.proofs.Bounds.{shaped_limited}

-- the witness begins with −1
unfoldable pub splits_at : List ℤ → Bool
splits_at [] = false
splits_at (pos n ∷ ws) = false
splits_at (negsuc zero ∷ ws) = true
splits_at (negsuc (suc n) ∷ ws) = false

-- the row itself, or "−row + 1"
unfoldable pub side_of : Bool → Row → Row
side_of false r = r
side_of true r = other_side r

-- ---- a row that was read

pub read_row_lem : (columns : ℕ) (ws : List ℤ) {r : Row} {rest : List ℤ} → read_row columns ws ≡ got r rest
    → (r ≡ row_of columns ws) × T (shaped_row columns r) × (row_size columns ≤ length ws) × (rest ≡ drop (row_size columns) ws)
read_row_lem columns ws {r} {rest} e =
    let k = row_read columns ws e in
    let h : length r.coefficients ≡ columns = shaped_width columns r k.1 in
    rw k.0 (sym (row_coded columns r h rest), k.1, omega (arith, length_coded columns r h, length-append (row_code r) rest), sym (rest_coded columns r h rest))

-- ---- a row put behind n rows of a buffer

-- a row in front of others
row_front : (columns : ℕ) (p q : List ℤ) → stride columns ≤ length p → held_row columns (p ++ q) ≡ held_row columns p
unfolding held_row
row_front columns p q h =
    ap₂ (λ (c : ℤ) (l : List ℤ). record { constant = c; coefficients = l }) (get_or-append p q (pos 0) 0 (omega arith))
    (ap (take columns) (drop-append-le 1 p q (omega arith)) ∙ take-append-le columns (drop 1 p) q (omega (arith, length-drop 1 p)))

rows_front : (columns n : ℕ) (p q : List ℤ) → n * stride columns ≤ length p → held_rows columns n (p ++ q) ≡ held_rows columns n p
unfolding rows_by held_rows
rows_front columns zero p q h = refl
rows_front columns (suc n) p q h =
    ap₂ (λ (r : Row) (rs : List Row). r ∷ rs) (row_front columns p q (omega arith))
    (ap (held_rows columns n) (drop-append-le (stride columns) p q (omega arith)) ∙ rows_front columns n (drop (stride columns) p) q (omega (arith, length-drop (stride columns) p)))

-- rows of as many coefficients that are alike are the same
alike_same : {r s : Row} → Alike r s → length r.coefficients ≡ length s.coefficients → r ≡ s
unfolding entry
alike_same {r} {s} h k =
    ap₂ (λ (c : ℤ) (l : List ℤ). record { constant = c; coefficients = l }) (h.same 0) (ext_get_or (pos 0) r.coefficients s.coefficients k (λ i b. h.same (suc i)))

-- a row of all columns, read again
stored_same : (columns : ℕ) (r : Row) (rest : List ℤ) → length r.coefficients ≡ columns → held_row columns (spread (stride columns) r ++ rest) ≡ r
unfolding held_row
stored_same columns r rest h = alike_same (stored_alike columns r rest (omega (arith, h))) (width ∙ sym h)
  where
    l : List ℤ
    l = spread (stride columns) r ++ rest

    width : length (held_row columns l).coefficients ≡ columns
    width = length-take columns (drop 1 l) ∙ omega (arith, length-drop 1 l, length-append (spread (stride columns) r) rest, length_spread (stride columns) r)

module _ (columns n : ℕ) (r : Row) (l : List ℤ) (wide : length r.coefficients ≡ columns) (inside : Capacity columns (n + 1) (length l)) where
  abbrev before : List ℤ
  before = take (n * stride columns) l

  abbrev behind : List ℤ
  behind = drop (stride columns) (drop (n * stride columns) l)

  before_length : length before ≡ n * stride columns
  before_length = length-take-le (n * stride columns) l (omega (arith, inside.inside))

  pub pushed_length : length (pushed columns n r l) ≡ length l
  unfolding pushed
  pushed_length =
      length-append before (spread (stride columns) r ++ behind)
      ∙ omega (arith, before_length, inside.inside, length-append (spread (stride columns) r) behind, length_spread (stride columns) r, length-drop (stride columns) (drop (n * stride columns) l), length-drop (n * stride columns) l)

  pub pushed_kept : held_rows columns n (pushed columns n r l) ≡ held_rows columns n l
  unfolding pushed
  pushed_kept =
      rows_front columns n before (spread (stride columns) r ++ behind) (omega (arith, before_length))
      ∙ sym (rw (take-append-drop (n * stride columns) l) at (rows_front columns n before (drop (n * stride columns) l) (omega (arith, before_length))))

  last_row : held_row columns (drop (n * stride columns) (pushed columns n r l)) ≡ r
  unfolding pushed
  last_row = ap (held_row columns) (drop_at before (spread (stride columns) r ++ behind) (n * stride columns) before_length) ∙ stored_same columns r behind wide

  pub pushed_held : held_rows columns (n + 1) (pushed columns n r l) ≡ held_rows columns n l ++ (r ∷ [])
  unfolding held_rows
  pushed_held = more_by (stride columns) (held_row columns) n (pushed columns n r l) ∙ ap₂ (λ (rs : List Row) (s : Row). rs ++ (s ∷ [])) pushed_kept last_row

-- ---- the sides of a row within document 01's limits

pub side_small : (columns : ℕ) (other : Bool) (r : Row) → T (shaped_row columns r) → SmallRow guard_limit (side_of other r)
unfolding side_of
side_small columns false r t = small_side (limited_small (shaped_limited columns r t))
side_small columns true r t = small_other_side (limited_small (shaped_limited columns r t))

pub side_width : (columns : ℕ) (other : Bool) (r : Row) → T (shaped_row columns r) → length (side_of other r).coefficients ≡ columns
unfolding side_of other_side plus_one negated add scale constant_row
side_width columns false r t = shaped_width columns r t
side_width columns true r t =
    ap length (plus_none (scaled (negsuc 0) r.coefficients)) ∙ length_scaled (negsuc 0) r.coefficients ∙ shaped_width columns r t
