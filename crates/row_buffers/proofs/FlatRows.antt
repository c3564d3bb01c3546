-- Rows in a buffer, one after the other, each spread over as many places as a row takes. Read again they are alike, if none is wider.
use Rattle.std.specs.Prelude.{◌≡◌, refl, List, [], ◌∷◌, ◌++◌, ℕ, zero, suc, ◌*◌, ◌≤◌, ℤ, length, drop}
use Rattle.std.proofs.Common.{sym, ap, ◌∙◌, append_assoc, append-nil, zero-le, suc-mul, arith, length-append, take_at, drop_at}
use Rattle.rows.specs.Rows.{Row, plus, scaled, constant_row, add, scale, combine, substitute}
use Rattle.words.specs.RowWords.{rows_by}
use Rattle.row_buffers.specs.AllRows.{none, one}
use Rattle.row_buffers.specs.HeldRows.{stride, held_rows}
use Rattle.row_buffers.proofs.HeldRows.{all_held}
use Rattle.row_buffers.specs.Entries.{AllAlike, nil, cons}
use Rattle.row_buffers.specs.EntryLimits.{SmallRows}
use Rattle.row_buffers.proofs.EntryLimits.{rows_alike}
use Rattle.row_buffers.specs.Spread.{spread, NarrowRow}
use Rattle.row_buffers.proofs.Spread.{length_spread, behind_spread, narrow_held, stored_alike}
use Rattle.row_buffers.specs.FlatRows.{Buffered, Narrow, flat_rows, pushed}

-- ---- rows read from a buffer

pub rows_flat : (columns : ℕ) (rs : List Row) (rest : List ℤ) → Narrow columns rs → AllAlike (held_rows columns (length rs) (flat_rows columns rs ++ rest)) rs
unfolding rows_by held_rows flat_rows
rows_flat columns [] rest none = nil
rows_flat columns (r ∷ rs) rest (one h hs) =
    rw (append_assoc (spread (stride columns) r) (flat_rows columns rs) rest, behind_spread (stride columns) r (flat_rows columns rs ++ rest))
    (cons (stored_alike columns r (flat_rows columns rs ++ rest) h) (rows_flat columns rs rest hs))

pub length_flat : (columns : ℕ) (rs : List Row) → length (flat_rows columns rs) ≡ length rs * stride columns
unfolding flat_rows
length_flat columns [] = omega arith
length_flat columns (r ∷ rs) =
    let h = length_flat columns rs in
    length-append (spread (stride columns) r) (flat_rows columns rs) ∙ omega (arith, length_spread (stride columns) r, suc-mul (length rs) (stride columns))

pub small_flat : {b : ℕ} (columns : ℕ) (rs : List Row) (rest : List ℤ) → Narrow columns rs → SmallRows b rs → SmallRows b (held_rows columns (length rs) (flat_rows columns rs ++ rest))
small_flat columns rs rest h k = rows_alike (rows_flat columns rs rest h) k

-- ---- one row more

flat_snoc : (columns : ℕ) (rs : List Row) (r : Row) → flat_rows columns (rs ++ r ∷ []) ≡ flat_rows columns rs ++ spread (stride columns) r
unfolding flat_rows
flat_snoc columns [] r = append-nil (spread (stride columns) r)
flat_snoc columns (x ∷ rs) r =
    ap (λ (l : List ℤ). spread (stride columns) x ++ l) (flat_snoc columns rs r) ∙ sym (append_assoc (spread (stride columns) x) (flat_rows columns rs) (spread (stride columns) r))

pub pushed_flat : (columns : ℕ) (rs : List Row) (r : Row) (rest : List ℤ)
    → pushed columns (length rs) r (flat_rows columns rs ++ rest) ≡ flat_rows columns (rs ++ r ∷ []) ++ drop (stride columns) rest
unfolding pushed
pushed_flat columns rs r rest =
    rw (take_at (flat_rows columns rs) rest (length rs * stride columns) (length_flat columns rs), drop_at (flat_rows columns rs) rest (length rs * stride columns) (length_flat columns rs), flat_snoc columns rs r)
    (sym (append_assoc (flat_rows columns rs) (spread (stride columns) r) (drop (stride columns) rest)))

-- ---- rows that are narrow

length_plus : (n : ℕ) (xs ys : List ℤ) → length xs ≤ n → length ys ≤ n → length (plus xs ys) ≤ n
unfolding plus
length_plus n [] ys h k = k
length_plus n (x ∷ xs) [] h k = h
length_plus zero (x ∷ xs) (y ∷ ys) h k = absurd (omega arith)
length_plus (suc n) (x ∷ xs) (y ∷ ys) h k = let r : length (plus xs ys) ≤ n = length_plus n xs ys (omega arith) (omega arith) in omega arith

pub length_scaled : (m : ℤ) (xs : List ℤ) → length (scaled m xs) ≡ length xs
unfolding scaled
length_scaled m [] = refl
length_scaled m (x ∷ xs) = ap suc (length_scaled m xs)

pub narrow_add : {columns : ℕ} (r s : Row) → NarrowRow columns r → NarrowRow columns s → NarrowRow columns (add r s)
unfolding add
narrow_add {columns} r s h k = length_plus columns r.coefficients s.coefficients h k

narrow_scale : {columns : ℕ} (m : ℤ) (r : Row) → NarrowRow columns r → NarrowRow columns (scale m r)
unfolding scale
narrow_scale m r h = rw length_scaled h

pub narrow_combine : {columns : ℕ} (ws : List ℤ) {rs : List Row} → Narrow columns rs → NarrowRow columns (combine ws rs)
unfolding combine constant_row
narrow_combine [] h = zero-le
narrow_combine (w ∷ ws) none = zero-le
narrow_combine (w ∷ ws) (one {r} {rs} h hs) = narrow_add (scale w r) (combine ws rs) (narrow_scale w r h) (narrow_combine ws hs)

pub narrow_substitute : {columns : ℕ} {image : List Row} (r : Row) → Narrow columns image → NarrowRow columns (substitute image r)
unfolding substitute constant_row add plus
narrow_substitute r h = narrow_combine r.coefficients h

pub narrow_held_rows : (columns n : ℕ) (l : List ℤ) → Narrow columns (held_rows columns n l)
narrow_held_rows columns n l = all_held {P = NarrowRow columns} columns n l (λ j h. narrow_held columns (drop (j * stride columns) l))

module _ {columns : ℕ} {rs : List Row} {n : ℕ} {buffer : List ℤ} (b : Buffered columns rs n buffer) where
  pub buffered_alike : AllAlike (held_rows columns n buffer) rs
  buffered_alike = rw (b.count, b.is) (rows_flat columns rs b.rest b.narrow)

  pub buffered_small : {k : ℕ} → SmallRows k rs → SmallRows k (held_rows columns n buffer)
  buffered_small h = rw (b.count, b.is) (small_flat columns rs b.rest b.narrow h)

  pub buffered_inside : n * stride columns ≤ length buffer
  buffered_inside = rw (b.count, b.is, length-append, length_flat) (omega arith)
