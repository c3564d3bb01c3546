-- A row put behind the rows of a buffer, entry by entry, and rows of words so copied in turn: what stands before stays, so part is added to
-- part.
use mathlib.Core.Path.{◌≡◌, refl, sym, ap, ◌∙◌}
use mathlib.Core.List.{List, [], ◌∷◌, ◌++◌}
use Prim.Native.Nat.{ℕ, ◌+◌, ◌*◌, ◌≤◌, ◌<◌}
use native.Mathlib.Nat.{zero-add, suc-mul, suc-add, mul-le-mul_right}
use native.Mathlib.Omega.{arith}
use lib.IntN.{ℤ}
use lib.ListN.{length, take, drop, set, length-drop, take-append-drop}
use lib.Seq.{drop-drop, length-take-le}
use Rattle.rows.specs.Rows.{Row}
use Rattle.words.specs.declared.StoredForm.{StoredForm}
use Rattle.words.specs.StoredRows.{rows_in, rows_take, row_in}
use Rattle.words.proofs.StoredRows.{length_in, no_rows_in, more_in}
use Rattle.row_buffers.specs.HeldRows.{stride}
use Rattle.row_buffers.specs.Entries.{entry}
use Rattle.row_buffers.specs.Spread.{spread}
use Rattle.row_buffers.proofs.Spread.{spread_store}
use Rattle.row_buffers.specs.FlatRows.{flat_rows, pushed}
use Rattle.row_buffers.proofs.FlatRows.{pushed_flat}

-- ---- the first i entries of a row, behind n rows

abbrev pub pushed_part : ℕ → ℕ → ℕ → Row → List ℤ → List ℤ
pushed_part columns n i r l = take (n * stride columns) l ++ (spread i r ++ drop i (drop (n * stride columns) l))

set_behind : (xs ys : List ℤ) (i : ℕ) (x : ℤ) → set (xs ++ ys) (length xs + i) x ≡ xs ++ set ys i x
set_behind [] ys i x = rw zero-add
set_behind (y ∷ xs) ys i x = rw suc-add (ap (λ (l : List ℤ). y ∷ l) (set_behind xs ys i x))

module _ (columns n : ℕ) (r : Row) (l : List ℤ) where
  pub part_none : l ≡ pushed_part columns n 0 r l
  unfolding spread
  part_none = sym (take-append-drop (n * stride columns) l)

  pub part_more : (i : ℕ) (u : List ℤ) (x : ℤ) → n * stride columns + i < length l → u ≡ pushed_part columns n i r l → x ≡ entry i r
      → set u (n * stride columns + i) x ≡ pushed_part columns n (i + 1) r l
  part_more i u x h e f =
      let before = take (n * stride columns) l in
      let behind = drop (n * stride columns) l in
      let k : length before ≡ n * stride columns = length-take-le (n * stride columns) l (omega arith) in
      rw e
      (rw k at (set_behind before (spread i r ++ drop i behind) i x)
      ∙ ap (λ (m : List ℤ). before ++ m) (spread_store r i behind (spread i r ++ drop i behind) x (omega (arith, length-drop (n * stride columns) l)) refl f))

-- ---- rows of words, in turn

module _ (form : StoredForm) (columns m : ℕ) (l t : List ℤ) where
  pub copied_none : t ≡ flat_rows columns (rows_in form m 0 l) ++ drop (0 * stride columns) t
  unfolding flat_rows
  copied_none = let e : 0 * stride columns ≡ 0 = omega arith in rw (e, no_rows_in form m l)

  copied_more : (j : ℕ) (u : List ℤ) → u ≡ flat_rows columns (rows_in form m j l) ++ drop (j * stride columns) t
      → pushed columns j (row_in form m (drop (rows_take form m j l) l)) u ≡ flat_rows columns (rows_in form m (j + 1) l) ++ drop ((j + 1) * stride columns) t
  copied_more j u e =
      let f : j * stride columns + stride columns ≡ (j + 1) * stride columns = omega arith in
      ap (pushed columns j (row_in form m (drop (rows_take form m j l) l))) e
      ∙ (rw (length_in form m j l, drop-drop (stride columns) (j * stride columns) t, f, ← more_in form m j l) at (pushed_flat columns (rows_in form m j l) (row_in form m (drop (rows_take form m j l) l)) (drop (j * stride columns) t)))

pub copied_next : (form : StoredForm) (columns m from j : ℕ) (rows t u v : List ℤ) → u ≡ flat_rows columns (rows_in form m j (drop from rows)) ++ drop (j * stride columns) t
    → v ≡ pushed columns j (row_in form m (drop (from + rows_take form m j (drop from rows)) rows)) u → v ≡ flat_rows columns (rows_in form m (j + 1) (drop from rows)) ++ drop ((j + 1) * stride columns) t
copied_next form columns m from j rows t u v e f = f ∙ (rw (drop-drop (rows_take form m j (drop from rows)) from rows) at (copied_more form columns m (drop from rows) t j u e))

-- ---- row j of so many lies within the places of all, whatever a row takes

pub next_inside : (size : ℕ) {j count : ℕ} → j < count → j * size + size ≤ count * size
next_inside size {j} {count} h = omega (arith, mul-le-mul_right size h, suc-mul j size)
