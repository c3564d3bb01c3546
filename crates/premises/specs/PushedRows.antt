-- Rows put behind those of a buffer, one after the other: the buffer then holds the rows before and these, because each is put behind all before
-- it.
use Rattle.std.specs.Prelude.{◌≡◌, ℤ}
use Rattle.std.proofs.Math.Path.{refl, ap}
use Rattle.std.proofs.Common.{sym, ◌∙◌, add-zero, length-append}
use mathlib.Core.List.{List, [], ◌∷◌, ◌++◌, append_assoc, append-nil}
use Prim.Native.Nat.{ℕ, suc, ◌+◌, ◌*◌, ◌≤◌}
use Rattle.std.proofs.Math.Nat.{suc-mul}
use native.Mathlib.Omega.{arith}
use Rattle.std.proofs.Math.ListN.{length, drop}
use Rattle.std.proofs.Math.Seq.{drop-drop}
use Rattle.rows.specs.Rows.{Row, substitute, substitute_all}
use Rattle.rows.proofs.Blocks.{length_substituted, substituted_append}
use Rattle.words.specs.declared.StoredForm.{StoredForm}
use Rattle.words.specs.declared.StoredForm.TheVariants.{Dense, Sparse}
use Rattle.words.specs.RowWords.{constant_words}
use Rattle.words.specs.StoredRows.{rows_in, rows_take, row_in, row_takes}
use Rattle.words.proofs.StoredRows.{length_in, no_rows_in, more_in}
use Rattle.row_buffers.specs.HeldRows.{stride}
use Rattle.row_buffers.specs.FlatRows.{flat_rows, pushed}
use Rattle.row_buffers.proofs.FlatRows.{pushed_flat}

-- rows put behind the first n
unfoldable pub pushed_rows : ℕ → ℕ → List Row → List ℤ → List ℤ
pushed_rows columns n [] l = l
pushed_rows columns n (r ∷ rs) l = pushed_rows columns (n + 1) rs (pushed columns n r l)

module _ (columns : ℕ) where
  pub pushed_rows_flat : (ps rs : List Row) (rest : List ℤ) (n : ℕ) → length ps ≡ n
      → pushed_rows columns n rs (flat_rows columns ps ++ rest) ≡ flat_rows columns (ps ++ rs) ++ drop (length rs * stride columns) rest
  unfolding pushed_rows
  pushed_rows_flat ps [] rest n h = let e : 0 * stride columns ≡ 0 = omega arith in rw (append-nil ps, e)
  pushed_rows_flat ps (r ∷ rs) rest n h =
      let e : stride columns + length rs * stride columns ≡ suc (length rs) * stride columns = omega (arith, suc-mul (length rs) (stride columns)) in
      let f : pushed columns n r (flat_rows columns ps ++ rest) ≡ flat_rows columns (ps ++ r ∷ []) ++ drop (stride columns) rest = rw h at (pushed_flat columns ps r rest) in
      rw (
        f,
        pushed_rows_flat (ps ++ r ∷ []) rs (drop (stride columns) rest) (n + 1) (length-append ps (r ∷ []) ∙ ap (λ (m : ℕ). m + 1) h),
        append_assoc ps (r ∷ []) rs,
        drop-drop (length rs * stride columns) (stride columns) rest,
        e,
      )

-- a row of either form has a constant
pub takes_some : (form : StoredForm) (m : ℕ) (l : List ℤ) → constant_words ≤ row_takes form m l
takes_some Dense m l = omega arith
takes_some Sparse m l = omega arith

-- ---- one row more, as a loop pushes them

pushed_more : (columns n : ℕ) (rs : List Row) (r : Row) (l : List ℤ) → pushed_rows columns n (rs ++ r ∷ []) l ≡ pushed columns (n + length rs) r (pushed_rows columns n rs l)
unfolding pushed_rows
pushed_more columns n [] r l = rw add-zero
pushed_more columns n (x ∷ rs) r l =
    let e : n + 1 + length rs ≡ n + suc (length rs) = omega arith in
    rw e at (pushed_more columns (n + 1) rs r (pushed columns n x l))

-- rows of words, with an image put in
module _ (form : StoredForm) (columns n m from : ℕ) (image : List Row) (rows t : List ℤ) where
  abbrev pub pushed_from : ℕ → List ℤ
  pushed_from i = pushed_rows columns n (substitute_all image (rows_in form m i (drop from rows))) t

  pub pushed_none : t ≡ pushed_from 0
  unfolding pushed_rows substitute_all
  pushed_none = rw (no_rows_in form m (drop from rows)) refl

  substituted_more : (i : ℕ)
      → substitute_all image (rows_in form m (i + 1) (drop from rows)) ≡ substitute_all image (rows_in form m i (drop from rows)) ++ substitute image (row_in form m (drop (from + rows_take form m i (drop from rows)) rows)) ∷ []
  unfolding substitute_all
  substituted_more i =
      rw (more_in form m i (drop from rows), drop-drop (rows_take form m i (drop from rows)) from rows) (substituted_append image (rows_in form m i (drop from rows)) (row_in form m (drop (from + rows_take form m i (drop from rows)) rows) ∷ []))

  pub pushed_next : (i : ℕ) (u v : List ℤ) → u ≡ pushed_from i → v ≡ pushed columns (n + i) (substitute image (row_in form m (drop (from + rows_take form m i (drop from rows)) rows))) u → v ≡ pushed_from (i + 1)
  pushed_next i u v e f =
      let before = substitute_all image (rows_in form m i (drop from rows)) in
      let l : length before ≡ i = length_substituted image (rows_in form m i (drop from rows)) ∙ length_in form m i (drop from rows) in
      let r = substitute image (row_in form m (drop (from + rows_take form m i (drop from rows)) rows)) in
      f ∙ ap (pushed columns (n + i) r) e ∙ sym (rw l at (ap (λ (rs : List Row). pushed_rows columns n rs t) (substituted_more i) ∙ pushed_more columns n before r t))
