-- A row as it stands in a buffer: its first entries, one after the other. Read again it is alike, if no coefficient is left out.
use Rattle.std.specs.Prelude.{◌≡◌, refl, Bool, true, false, List, [], ◌∷◌, ◌++◌, ℕ, zero, suc, ◌+◌, ◌-◌, ◌≤◌, ◌<◌, ltb, ℤ, pos, length, get_or, take, drop, set, replicate}
use Rattle.std.proofs.Common.{sym, ap, ap₂, ◌∙◌, append_assoc, append-nil, le_refl, add-one, arith, ltb-true, ltb-false, length-append, length-take, take-append-drop, get_or-take, get_or-drop, drop_at, drop-cons, take-suc}
use Rattle.std.proofs.Math.ListN.{get_or-eq_default}
use Rattle.std.proofs.lemmas.List.{get_or_at, set_at, length-replicate, replicate_more}
use Rattle.std.proofs.lemmas.List.Edits.{paste_all}
use Rattle.std.proofs.lemmas.Slice.{put_mid-paste}
use borrow.Rule.Slice.PartMut.{put_mid}
use Rattle.rows.specs.Rows.{Row, constant_row}
use Rattle.row_buffers.specs.HeldRows.{stride, held_row}
use Rattle.row_buffers.specs.Entries.{entry, Alike}
use Rattle.row_buffers.proofs.Entries.{entry_zero}
use Rattle.row_buffers.specs.Spread.{NarrowRow, spread, written}

pub length_spread : (n : ℕ) (r : Row) → length (spread n r) ≡ n
unfolding spread
length_spread zero r = refl
length_spread (suc n) r = let h = length_spread n r in length-append (spread n r) (entry n r ∷ []) ∙ omega arith

pub spread_same : (n : ℕ) (r s : Row) → ((i : ℕ) → i < n → entry i r ≡ entry i s) → spread n r ≡ spread n s
unfolding spread
spread_same zero r s h = refl
spread_same (suc n) r s h = ap₂ (λ (l : List ℤ) (x : ℤ). l ++ (x ∷ [])) (spread_same n r s (λ i k. h i (omega arith))) (h n (omega arith))

pub spread_alike : (n : ℕ) {r s : Row} → Alike r s → spread n r ≡ spread n s
spread_alike n {r} {s} h = spread_same n r s (λ i k. h.same i)

-- what stands behind a row that was written
pub behind_spread : (n : ℕ) (r : Row) (rest : List ℤ) → drop n (spread n r ++ rest) ≡ rest
behind_spread n r rest = drop_at (spread n r) rest n (length_spread n r)

-- ---- one entry more, stored

pub spread_none : (r : Row) (t : List ℤ) → t ≡ spread 0 r ++ drop 0 t
unfolding spread
spread_none r t = refl

pub spread_store : (r : Row) (i : ℕ) (t u : List ℤ) (x : ℤ) → i < length t → u ≡ spread i r ++ drop i t → x ≡ entry i r → set u i x ≡ spread (i + 1) r ++ drop (i + 1) t
unfolding spread
spread_store r i t u x h e f =
    rw (e, add-one i, f, drop-cons t i (pos 0) h, set_at (spread i r) (get_or t i (pos 0)) (drop (suc i) t) (entry i r) i (length_spread i r))
    (sym (append_assoc (spread i r) (entry i r ∷ []) (drop (suc i) t)))

-- ---- a row that was written, read again

spread_last : (n i : ℕ) (r : Row) (rest : List ℤ) (b : Bool) → ltb i n ≡ b → i < suc n → (i < n → get_or (spread n r ++ entry n r ∷ rest) i (pos 0) ≡ entry i r)
    → get_or (spread n r ++ entry n r ∷ rest) i (pos 0) ≡ entry i r
spread_last n i r rest true p h ih = ih (ltb-true i n p)
spread_last n i r rest false p h ih =
    let e : n ≡ i = omega (arith, ltb-false i n p) in
    get_or_at (spread n r) (entry n r) rest (pos 0) i (length_spread n r ∙ e) ∙ ap (λ (k : ℕ). entry k r) e

pub spread_at : (n i : ℕ) (r : Row) (rest : List ℤ) → i < n → get_or (spread n r ++ rest) i (pos 0) ≡ entry i r
unfolding spread
spread_at zero i r rest h = absurd (omega arith)
spread_at (suc n) i r rest h = rw (append_assoc (spread n r) (entry n r ∷ []) rest) (spread_last n i r rest (ltb i n) refl h (λ q. spread_at n i r (entry n r ∷ rest) q))

pub entry_held : (columns i : ℕ) (l : List ℤ) → i ≤ columns → entry i (held_row columns l) ≡ get_or l i (pos 0)
unfolding entry held_row
entry_held columns zero l h = refl
entry_held columns (suc i) l h =
    let e : 1 + i ≡ suc i = omega arith in
    get_or-take columns (drop 1 l) i (pos 0) (omega arith) ∙ get_or-drop 1 l i (pos 0) ∙ ap (λ (p : ℕ). get_or l p (pos 0)) e

pub narrow_held : (columns : ℕ) (l : List ℤ) → NarrowRow columns (held_row columns l)
unfolding held_row
narrow_held columns l = omega (arith, length-take columns (drop 1 l))

pub narrow_entry : (columns i : ℕ) (r : Row) → NarrowRow columns r → columns < i → entry i r ≡ pos 0
unfolding entry
narrow_entry columns zero r h k = absurd (omega arith)
narrow_entry columns (suc i) r h k = get_or-eq_default r.coefficients (pos 0) (omega arith)

pub stored_alike : (columns : ℕ) (r : Row) (rest : List ℤ) → NarrowRow columns r → Alike (held_row columns (spread (stride columns) r ++ rest)) r
stored_alike columns r rest h = record { same = λ i. go i (ltb columns i) refl }
  where
    l : List ℤ
    l = spread (stride columns) r ++ rest

    go : (i : ℕ) (b : Bool) → ltb columns i ≡ b → entry i (held_row columns l) ≡ entry i r
    go i true p = narrow_entry columns i (held_row columns l) (narrow_held columns l) (ltb-true columns i p) ∙ sym (narrow_entry columns i r h (ltb-true columns i p))
    go i false p =
        let k : i ≤ columns = omega (arith, ltb-false columns i p) in
        entry_held columns i l k ∙ spread_at (stride columns) i r rest (omega arith)

pub written_alike : (columns : ℕ) (r : Row) (t u : List ℤ) → NarrowRow columns r → t ≡ written columns r u → Alike (held_row columns t) r
written_alike columns r t u h e = rw e (stored_alike columns r (drop (stride columns) u) h)

-- ---- a buffer is its own row, written

spread_take : (columns n : ℕ) (t : List ℤ) → n ≤ stride columns → n ≤ length t → spread n (held_row columns t) ≡ take n t
unfolding spread
spread_take columns zero t h k = refl
spread_take columns (suc n) t h k =
    ap₂ (λ (l : List ℤ) (x : ℤ). l ++ (x ∷ [])) (spread_take columns n t (omega arith) (omega arith)) (entry_held columns n t (omega arith)) ∙ sym (take-suc t n (pos 0) (omega arith))

pub spread_self : (columns : ℕ) (t : List ℤ) → columns < length t → t ≡ spread (stride columns) (held_row columns t) ++ drop (stride columns) t
spread_self columns t h = sym (rw (spread_take columns (stride columns) t (le_refl (stride columns)) (omega arith)) (take-append-drop (stride columns) t))

-- ---- zeros, stored together

pub spread_zeros : (n : ℕ) → replicate n (pos 0) ≡ spread n (constant_row (pos 0))
unfolding spread
spread_zeros zero = refl
spread_zeros (suc n) = rw (← spread_zeros n, entry_zero n) (sym (replicate_more n (pos 0) ∙ ap (λ (k : ℕ). replicate k (pos 0)) (add-one n)))

spread_filled : (m d : ℕ) (t : List ℤ) → m < length t → spread (stride m + d) (held_row m t) ≡ take (stride m) t ++ replicate d (pos 0)
unfolding spread
spread_filled m zero t h =
    let e : stride m + 0 ≡ stride m = omega arith in
    rw (e, append-nil (take (stride m) t)) (spread_take m (stride m) t (le_refl (stride m)) (omega arith))
spread_filled m (suc d) t h =
    let e : stride m + suc d ≡ suc (stride m + d) = omega arith in
    rw (e, spread_filled m d t h, narrow_entry m (stride m + d) (held_row m t) (narrow_held m t) (omega arith), append_assoc (take (stride m) t) (replicate d (pos 0)) (pos 0 ∷ []))
    (ap (λ (l : List ℤ). take (stride m) t ++ l) (replicate_more d (pos 0) ∙ ap (λ (k : ℕ). replicate k (pos 0)) (add-one d)))

-- zeros behind a row of m columns
pub filled_up : (m columns : ℕ) (t ys : List ℤ) → m ≤ columns → columns < length t → ys ≡ replicate (stride columns - stride m) (pos 0)
    → put_mid (stride m) (stride columns - stride m) t ys ≡ written columns (held_row m t) t
filled_up m columns t ys h k e =
    let d = stride columns - stride m in
    let long : stride m + d ≡ stride columns = omega arith in
    put_mid-paste (stride m) d t ys (replicate d (pos 0)) d e refl (sym (length-replicate d (pos 0)))
    ∙ paste_all t (stride m) (replicate d (pos 0)) d (sym (length-replicate d (pos 0)))
    ∙ sym (append_assoc (take (stride m) t) (replicate d (pos 0)) (drop (stride m + d) t))
    ∙ ap (λ (l : List ℤ). l ++ drop (stride m + d) t) (sym (spread_filled m d t (omega arith)))
    ∙ ap (λ (k : ℕ). spread k (held_row m t) ++ drop k t) long
