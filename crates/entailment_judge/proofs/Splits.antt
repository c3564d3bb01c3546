-- A split, by each way through the code: its row is read, each of its two witnesses is judged for one premise more, and both decide as the split
-- does, because each goes on where the words before it end.
use mathlib.Core.Path.{◌≡◌, refl, sym, ap, ap₂, ◌∙◌, subst}
use mathlib.Core.Bool.{Bool, true, false, ◌&&◌}
use mathlib.Core.List.{List, [], ◌∷◌, ◌++◌}
use Prim.Native.Nat.{ℕ, zero, suc, ◌+◌, ◌-◌, ◌≤◌, ◌<◌}
use native.Mathlib.Nat.{mul-le-mul_right, le_trans}
use native.Mathlib.Omega.{arith}
use lib.Dec.{T}
use lib.IntN.{ℤ, pos, negsuc}
use lib.ListN.{length, take, drop, length-drop}
use lib.Seq.{take_at, drop-drop}
use Rattle.std.specs.Prelude.{Some, None}
use Rattle.rows.specs.Rows.{Row}
use Rattle.words.specs.RowWords.{row_size, row_of}
use Rattle.words.proofs.RowLaws.{more_by}
use Rattle.certificates.specs.Entailments as certificates
use Rattle.certificates.specs.Witnesses.{under, other_side, shaped_row}
use Rattle.certificates.specs.Judgement.{Read, got, missing, and_then, read_row}
use Rattle.row_buffers.specs.AllRows.{none, one}
use Rattle.row_buffers.proofs.AllRows.{all_append}
use Rattle.row_buffers.specs.HeldRows.{stride, held_row, held_rows}
use Rattle.row_buffers.proofs.HeldRows.{length_held}
use Rattle.row_buffers.specs.EntryLimits.{Capacity}
use Rattle.row_buffers.proofs.EntryLimits.{small_weaken}
use Rattle.row_buffers.specs.FlatRows.{pushed}
use Rattle.entailment_judge.specs.Buffers.{Premises, held}
use Rattle.entailment_judge.specs.Judging.{judged_tree, judged_no_row, judged_split}
use Rattle.entailment_judge.specs.Sides.{splits_at, side_of, read_row_lem, pushed_held, side_small, side_width}
use Rattle.entailment_judge.specs.WordsLeft.{Leaves, judged_leaves, left_at}
use Rattle.entailment_judge.specs.Answers.{after_of, leaf_of}
use Rattle.entailment_judge.specs.declared.Leaf.{Leaf}
use Rattle.entailment_judge.proofs.Words.{next_at, none_after, not_whole}

-- ---- the row of a split

pub record SplitRow (columns : ℕ) (w : List ℤ) (at next : ℕ) : Type 0 where
  pub read : read_row columns (drop at w) ≡ got (row_of columns (drop at w)) (drop next w)
  pub shaped : T (shaped_row columns (row_of columns (drop at w)))
  pub inside : at + row_size columns ≤ length w
  pub ends : next ≤ length w

pub split_row : (columns : ℕ) (w : List ℤ) (at next : ℕ) → at ≤ length w → after_of w (read_row columns (drop at w)) ≡ Some next → SplitRow columns w at next
split_row columns w at next there h = go (read_row columns (drop at w)) refl h
  where
    go : (x : Read Row) → read_row columns (drop at w) ≡ x → after_of w x ≡ Some next → SplitRow columns w at next
    go (got r rest) q g =
        let k = read_row_lem columns (drop at w) q in
        let e : rest ≡ drop (at + row_size columns) w = k.3 ∙ drop-drop (row_size columns) at w in
        let l : at + row_size columns ≤ length w = omega (arith, k.2, length-drop at w) in
        let z : next ≡ length w - length rest = cc in
        let p : next ≡ at + row_size columns = z ∙ ap (λ (i : List ℤ). length w - length i) e ∙ next_at w (at + row_size columns) l in
        record { read = q ∙ ap₂ (λ (s : Row) (i : List ℤ). got s i) k.0 (e ∙ ap (λ (i : ℕ). drop i w) (sym p)); shaped = subst (λ (s : Row). T (shaped_row columns s)) k.0 k.1; inside = l; ends = omega arith }
    go missing q g = absurd (let z : ◌≡◌ {A = ℕ} 0 1 = cc in omega arith)

-- ---- one premise more in the buffer

module _ (columns n : ℕ) where
  -- rows that are the same have the same first n
  pub rows_fewer : (l : List ℤ) (rs : List Row) (r : Row) → length rs ≡ n → held_rows columns (n + 1) l ≡ rs ++ (r ∷ []) → held_rows columns n l ≡ rs
  unfolding held_rows
  rows_fewer l rs r k h =
      let x = more_by (stride columns) (held_row columns) n l in
      sym (take_at (held_rows columns n l) _ n (length_held columns n l)) ∙ ap (take n) (sym x ∙ h) ∙ take_at rs (r ∷ []) n k

  module _ (d places : ℕ) (o : 1 ≤ d) (c : Capacity columns (n + d) places) where
    pub one_more : Capacity columns (n + 1) places
    one_more =
        let k : n + 1 ≤ n + d = omega arith in
        record { narrow = c.narrow; few = omega (arith, c.few); inside = le_trans (mul-le-mul_right (stride columns) k) c.inside }

    pub one_less_left : Capacity columns (n + 1 + (d - 1)) places
    one_less_left = let k : n + d ≡ n + 1 + (d - 1) = omega arith in subst (λ (i : ℕ). Capacity columns i places) k c

-- the first n rows of b, and this row behind them
abbrev pub More : ℕ → ℕ → List ℤ → Row → List ℤ → Type 0
More columns n b r c = held_rows columns (n + 1) c ≡ held_rows columns n b ++ (r ∷ [])

module _ (columns n : ℕ) (b : List ℤ) where
  pub more_kept : (r : Row) (c : List ℤ) → More columns n b r c → held_rows columns n c ≡ held_rows columns n b
  more_kept r c h = rows_fewer columns n c (held_rows columns n b) r (length_held columns n b) h

  module _ (other : Bool) (r : Row) (t : T (shaped_row columns r)) where
    pub side_pushed : (l c : List ℤ) → held_rows columns n l ≡ held_rows columns n b → Capacity columns (n + 1) (length l) → c ≡ pushed columns n (side_of other r) l → More columns n b (side_of other r) c
    side_pushed l c k i e =
        ap (held_rows columns (n + 1)) e ∙ pushed_held columns n (side_of other r) l (side_width columns other r t) i ∙ ap (λ (rs : List Row). rs ++ (side_of other r ∷ [])) k

    pub side_premises : (c : List ℤ) → Premises columns n b → Capacity columns (n + 1) (length c) → More columns n b (side_of other r) c → Premises columns (n + 1) c
    side_premises c p i h = record { capacity = i; small = rw h (all_append p.small (one (small_weaken (omega arith) (side_small columns other r t)) none)) }

-- ---- the split as the judgement has it

-- what was read ends where the answer says
pub whole_read : (d : ℕ) (e : certificates.Entailment) (w : List ℤ) (at : ℕ) → at ≤ length w → (leaf : Leaf) → Some leaf ≡ leaf_of w (judged_tree d e (drop at w))
    → (judged_tree d e (drop at w) ≡ got leaf.fits (drop leaf.next w)) × (leaf.next ≤ length w)
whole_read d e w at there leaf h = go (judged_tree d e (drop at w)) (judged_leaves d e (drop at w)) h
  where
    go : (x : Read Bool) → Leaves (drop at w) x → Some leaf ≡ leaf_of w x → (x ≡ got leaf.fits (drop leaf.next w)) × (leaf.next ≤ length w)
    go (got b rest) l q =
        let k : record { fits = b; next = length w - length rest } ≡ leaf = cc in
        let y : b ≡ leaf.fits = ap (λ (x : Leaf). x.fits) k in
        let z : length w - length rest ≡ leaf.next = ap (λ (x : Leaf). x.next) k in
        (ap₂ (λ (c : Bool) (i : List ℤ). got c i) y (left_at w at there l ∙ ap (λ (i : ℕ). drop i w) z), omega arith)
    go missing l q = absurd (let z : ◌≡◌ {A = ℕ} 0 1 = cc in omega arith)

-- the first word is −1
begins : (w : List ℤ) (at : ℕ) (ws : List ℤ) → drop at w ≡ ws → splits_at ws ≡ true → (drop at w ≡ negsuc 0 ∷ drop (at + 1) w) × (at < length w)
unfolding splits_at
begins w at [] q s = absurd (let z : ◌≡◌ {A = ℕ} 0 1 = cc in omega arith)
begins w at (pos n ∷ ws) q s = absurd (let z : ◌≡◌ {A = ℕ} 0 1 = cc in omega arith)
begins w at (negsuc zero ∷ ws) q s = (q ∙ ap (λ (l : List ℤ). negsuc 0 ∷ l) (ap (drop 1) (sym q) ∙ drop-drop 1 at w), omega (arith, ap length q, length-drop at w))
begins w at (negsuc (suc n) ∷ ws) q s = absurd (let z : ◌≡◌ {A = ℕ} 0 1 = cc in omega arith)

module _ (w : List ℤ) (at : ℕ) (s : splits_at (drop at w) ≡ true) where
  pub split_inside : at < length w
  split_inside = (begins w at (drop at w) refl s).1

  split_words : drop at w ≡ negsuc 0 ∷ drop (at + 1) w
  split_words = (begins w at (drop at w) refl s).0

  module _ (e : certificates.Entailment) (n : ℕ) (b : List ℤ) (d : ℕ) (o : 1 ≤ d) where
    as_split : judged_tree d (held e n b) (drop at w) ≡ judged_tree (suc (d - 1)) (held e n b) (negsuc 0 ∷ drop (at + 1) w)
    as_split = ap₂ (λ (k : ℕ) (l : List ℤ). judged_tree k (held e n b) l) (omega arith) split_words

    pub split_no_row : after_of w (read_row e.columns (drop (at + 1) w)) ≡ None → None ≡ leaf_of w (judged_tree d (held e n b) (drop at w))
    split_no_row h = rw (as_split, judged_no_row (d - 1) (held e n b) (drop (at + 1) w) (none_after w (read_row e.columns (drop (at + 1) w)) h))

    module _ {first : ℕ} (r : SplitRow e.columns w (at + 1) first) where
      abbrev row : Row
      row = row_of e.columns (drop (at + 1) w)

      below : (x : Row) (c : List ℤ) (p : ℕ) → More e.columns n b x c → judged_tree (d - 1) (held e (n + 1) c) (drop p w) ≡ judged_tree (d - 1) (under x (held e n b)) (drop p w)
      unfolding under
      below x c p h = ap (λ (ps : List Row). judged_tree (d - 1) (record { columns = e.columns; premises = ps; image = e.image; targets = e.targets }) (drop p w)) h

      both : judged_tree d (held e n b) (drop at w)
          ≡ and_then (judged_tree (d - 1) (under row (held e n b)) (drop first w)) (λ one left. and_then (judged_tree (d - 1) (under (other_side row) (held e n b)) left) (λ other last. got (one && other) last))
      both = as_split ∙ judged_split (d - 1) (held e n b) (drop (at + 1) w) r.read

      -- the first witness
      module _ (c : List ℤ) (h : More e.columns n b (side_of false row) c) where
        pub first_missing : None ≡ leaf_of w (judged_tree (d - 1) (held e (n + 1) c) (drop first w)) → None ≡ leaf_of w (judged_tree d (held e n b) (drop at w))
        unfolding side_of and_then
        first_missing q = rw (both, ← below row c first h, not_whole w (judged_tree (d - 1) (held e (n + 1) c) (drop first w)) q)

        module _ (one : Leaf) (q : Some one ≡ leaf_of w (judged_tree (d - 1) (held e (n + 1) c) (drop first w))) where
          pub second_inside : one.next ≤ length w
          second_inside = (whole_read (d - 1) (held e (n + 1) c) w first r.ends one q).1

          after_first : judged_tree d (held e n b) (drop at w) ≡ and_then (judged_tree (d - 1) (under (other_side row) (held e n b)) (drop one.next w)) (λ other last. got (one.fits && other) last)
          unfolding side_of and_then
          after_first = rw (both, ← below row c first h, (whole_read (d - 1) (held e (n + 1) c) w first r.ends one q).0)

          -- and the second
          module _ (f : List ℤ) (k : More e.columns n b (side_of true row) f) where
            pub second_missing : None ≡ leaf_of w (judged_tree (d - 1) (held e (n + 1) f) (drop one.next w)) → None ≡ leaf_of w (judged_tree d (held e n b) (drop at w))
            unfolding side_of and_then
            second_missing g = rw (after_first, ← below (other_side row) f one.next k, not_whole w (judged_tree (d - 1) (held e (n + 1) f) (drop one.next w)) g)

            pub both_whole : (other : Leaf) → Some other ≡ leaf_of w (judged_tree (d - 1) (held e (n + 1) f) (drop one.next w))
                → Some (record { fits = one.fits && other.fits; next = other.next }) ≡ leaf_of w (judged_tree d (held e n b) (drop at w))
            unfolding side_of and_then
            both_whole other g =
                let x = whole_read (d - 1) (held e (n + 1) f) w one.next second_inside other g in
                rw (after_first, ← below (other_side row) f one.next k, x.0, next_at w other.next x.1)
