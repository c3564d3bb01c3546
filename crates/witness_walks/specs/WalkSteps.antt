-- One step of a walk: the words so many on, a leaf by its first word, and a split by those of its two witnesses.
use Rattle.std.specs.Prelude.{◌≡◌, List, [], ◌∷◌, true, false, ℤ, pos, negsuc, length, drop, set}
use Rattle.std.proofs.Math.Path.{refl, sym}
use Rattle.std.proofs.Common.{ap, ap₂, ◌∙◌, length-drop, drop-cons}
use Rattle.std.proofs.Math.Option.{none, some}
use Prim.Native.Nat.{ℕ, zero, suc, ◌+◌, ◌*◌, ◌-◌, ◌≤◌, ◌<◌}
use native.Mathlib.Omega.{arith}
use borrow.Author.Tests.{leb-true, leb-false}
use Rattle.std.proofs.Math.ListN.{get_elem?, drop_of_length-le}
use Rattle.std.proofs.Math.Seq.{drop-length}
use Rattle.words.specs.Words.{word, small}
use Rattle.words.specs.RowWords.{row_size}
use Rattle.certificates.specs.Certificate.{Disjunct}
use Rattle.certificates.specs.CertificateWords.{row_count, disjuncts_end}
use Rattle.certificates.proofs.Entries.{length_disjuncts_of}
use Rattle.certificate_readers.specs.Disjuncts.{chosen}
use Rattle.words.proofs.StoredRows.{length_in}
use Rattle.entailments.specs.declared.Entailment.{Entailment}
use Rattle.trimming.specs.Walks.{Walked, walked_by, walked_target, walked_leaf, walked_both, walked_split, walk}
use Rattle.reading.specs.Reading.{natural}
use Rattle.std.specs.Prelude.{Some, None}
use Rattle.witness_walks.specs.Marks.{Walkable, targets_of, marked, marked_append, MarkedBy}

-- ---- so many words on

pub past_end : (w : List ℤ) (at size : ℕ) → at ≤ length w → length w - at < size → drop (length w) w ≡ drop size (drop at w)
past_end w at size h l =
    let few : length (drop at w) ≤ size = omega (arith, length-drop at w) in
    drop-length w ∙ sym (drop_of_length-le (drop at w) few)

-- ---- a leaf

none_past : (ts : List Disjunct) (i : ℕ) → length ts ≤ i → get_elem? ts i ≡ none
none_past [] i h = refl
none_past (t ∷ ts) zero h = absurd (omega arith)
none_past (t ∷ ts) (suc i) h = none_past ts i (omega arith)

module _ (w : List ℤ) (at n : ℕ) (ts : List Disjunct) (named : List ℕ) (inside : at < length w) where
  abbrev leaf_of : ℕ → Walked
  leaf_of j = walked_leaf n ts (pos j ∷ drop (at + 1) w)

  pub leaf_none : (j r : ℕ) → j ≡ 0 → drop r w ≡ drop n (drop (at + 1) w) → r ≤ length w → MarkedBy w (leaf_of j) r named named
  unfolding walked_leaf marked
  leaf_none zero r e p h = record { left = p; inside = h; flags = refl }
  leaf_none (suc j) r e p h = absurd (omega arith)

  here : (j : ℕ) → word w at ≡ pos j → drop at w ≡ pos j ∷ drop (at + 1) w
  here j q = let e : suc at ≡ at + 1 = omega arith in drop-cons w at (pos 0) inside ∙ rw (q, e)

  pub leaf_far : (j : ℕ) → word w at ≡ pos j → length ts < j → MarkedBy w (leaf_of j) at named named
  unfolding walked_leaf walked_target marked
  leaf_far zero q h = absurd (omega arith)
  leaf_far (suc j) q h = rw (none_past ts j (omega arith)) (record { left = here (suc j) q; inside = omega arith; flags = refl })

  pub leaf_target : (j r : ℕ) {d : Disjunct} → 1 ≤ j → get_elem? ts (j - 1) ≡ some d → drop r w ≡ drop (length d * (1 + n)) (drop (at + 1) w) → r ≤ length w → MarkedBy w (leaf_of j) r named (set named (j - 1) 1)
  unfolding walked_leaf walked_target marked
  leaf_target zero r l g p h = absurd (omega arith)
  leaf_target (suc j) r l g p h = let e : suc j - 1 ≡ j = omega arith in rw (rw e at g) (record { left = p; inside = h; flags = rw e })

pub targets_count : (rows : List ℤ) (e : Entailment) → length (targets_of rows e) ≡ e.count
unfolding targets_of
targets_count rows e = length_disjuncts_of e.form e.width e.count (drop e.place rows)

pub target_here : (rows : List ℤ) (e : Entailment) (j : ℕ) → Walkable rows e → j < e.count
    → (d : Disjunct) × (get_elem? (targets_of rows e) j ≡ some d) × (length d ≡ row_count rows (disjuncts_end e.form rows e.width j e.place))
unfolding targets_of
target_here rows e j t h =
    let at = disjuncts_end e.form rows e.width j e.place in
    (_, (chosen e.form rows e.width e.count e.place j t.targets_form h).is, length_in e.form e.width (row_count rows at) (drop (at + 1) rows))

-- ---- a witness, by its first word

-- a word that is no number is below 0
pub below_zero : (z : ℤ) → natural z ≡ None → (m : ℕ) × (z ≡ negsuc m)
below_zero (pos m) e = absurd (let z : ◌≡◌ {A = ℕ} 0 1 = cc in omega arith)
below_zero (negsuc m) e = (m, refl)

pub a_number : (z : ℤ) (j : ℕ) → natural z ≡ Some j → z ≡ pos j
a_number (pos m) j e = cc
a_number (negsuc m) j e = absurd (let z : ◌≡◌ {A = ℕ} 0 1 = cc in omega arith)

module _ (w : List ℤ) (at columns n : ℕ) (ts : List Disjunct) where
  abbrev walked_at : ℕ → Walked
  walked_at d = walk d columns n ts (drop at w)

  walk_none : (d : ℕ) → walk d columns n ts [] ≡ walked_by [] []
  unfolding walk walked_leaf
  walk_none zero = refl
  walk_none (suc d) = refl

  pub tree_end : (d : ℕ) (named : List ℕ) → length w ≤ at → at ≤ length w → MarkedBy w (walked_at d) at named named
  unfolding marked
  tree_end d named h l = rw (drop_of_length-le w h, walk_none d) (record { left = drop_of_length-le w h; inside = l; flags = refl })

  module _ (inside : at < length w) where
    pub tree_word : (j : ℕ) → natural (word w at) ≡ Some j → word w at ≡ pos j
    tree_word j e = a_number (word w at) j e

    leaf_walk : (d j : ℕ) → walk d columns n ts (pos j ∷ drop (at + 1) w) ≡ walked_leaf n ts (pos j ∷ drop (at + 1) w)
    unfolding walk
    leaf_walk zero j = refl
    leaf_walk (suc d) j = refl

    pub tree_leaf : (d j r : ℕ) {before after : List ℕ} → natural (word w at) ≡ Some j → MarkedBy w (walked_leaf n ts (pos j ∷ drop (at + 1) w)) r before after → MarkedBy w (walked_at d) r before after
    tree_leaf d j r e x = rw (here w at n ts [] inside j (tree_word j e), leaf_walk d j) x

    negative : (m : ℕ) → word w at ≡ negsuc m → drop at w ≡ negsuc m ∷ drop (at + 1) w
    negative m q = let s : suc at ≡ at + 1 = omega arith in drop-cons w at (pos 0) inside ∙ ap₂ (λ (z : ℤ) (i : ℕ). z ∷ drop i w) q s

    stays : (d m : ℕ) (named : List ℕ) → drop at w ≡ negsuc m ∷ drop (at + 1) w → (1 ≤ d → m ≡ 0 → ⊥) → MarkedBy w (walked_at d) at named named
    unfolding walk walked_leaf marked
    stays zero m named q o = rw q (record { left = q; inside = omega arith; flags = refl })
    stays (suc d) zero named q o = absurd (o (omega arith) refl)
    stays (suc d) (suc m) named q o = rw q (record { left = q; inside = omega arith; flags = refl })

    pub tree_bottom : (d : ℕ) (named : List ℕ) → natural (word w at) ≡ None → d ≡ 0 → MarkedBy w (walked_at d) at named named
    tree_bottom d named e z = let x = below_zero (word w at) e in stays d x.0 named (negative x.0 x.1) (λ l. absurd (omega arith))

    -- a number below 0 that is within ±1 is −1
    only_one : (m : ℕ) → small 1 (negsuc m) ≡ true → m ≡ 0
    unfolding small
    only_one m t = omega (arith, leb-true (suc m) 1 t)

    not_one : (m : ℕ) → small 1 (negsuc m) ≡ false → m ≡ 0 → ⊥
    unfolding small
    not_one m t z = omega (arith, leb-false (suc m) 1 t)

    pub tree_other : (d : ℕ) (named : List ℕ) → natural (word w at) ≡ None → small 1 (word w at) ≡ false → MarkedBy w (walked_at d) at named named
    tree_other d named e s =
        let x = below_zero (word w at) e in
        stays d x.0 named (negative x.0 x.1) (λ l. not_one x.0 (sym (ap (small 1) x.1) ∙ s))

    splits : (d m : ℕ) → drop at w ≡ negsuc m ∷ drop (at + 1) w → m ≡ 0 → 1 ≤ d → walked_at d ≡ walked_split (walk (d - 1)) columns n ts (drop (at + 1) w)
    unfolding walk
    splits zero m q z l = absurd (omega arith)
    splits (suc d) zero q z l = let e : suc d - 1 ≡ d = omega arith in rw (q, e)
    splits (suc d) (suc m) q z l = absurd (omega arith)

    -- both witnesses of a split, with one split less left and one premise more
    pub tree_split : (d begin second r : ℕ) {before between after : List ℕ} → natural (word w at) ≡ None → small 1 (word w at) ≡ true → 1 ≤ d
        → drop begin w ≡ drop (row_size columns) (drop (at + 1) w) → MarkedBy w (walk (d - 1) columns (n + 1) ts (drop begin w)) second before between
        → MarkedBy w (walk (d - 1) columns (n + 1) ts (drop second w)) r between after → MarkedBy w (walked_at d) r before after
    unfolding walked_split walked_both
    tree_split d begin second r {before} {between} {after} e s l q x y =
        let m = below_zero (word w at) e in
        rw (splits d m.0 (negative m.0 m.1) (only_one m.0 (sym (ap (small 1) m.1) ∙ s)) l, ← q, ← x.left)
        (record { left = y.left; inside = y.inside; flags = y.flags ∙ (ap (marked (walk (d - 1) columns (n + 1) ts (drop second w)).names) x.flags ∙ sym (marked_append (walk (d - 1) columns (n + 1) ts (drop begin w)).names (walk (d - 1) columns (n + 1) ts (drop second w)).names before)) })
