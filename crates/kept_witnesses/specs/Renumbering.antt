-- A witness renumbered where it stands, by its first word: 0 is a contradiction's, and all stays; a larger number is a target's, and gets the new one;
-- a word below 0 is a split's, whose two witnesses are renumbered one after the other, behind its row.
use Rattle.std.specs.Prelude.{◌≡◌, refl, Bool, ℕ, suc, ◌+◌, ◌*◌, ◌-◌, ◌≤◌, ◌<◌, ℤ, set}
use Rattle.std.proofs.Math.Path.{sym, ap}
use Rattle.std.proofs.Common.{◌∙◌, add-zero, add-one, length-set, get_or-drop, drop-drop, drop-set-lt}
use mathlib.Core.List.{List, ◌∷◌, ◌++◌, map, append_assoc}
use Rattle.std.proofs.Math.Option.{some}
use native.Mathlib.Omega.{arith}
use Rattle.std.proofs.Math.IntN.{pos, negsuc}
use Rattle.std.proofs.Math.ListN.{length, drop, get_elem?, length-append, length-map}
use Rattle.std.proofs.Math.Seq.{sets, drop_at}
use Rattle.basics.proofs.Integers.{ints}
use Rattle.basics.proofs.Stores.{sets_append}
use Rattle.rows.specs.Rows.{Row}
use Rattle.words.specs.Words.{word}
use Rattle.words.specs.RowWords.{row_size}
use Rattle.words.specs.RowCode.{row_code}
use Rattle.certificates.specs.Certificate.{Disjunct}
use Rattle.certificates.specs.Witnesses.{Witness, contradiction, target, split, encode_shares, encode}
use Rattle.reading.specs.Reading.{natural}
use Rattle.std.specs.Prelude.{None}
use Rattle.trimming.specs.KeptMembers.{new_number}
use Rattle.trimming.specs.Trimmed.{renumbered}
use Rattle.witness_walks.specs.WalkSteps.{below_zero}
use Rattle.kept_witnesses.specs.StoredOver.{spelled_inside, sets_same, drop_sets}
use Rattle.kept_witnesses.specs.SizedWitnesses.{SizedAt, Sized, sized_target, sized_split, length_renumbered, BeginsAt, Stands, RenumberedAt}

pub encoded_one : (x : Witness) → 1 ≤ length (encode x)
unfolding encode
encoded_one (contradiction ms) = omega arith
encoded_one (target j xs) = omega arith
encoded_one (split r w v) = omega arith

module _ (words : List ℤ) (at : ℕ) where
  first_word : (z : ℤ) (more : List ℤ) → drop at words ≡ z ∷ more → word words at ≡ z
  first_word z more e = ap (λ (i : ℕ). word words i) (sym (add-zero at)) ∙ (sym (get_or-drop at words 0 (pos 0)) ∙ ap (λ (l : List ℤ). word l 0) e)

  next_words : (z : ℤ) (more : List ℤ) → drop at words ≡ z ∷ more → drop (at + 1) words ≡ more
  next_words z more e = sym (drop-drop 1 at words) ∙ ap (drop 1) e

  -- the word there changed, before the others that stay
  first_changed : (z y : ℤ) (xs rest : List ℤ) → drop at words ≡ (z ∷ xs) ++ rest → at + suc (length xs) ≤ length words → set words at y ≡ sets words at (y ∷ xs)
  first_changed z y xs rest e h =
      let s : at + 1 ≡ suc at = omega arith in
      sym (sets_same (set words at y) (suc at) xs rest (drop-set-lt (suc at) words at y (omega arith) ∙ (ap (λ (i : ℕ). drop i words) (sym s) ∙ next_words z (xs ++ rest) e)) (omega (arith, length-set words at y)))

-- a leaf is one however many splits are left
leaf_begins : (d d' columns n j : ℕ) (ts : List Disjunct) (words : List ℤ) (at : ℕ) (x : Witness) (rest : List ℤ) → word words at ≡ pos j → BeginsAt d columns n ts words at x rest → BeginsAt d' columns n ts words at x rest
unfolding encode Sized
leaf_begins d d' columns n j ts words at (contradiction ms) rest e b = record { sized = b.sized; spelled = b.spelled }
leaf_begins d d' columns n j ts words at (target i xs) rest e b = record { sized = b.sized; spelled = b.spelled }
leaf_begins d d' columns n j ts words at (split r w v) rest e b =
    absurd (omega (arith, ints, e, first_word words at (negsuc 0) ((row_code r ++ (encode w ++ encode v)) ++ rest) b.spelled))

module _ (d columns n j : ℕ) (ts : List Disjunct) (words : List ℤ) (at : ℕ) (number : word words at ≡ pos j) where
  pub leaf_stands : Stands d columns n ts words at → Stands 0 columns n ts words at
  leaf_stands s = record { witness = s.witness; rest = s.rest; begins = leaf_begins d 0 columns n j ts words at s.witness s.rest number s.begins }

  pub leaf_renumbered : (f : ℕ → Bool) (r : ℕ) (after : List ℤ) → RenumberedAt f 0 columns n ts words at r after → RenumberedAt f d columns n ts words at r after
  leaf_renumbered f r after h =
      record {
        next = λ x rest b. h.next x rest (leaf_begins d 0 columns n j ts words at x rest number b);
        stored = λ x rest b. h.stored x rest (leaf_begins d 0 columns n j ts words at x rest number b);
      }

module _ (d columns n : ℕ) (ts : List Disjunct) (words : List ℤ) (at : ℕ) where
  abbrev Here : Witness → List ℤ → Type 0
  Here x rest = BeginsAt d columns n ts words at x rest

  pub inside : (x : Witness) (rest : List ℤ) → Here x rest → at + length (encode x) ≤ length words
  inside x rest b = spelled_inside words at (encode x) rest (encoded_one x) b.spelled

  pub stands_inside : Stands d columns n ts words at → at < length words
  stands_inside s = omega (arith, inside s.witness s.rest s.begins, encoded_one s.witness)

  -- ---- a leaf

  pub leaf_inside : (i : ℕ) (x : Witness) (rest : List ℤ) → word words at ≡ pos (suc i) → Here x rest → i < length ts
  unfolding encode Sized
  leaf_inside i (contradiction ms) rest e b = absurd (omega (arith, ints, e, first_word words at (pos 0) (map pos ms ++ rest) b.spelled))
  leaf_inside i (target j xs) rest e b =
      let q : i ≡ j = omega (arith, ints, e, first_word words at (pos (suc j)) (encode_shares xs ++ rest) b.spelled) in
      rw q (sized_target n ts j xs b.sized)
  leaf_inside i (split r w v) rest e b = absurd (omega (arith, ints, e, first_word words at (negsuc 0) ((row_code r ++ (encode w ++ encode v)) ++ rest) b.spelled))

  module _ (f : ℕ → Bool) where
    pub leaf_none : (x : Witness) (rest : List ℤ) → word words at ≡ pos 0 → Here x rest → (at + 1 + n ≡ at + length (encode x)) × (words ≡ sets words at (encode (renumbered f x)))
    unfolding encode renumbered Sized
    leaf_none (contradiction ms) rest e b =
        (omega (arith, length-map ms pos, b.sized), sym (sets_same words at (pos 0 ∷ map pos ms) rest b.spelled (inside (contradiction ms) rest b)))
    leaf_none (target j xs) rest e b = absurd (omega (arith, ints, e, first_word words at (pos (suc j)) (encode_shares xs ++ rest) b.spelled))
    leaf_none (split r w v) rest e b = absurd (omega (arith, ints, e, first_word words at (negsuc 0) ((row_code r ++ (encode w ++ encode v)) ++ rest) b.spelled))

    pub leaf_target : (i : ℕ) (t : Disjunct) (x : Witness) (rest : List ℤ) → word words at ≡ pos (suc i) → get_elem? ts i ≡ some t → Here x rest
        → (at + 1 + length t * (1 + n) ≡ at + length (encode x)) × (set words at (pos (suc (new_number f i))) ≡ sets words at (encode (renumbered f x)))
    unfolding encode renumbered Sized SizedAt
    leaf_target i t (contradiction ms) rest e g b = absurd (omega (arith, ints, e, first_word words at (pos 0) (map pos ms ++ rest) b.spelled))
    leaf_target i t (target j xs) rest e g b =
        let q : j ≡ i = omega (arith, ints, e, first_word words at (pos (suc j)) (encode_shares xs ++ rest) b.spelled) in
        let s : SizedAt n (some t) xs = rw (q, g) at b.sized in
        (omega (arith, s), rw q (first_changed words at (pos (suc j)) (pos (suc (new_number f i))) (encode_shares xs) rest b.spelled (inside (target j xs) rest b)))
    leaf_target i t (split r w v) rest e g b = absurd (omega (arith, ints, e, first_word words at (negsuc 0) ((row_code r ++ (encode w ++ encode v)) ++ rest) b.spelled))

    pub contradiction_stays : (j : ℕ) → j ≡ 0 → word words at ≡ pos j → RenumberedAt f d columns n ts words at (at + 1 + n) words
    contradiction_stays j z e =
        let q : word words at ≡ pos 0 = e ∙ ap pos z in
        record { next = λ x rest b. (leaf_none x rest q b).0; stored = λ x rest b. (leaf_none x rest q b).1 }

    pub target_renumbered : (i : ℕ) (t : Disjunct) → word words at ≡ pos (suc i) → get_elem? ts i ≡ some t
        → RenumberedAt f d columns n ts words at (at + 1 + length t * (1 + n)) (set words at (pos (new_number f i + 1)))
    target_renumbered i t e g =
        rw (add-one (new_number f i)) (record { next = λ x rest b. (leaf_target i t x rest e g b).0; stored = λ x rest b. (leaf_target i t x rest e g b).1 })

  -- ---- a split

  -- where its first witness begins
  abbrev begin : ℕ
  begin = at + 1 + row_size columns

  -- its row and its two witnesses
  pub record SplitHere (x : Witness) (rest : List ℤ) : Type 0 where
    pub row : Row
    pub one : Witness
    pub other : Witness
    pub is : x ≡ split row one other
    pub some_left : 1 ≤ d
    pub long : length (row_code row) ≡ row_size columns
    pub front : drop at words ≡ (negsuc 0 ∷ row_code row) ++ (encode one ++ (encode other ++ rest))
    pub first : BeginsAt (d - 1) columns (n + 1) ts words begin one (encode other ++ rest)
    pub second : Sized (d - 1) columns (n + 1) ts other

  pub split_here : (x : Witness) (rest : List ℤ) → natural (word words at) ≡ None → Here x rest → SplitHere x rest
  unfolding encode
  split_here (contradiction ms) rest e b = absurd (omega (arith, ints, (below_zero (word words at) e).1, first_word words at (pos 0) (map pos ms ++ rest) b.spelled))
  split_here (target j xs) rest e b = absurd (omega (arith, ints, (below_zero (word words at) e).1, first_word words at (pos (suc j)) (encode_shares xs ++ rest) b.spelled))
  split_here (split r w v) rest e b =
      let (left, (long, (one, other))) = sized_split d columns n ts r w v b.sized in
      let front : drop at words ≡ (negsuc 0 ∷ row_code r) ++ (encode w ++ (encode v ++ rest)) = b.spelled ∙ ap (λ (l : List ℤ). negsuc 0 ∷ l) (append_assoc (row_code r) (encode w ++ encode v) rest ∙ ap (λ (l : List ℤ). row_code r ++ l) (append_assoc (encode w) (encode v) rest)) in
      let behind : at + (1 + row_size columns) ≡ begin = omega arith in
      record {
        row = r;
        one = w;
        other = v;
        is = refl;
        some_left = left;
        long = long;
        front = front;
        first =
            record {
              sized = one;
              spelled =
                  ap (λ (i : ℕ). drop i words) (sym behind)
                  ∙ (sym (drop-drop (1 + row_size columns) at words) ∙ (ap (drop (1 + row_size columns)) front ∙ drop_at (negsuc 0 ∷ row_code r) (encode w ++ (encode v ++ rest)) (1 + row_size columns) (omega arith)));
            };
        second = other;
      }

  module _ (f : ℕ → Bool) (mid : List ℤ) (r : ℕ) (done : RenumberedAt f (d - 1) columns (n + 1) ts words begin r mid) where
    -- the second witness stands behind the first, as before
    second_here : (x : Witness) (rest : List ℤ) (s : SplitHere x rest) → BeginsAt (d - 1) columns (n + 1) ts mid r s.other rest
    second_here x rest s =
        let place : r ≡ begin + length (encode s.one) = done.next s.one (encode s.other ++ rest) s.first in
        record {
          sized = s.second;
          spelled =
              ap (drop r) (done.stored s.one (encode s.other ++ rest) s.first)
              ∙ (drop_sets (encode (renumbered f s.one)) words begin r (omega (arith, length_renumbered f s.one))
              ∙ (ap (λ (i : ℕ). drop i words) place
              ∙ (sym (drop-drop (length (encode s.one)) begin words) ∙ (ap (drop (length (encode s.one))) s.first.spelled ∙ drop_at (encode s.one) (encode s.other ++ rest) (length (encode s.one)) refl))));
        }

    pub second_stands : {x : Witness} {rest : List ℤ} → SplitHere x rest → Stands (d - 1) columns (n + 1) ts mid r
    second_stands {x} {rest} s = record { witness = s.other; rest = rest; begins = second_here x rest s }

    module _ (after : List ℤ) (end : ℕ) (both : RenumberedAt f (d - 1) columns (n + 1) ts mid r end after) where
      split_next : (x : Witness) (rest : List ℤ) → SplitHere x rest → end ≡ at + length (encode x)
      unfolding encode
      split_next x rest s =
          omega (
            arith,
            ap (λ (y : Witness). length (encode y)) s.is,
            length-append (row_code s.row) (encode s.one ++ encode s.other),
            length-append (encode s.one) (encode s.other),
            s.long,
            done.next s.one (encode s.other ++ rest) s.first,
            both.next s.other rest (second_here x rest s),
          )

      split_stored : (x : Witness) (rest : List ℤ) → SplitHere x rest → Here x rest → after ≡ sets words at (encode (renumbered f x))
      unfolding encode renumbered
      split_stored x rest s b =
          let front = negsuc 0 ∷ row_code s.row in
          let one = encode (renumbered f s.one) in
          let other = encode (renumbered f s.other) in
          let long : at + length front ≡ begin = omega (arith, s.long) in
          let fits : at + length front ≤ length words = omega (arith, inside x rest b, split_next x rest s, done.next s.one (encode s.other ++ rest) s.first, both.next s.other rest (second_here x rest s)) in
          let place : r ≡ begin + length one = omega (arith, done.next s.one (encode s.other ++ rest) s.first, length_renumbered f s.one) in
          both.stored s.other rest (second_here x rest s)
          ∙ (ap (λ (l : List ℤ). sets l r other) (done.stored s.one (encode s.other ++ rest) s.first)
          ∙ (ap (λ (i : ℕ). sets (sets words begin one) i other) place
          ∙ (sets_append one other words begin
          ∙ (ap (λ (i : ℕ). sets words i (one ++ other)) (sym long)
          ∙ (ap (λ (l : List ℤ). sets l (at + length front) (one ++ other)) (sym (sets_same words at front (encode s.one ++ (encode s.other ++ rest)) s.front fits))
          ∙ (sets_append front (one ++ other) words at ∙ ap (λ (y : Witness). sets words at (encode (renumbered f y))) (sym s.is)))))))

      pub split_renumbered : natural (word words at) ≡ None → RenumberedAt f d columns n ts words at end after
      split_renumbered e =
          record { next = λ x rest b. split_next x rest (split_here x rest e b); stored = λ x rest b. split_stored x rest (split_here x rest e b) b }
