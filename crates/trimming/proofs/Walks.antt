-- A witness walked and not read: the words left after it, and which targets its leaves name. A leaf's first word tells how many words follow, and of a
-- split nothing but its marks is looked at. After a shaped witness's words that is what follows them, and what it names.
use Rattle.std.specs.Prelude.{◌≡◌, ℕ, zero, suc, ◌+◌, ◌*◌, T, ℤ, length}
use Rattle.std.proofs.Math.Path.{ap}
use Rattle.std.proofs.Math.Option.{Option, none, some}
use mathlib.Core.List.{List, [], ◌∷◌, ◌++◌, map, append_assoc}
use Rattle.std.proofs.Common.{arith}
use Rattle.std.proofs.Math.IntN.{pos}
use Rattle.std.proofs.Math.ListN.{get_elem?, length-append, length-map}
use Rattle.std.proofs.Math.Seq.{drop_at}
use Rattle.basics.proofs.Booleans.{parts}
use Rattle.rows.specs.Rows.{Row}
use Rattle.words.specs.RowWords.{row_size}
use Rattle.words.specs.RowCode.{row_code}
use Rattle.certificates.specs.Certificate.{Disjunct}
use Rattle.certificates.specs.Entailments.{Entailment}
use Rattle.certificates.specs.Witnesses.{Share, Witness, contradiction, target, split, under, other_side, encode_shares, encode, shaped_multipliers, shaped_at, shaped_row, shaped_tree}
use Rattle.certificates.proofs.WitnessLengths.{multipliers_count, shares_length, row_length}
use Rattle.trimming.specs.Kept.{leaf_targets}
use Rattle.trimming.specs.Walks.{Walked, count, walk, walked_both, walked_by, walked_leaf, walked_split, walked_target}

-- ---- what is left, and what is named

module _ (e : Entailment) where
  leaf_contradiction : (ms : List ℕ) (rest : List ℤ) → T (shaped_multipliers (count e) ms) → walked_leaf (count e) e.targets (pos 0 ∷ (map pos ms ++ rest)) ≡ walked_by rest []
  unfolding walked_leaf
  leaf_contradiction ms rest t = ap (λ (l : List ℤ). walked_by l []) (drop_at (map pos ms) rest (count e) (omega (arith, length-map ms pos, multipliers_count (count e) ms t)))

  leaf_target : (j : ℕ) (o : Option Disjunct) (xs : List Share) (rest : List ℤ) → T (shaped_at (count e) o xs) → walked_target (count e) j o (encode_shares xs ++ rest) ≡ walked_by rest (j ∷ [])
  unfolding walked_target shaped_at
  leaf_target j none xs rest t = absurd t
  leaf_target j (some d) xs rest t = ap (λ (l : List ℤ). walked_by l (j ∷ [])) (drop_at (encode_shares xs) rest (length d * (1 + (count e))) (shares_length (count e) d xs t))

  under_count : (r : Row) → length (under r e).premises ≡ (count e) + 1
  unfolding under
  under_count r = length-append e.premises (r ∷ [])

  split_walked : (below : ℕ → ℕ → List Disjunct → List ℤ → Walked) (r : Row) (w v : Witness) (rest : List ℤ) → T (shaped_row e.columns r)
      → below e.columns ((count e) + 1) e.targets (encode w ++ (encode v ++ rest)) ≡ walked_by (encode v ++ rest) (leaf_targets w)
      → below e.columns ((count e) + 1) e.targets (encode v ++ rest) ≡ walked_by rest (leaf_targets v)
      → walked_split below e.columns (count e) e.targets ((row_code r ++ (encode w ++ encode v)) ++ rest) ≡ walked_by rest (leaf_targets w ++ leaf_targets v)
  unfolding walked_split walked_both
  split_walked below r w v rest t p q =
      rw (append_assoc, append_assoc, drop_at (row_code r) (encode w ++ (encode v ++ rest)) (row_size e.columns) (row_length e.columns r t), p, q)

pub walked_tree : (d : ℕ) (e : Entailment) (x : Witness) (rest : List ℤ) → T (shaped_tree d e x) → walk d e.columns (length e.premises) e.targets (encode x ++ rest) ≡ walked_by rest (leaf_targets x)
unfolding walk walked_leaf shaped_tree leaf_targets encode under
walked_tree zero e (contradiction ms) rest t = leaf_contradiction e ms rest t
walked_tree zero e (target j xs) rest t = leaf_target e j (get_elem? e.targets j) xs rest t
walked_tree zero e (split r w v) rest t = absurd t
walked_tree (suc d) e (contradiction ms) rest t = leaf_contradiction e ms rest t
walked_tree (suc d) e (target j xs) rest t = leaf_target e j (get_elem? e.targets j) xs rest t
walked_tree (suc d) e (split r w v) rest t =
    split_walked e (walk d) r w v rest (search parts) (rw (under_count e r) at (walked_tree d (under r e) w (encode v ++ rest) (search parts)))
    (rw (under_count e (other_side r)) at (walked_tree d (under (other_side r) e) v rest (search parts)))
