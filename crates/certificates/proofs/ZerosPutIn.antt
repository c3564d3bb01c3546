-- A multiplier 0 put in, at one index, in each list of multipliers of a witness, those of each leaf of its tree: what works for an entailment works
-- so for the entailment with a premise put in there, whatever premise it is, since no weighted sum changes. Of its words nothing changes but that a 0 is put in for each list.
use Rattle.std.specs.Prelude.{◌≡◌, Bool, leb, ℤ, length}
use Rattle.std.proofs.Math.Path.{ap, subst}
use Rattle.std.proofs.Common.{sym, zero-add, one-add, arith, le→leb}
use Prim.Native.Nat.{ℕ, zero, suc, ◌≤◌}
use Rattle.std.proofs.Math.Option.{Option, none, some}
use mathlib.Core.List.{List, [], ◌∷◌}
use Rattle.std.proofs.Math.Dec.{T}
use Rattle.std.proofs.Math.IntN.{pos}
use Rattle.std.proofs.Math.ListN.{get_elem?, length-append}
use Rattle.basics.proofs.Booleans.{and, parts}
use Rattle.basics.specs.Lists.{put_in, WithCopies, no_copies, kept}
use Rattle.basics.proofs.Lists.{length_put_in, put_in_before, none_put_in, one_put_in, copies_append, copies_map}
use Rattle.rows.specs.Rows.{Row, substitute, substitute_all}
use Rattle.rows.proofs.ZeroPremise.{still_refutes, still_yields}
use Rattle.words.specs.Limits.{most_multiplier, most_splits}
use Rattle.words.specs.RowCode.{row_code}
use Rattle.certificates.specs.Certificate.{Disjunct}
use Rattle.certificates.specs.Entailments.{Entailment}
use Rattle.certificates.proofs.WitnessLengths.{multipliers_count}
use Rattle.certificates.specs.Witnesses.{Share, Witness, contradiction, target, split, under, other_side, encode_shares, encode, shaped_multipliers, shaped_shares, shaped_at, shaped_tree, shaped, fit_shares_by, fits_at_by, fits_by, works_by}
use Rattle.certificates.specs.ZerosPutIn.{lists_in, shares_with_zeros, with_premise, with_zeros}

-- ---- the words: as many zeros more as there are lists, and nothing else changes

shares_copies : (i : ℕ) (xs : List Share) → WithCopies (pos 0) (length xs) (encode_shares xs) (encode_shares (shares_with_zeros i xs))
unfolding encode_shares shares_with_zeros
shares_copies i [] = no_copies
shares_copies i (x ∷ xs) = kept (rw one-add at (copies_append (copies_map pos (one_put_in i x.multipliers)) (shares_copies i xs)))

split_copies : (r : Row) (w v w' v' : Witness) → WithCopies (pos 0) (lists_in w) (encode w) (encode w') → WithCopies (pos 0) (lists_in v) (encode v) (encode v')
    → WithCopies (pos 0) (lists_in (split r w v)) (encode (split r w v)) (encode (split r w' v'))
unfolding encode lists_in
split_copies r w v w' v' h k = kept (rw zero-add at (copies_append (none_put_in (row_code r)) (copies_append h k)))

pub zeros_copies : (i : ℕ) (w : Witness) → WithCopies (pos 0) (lists_in w) (encode w) (encode (with_zeros i w))
unfolding with_zeros
zeros_copies i (contradiction ms) = unfold encode lists_in in kept (copies_map pos (one_put_in i ms))
zeros_copies i (target j xs) = unfold encode lists_in in kept (shares_copies i xs)
zeros_copies i (split r w v) = split_copies r w v _ _ (zeros_copies _ w) (zeros_copies _ v)

-- ---- the shape

more_shaped : (m : ℕ) → m ≤ most_multiplier → (i n : ℕ) (ms : List ℕ) → T (shaped_multipliers n ms) → T (shaped_multipliers (suc n) (put_in i m ms))
unfolding put_in shaped_multipliers
more_shaped m l zero n ms t = and (leb m most_multiplier) (shaped_multipliers n ms) (le→leb m most_multiplier l) t
more_shaped m l (suc i) zero [] t = and (leb m most_multiplier) (shaped_multipliers 0 []) (le→leb m most_multiplier l) t
more_shaped m l (suc i) zero (k ∷ ms) t = absurd t
more_shaped m l (suc i) (suc n) [] t = absurd t
more_shaped m l (suc i) (suc n) (k ∷ ms) t = and (leb k most_multiplier) (shaped_multipliers (suc n) (put_in i m ms)) (search parts) (more_shaped m l i n ms (search parts))

shares_shaped : (i n : ℕ) (rs : List Row) (xs : List Share) → T (shaped_shares n rs xs) → T (shaped_shares (suc n) rs (shares_with_zeros i xs))
unfolding shaped_shares shares_with_zeros
shares_shaped i n [] [] t = tt
shares_shaped i n [] (x ∷ xs) t = absurd t
shares_shaped i n (r ∷ rs) [] t = absurd t
shares_shaped i n (r ∷ rs) (x ∷ xs) t = search (and, parts, more_shaped 0 (omega arith) i n x.multipliers (search parts), shares_shaped i n rs xs (search parts))

at_shaped : (i n : ℕ) (o : Option Disjunct) (xs : List Share) → T (shaped_at n o xs) → T (shaped_at (suc n) o (shares_with_zeros i xs))
unfolding shaped_at
at_shaped i n none xs t = absurd t
at_shaped i n (some d) xs t = shares_shaped i n d xs t

module _ (i : ℕ) (g : Row) where
  -- a split's premise stands behind the one put in
  under_more : (r : Row) (e : Entailment) → i ≤ length e.premises → under r (with_premise i g e) ≡ with_premise i g (under r e)
  unfolding under with_premise
  under_more r e h = ap (λ (l : List Row). record { columns = e.columns; premises = l; image = e.image; targets = e.targets }) (sym (put_in_before i g e.premises (r ∷ []) h))

  under_long : (r : Row) (e : Entailment) → i ≤ length e.premises → i ≤ length (under r e).premises
  unfolding under
  under_long r e h = omega (arith, length-append e.premises (r ∷ []))

  tree_shaped : (d : ℕ) (e : Entailment) (w : Witness) → i ≤ length e.premises → T (shaped_tree d e w) → T (shaped_tree d (with_premise i g e) (with_zeros i w))
  unfolding shaped_tree with_zeros with_premise
  tree_shaped d e (contradiction ms) h t = rw length_put_in (more_shaped _ (omega arith) i (length e.premises) ms t)
  tree_shaped d e (target j xs) h t = rw length_put_in (at_shaped i (length e.premises) (get_elem? e.targets j) xs t)
  tree_shaped zero e (split r w v) h t = absurd t
  tree_shaped (suc d) e (split r w v) h t =
      search (
        and,
        parts,
        subst (λ (x : Entailment). T (shaped_tree d x (with_zeros i w))) (sym (under_more r e h)) (tree_shaped d (under r e) w (under_long r e h) (search parts)),
        subst (λ (x : Entailment). T (shaped_tree d x (with_zeros i v))) (sym (under_more (other_side r) e h)) (tree_shaped d (under (other_side r) e) v (under_long (other_side r) e h) (search parts)),
      )

  -- ---- the sums

  module _ (rule : ℕ → ℤ → ℤ → Bool) where
    -- the shape is told by the rows as they stand
    shares_fit : (premises image rs : List Row) (xs : List Share) → T (shaped_shares (length premises) rs xs) → T (fit_shares_by rule premises (substitute_all image rs) xs)
        → T (fit_shares_by rule (put_in i g premises) (substitute_all image rs) (shares_with_zeros i xs))
    unfolding shaped_shares fit_shares_by substitute_all shares_with_zeros
    shares_fit premises image [] [] s t = tt
    shares_fit premises image [] (x ∷ xs) s t = absurd t
    shares_fit premises image (r ∷ rs) [] s t = absurd t
    shares_fit premises image (r ∷ rs) (x ∷ xs) s t =
        search (
          and,
          still_yields g i x.multipliers premises (multipliers_count (length premises) x.multipliers (search parts)) rule x.divisor (substitute image r) (search parts),
          shares_fit premises image rs xs (search parts) (search parts),
        )

    at_fits : (e : Entailment) (o : Option Disjunct) (xs : List Share) → T (shaped_at (length e.premises) o xs) → T (fits_at_by rule e o xs) → T (fits_at_by rule (with_premise i g e) o (shares_with_zeros i xs))
    unfolding shaped_at fits_at_by with_premise
    at_fits e none xs s t = absurd t
    at_fits e (some d) xs s t = shares_fit e.premises e.image d xs s t

    tree_fits : (d : ℕ) (e : Entailment) (w : Witness) → i ≤ length e.premises → T (shaped_tree d e w) → T (fits_by rule e w) → T (fits_by rule (with_premise i g e) (with_zeros i w))
    unfolding shaped_tree fits_by with_zeros
    tree_fits d e (contradiction ms) h s t = unfold with_premise in still_refutes g i ms e.premises (multipliers_count (length e.premises) ms s) t
    tree_fits d e (target j xs) h s t = unfold with_premise in at_fits e (get_elem? e.targets j) xs s t
    tree_fits zero e (split r w v) h s t = absurd s
    tree_fits (suc d) e (split r w v) h s t =
        search (
          and,
          subst (λ (x : Entailment). T (fits_by rule x (with_zeros i w))) (sym (under_more r e h)) (tree_fits d (under r e) w (under_long r e h) (search parts) (search parts)),
          subst (λ (x : Entailment). T (fits_by rule x (with_zeros i v))) (sym (under_more (other_side r) e h)) (tree_fits d (under (other_side r) e) v (under_long (other_side r) e h) (search parts) (search parts)),
        )

    pub still_works : (e : Entailment) (w : Witness) → i ≤ length e.premises → T (works_by rule e w) → T (works_by rule (with_premise i g e) (with_zeros i w))
    unfolding works_by shaped
    still_works e w h t = search (and, tree_shaped most_splits e w h (search parts), tree_fits most_splits e w h (search parts) (search parts))
