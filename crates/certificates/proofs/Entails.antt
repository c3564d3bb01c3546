-- THE ENTAILMENT FACT: a witness that works, at any whole-number state that meets the premises, gives a target disjunct that holds at the
-- image of the state. One argument serves all kinds of entailments, by recursion over the witness: a whole-number state is on one side of each
-- split's row.
use Rattle.std.specs.Prelude.{◌≡◌, refl, ℕ, zero, suc, Bool, true, false, T, length, ℤ, pos, neg_ℤ, ◌≤ℤ◌, ◌<ℤ◌}
use Rattle.std.proofs.Common.{sym, subst, arith}
use Rattle.std.proofs.Math.Option.{Option, none, some}
use mathlib.Core.List.{List, [], ◌∷◌, Memᴰ}
use Rattle.std.proofs.Math.ListN.{get_elem?}
use Rattle.std.specs.Int.Signed.{le_z, le_z_yes}
use Rattle.basics.proofs.Booleans.{parts, and_l, and_r, holds}
use Rattle.basics.specs.Integers.{sum}
use Rattle.basics.proofs.Integers.{ints, negation, nle_z→lt}
use Rattle.basics.proofs.Lists.{member_at}
use Rattle.rows.specs.Rows.{Row, value, values, Holds, nil, cons, substitute, substitute_all}
use Rattle.rows.proofs.Values.{substituted_holds, holds_append}
use Rattle.rows.proofs.WeightedSum.{refutes_sound, yields_sound}
use Rattle.words.specs.Limits.{most_splits}
use Rattle.certificates.specs.Certificate.{Disjunct, Meets}
use Rattle.certificates.proofs.GuardLaws.{value_plus_one, value_negated}
use Rattle.certificates.specs.Entailments.{Entailment}
use Rattle.certificates.specs.Witnesses.{Share, Witness, contradiction, target, split, under, other_side, shaped_tree, shaped, shaped_at, shaped_shares, fits, fits_at, fit_shares, works, all_work, all_work_by, fit_shares_by, fits_by, fits_at_by, works_by}

module _ (n : ℕ) (premises : List Row) where
  -- the rows of a target with the image put in; the shape is told by the rows as they stand
  all_hold : (image rs : List Row) (xs : List Share) {s : List ℤ} → T (shaped_shares n rs xs) → T (fit_shares premises (substitute_all image rs) xs) → Holds s premises → Holds s (substitute_all image rs)
  unfolding shaped_shares fit_shares_by substitute_all
  all_hold image [] [] sh t h = nil
  all_hold image [] (_ ∷ _) sh t h = absurd t
  all_hold image (r ∷ rs) [] sh t h = absurd t
  all_hold image (r ∷ rs) (x ∷ xs) sh t h =
      cons (yields_sound x.divisor x.multipliers premises (substitute image r) (search parts) h) (all_hold image rs xs (search parts) (search parts) h)

-- a whole number is at most 0, or its opposite plus 1 is
either_side : {X : Type 0} (r : Row) (s : List ℤ) → (value r s ≤ℤ pos 0 → X) → (value (other_side r) s ≤ℤ pos 0 → X) → X
unfolding other_side
either_side {X} r s f g = go (le_z (value r s) (pos 0)) refl
  where
    go : (b : Bool) → le_z (value r s) (pos 0) ≡ b → X
    go true q = f (le_z_yes (holds q))
    go false q = let h : pos 0 <ℤ value r s = nle_z→lt (value r s) (pos 0) (rw q tt) in g (rw (value_plus_one, value_negated) (omega (arith, ints, sum (neg_ℤ (value r s)) (pos 1), negation (value r s))))

at_target : (e : Entailment) {s u : List ℤ} → values e.image s ≡ u → Holds s e.premises → (j : ℕ) (xs : List Share) (o : Option Disjunct) → get_elem? e.targets j ≡ o
    → T (shaped_at (length e.premises) o xs) → T (fits_at e o xs) → Meets e.targets u
unfolding Meets
at_target e v h j xs none q sh t = absurd (unfold shaped_at in sh)
at_target e v h j xs (some d) q sh t =
    (d, member_at e.targets j q, substituted_holds e.image d v (all_hold (length e.premises) e.premises e.image d xs (unfold shaped_at in sh) (unfold fits_at_by in t) h))

-- a split's state is on one of its two sides
tree_entails : (d : ℕ) (e : Entailment) (w : Witness) {s u : List ℤ} → T (shaped_tree d e w) → T (fits e w) → values e.image s ≡ u → Holds s e.premises → Meets e.targets u
unfolding shaped_tree fits_by under
tree_entails d e (contradiction ms) sh t v h = absurd (refutes_sound ms e.premises t h)
tree_entails d e (target j xs) sh t v h = at_target e v h j xs (get_elem? e.targets j) refl sh t
tree_entails zero e (split r w x) sh t v h = absurd sh
tree_entails (suc d) e (split r w x) {s} sh t v h =
    either_side r s (λ k. tree_entails d (under r e) w (search parts) (search parts) v (holds_append h (cons k nil)))
    (λ k. tree_entails d (under (other_side r) e) x (search parts) (search parts) v (holds_append h (cons k nil)))

-- "an accepted tree means that every whole-number state meeting the premises meets some disjunct of the target"
pub entails : (e : Entailment) (w : Witness) {s t : List ℤ} → T (works e w) → values e.image s ≡ t → Holds s e.premises → Meets e.targets t
unfolding works_by shaped
entails e w wk v h = tree_entails most_splits e w (and_l (shaped e w) (fits e w) wk) (and_r (shaped e w) (fits e w) wk) v h

-- each entailment of a list with witnesses that work has one
worked : (es : List Entailment) (ws : List Witness) {e : Entailment} → T (all_work es ws) → Memᴰ e es → (w : Witness) × T (works e w)
unfolding all_work_by
worked [] [] t m = elim m [ ]
worked [] (_ ∷ _) t m = absurd t
worked (_ ∷ _) [] t m = absurd t
worked (e ∷ es) (w ∷ ws) t (Memᴰ.head q) = (w, subst (λ x. T (works x w)) (sym q) (search parts))
worked (e ∷ es) (w ∷ ws) t (Memᴰ.tail m) = worked es ws (search parts) m

pub all_entail : (es : List Entailment) (ws : List Witness) → T (all_work es ws) → (e : Entailment) {s t : List ℤ} → Memᴰ e es → values e.image s ≡ t → Holds s e.premises → Meets e.targets t
all_entail es ws a e m v h = let x = worked es ws a m in entails e x.0 x.1 v h
