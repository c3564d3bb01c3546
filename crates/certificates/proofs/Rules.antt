-- A rule for the constants of sums that lets in all that another does lets in every witness that works by the other. A witness's divisors are
-- at least 1 by its shape, so the rules need be compared for these alone.
use Rattle.std.specs.Prelude.{Bool, ◌&&◌, T, length, ℤ}
use Prim.Native.Nat.{ℕ, zero, suc, ◌≤◌}
use Rattle.std.proofs.Math.Option.{Option, none, some}
use mathlib.Core.List.{List, [], ◌∷◌, map}
use Rattle.std.proofs.Common.{leb→le}
use Rattle.std.proofs.Math.ListN.{get_elem?}
use Rattle.std.proofs.Math.IntN.{pos}
use Rattle.basics.proofs.Booleans.{and, parts}
use Rattle.rows.specs.Rows.{Row, substitute, substitute_all, combine, scaled, agree, yields_by}
use Rattle.words.specs.Limits.{most_splits}
use Rattle.certificates.specs.Certificate.{Disjunct}
use Rattle.certificates.specs.Entailments.{Entailment}
use Rattle.certificates.specs.Witnesses.{Share, Witness, contradiction, target, split, under, other_side, shaped_shares, shaped_at, shaped_tree, shaped, fit_shares_by, fits_at_by, fits_by, works_by, all_work_by}

module _ (one other : ℕ → ℤ → ℤ → Bool) (more : (d : ℕ) (c k : ℤ) → 1 ≤ d → T (one d c k) → T (other d c k)) where
  yields_more : (d : ℕ) (ms : List ℕ) (premises : List Row) (r : Row) → 1 ≤ d → T (yields_by one d ms premises r) → T (yields_by other d ms premises r)
  unfolding yields_by
  yields_more d ms premises r l t =
      and (agree (combine (map pos ms) premises).coefficients (scaled (pos d) r.coefficients)) (other d r.constant (combine (map pos ms) premises).constant) (search parts)
      (more d r.constant (combine (map pos ms) premises).constant l (search parts))

  -- the shape is told by the rows as they stand
  shares_more : (n : ℕ) (premises image rs : List Row) (xs : List Share) → T (shaped_shares n rs xs) → T (fit_shares_by one premises (substitute_all image rs) xs)
      → T (fit_shares_by other premises (substitute_all image rs) xs)
  unfolding shaped_shares fit_shares_by substitute_all
  shares_more n premises image [] [] sh t = tt
  shares_more n premises image [] (_ ∷ _) sh t = absurd t
  shares_more n premises image (r ∷ rs) [] sh t = absurd t
  shares_more n premises image (r ∷ rs) (x ∷ xs) sh t =
      and (yields_by other x.divisor x.multipliers premises (substitute image r)) (fit_shares_by other premises (substitute_all image rs) xs)
      (yields_more x.divisor x.multipliers premises (substitute image r) (leb→le 1 x.divisor (search parts)) (search parts))
      (shares_more n premises image rs xs (search parts) (search parts))

  target_more : (e : Entailment) (xs : List Share) (o : Option Disjunct) → T (shaped_at (length e.premises) o xs) → T (fits_at_by one e o xs) → T (fits_at_by other e o xs)
  target_more e xs none sh t = absurd (unfold fits_at_by in t)
  target_more e xs (some d) sh t = unfold fits_at_by in shares_more (length e.premises) e.premises e.image d xs (unfold shaped_at in sh) (unfold fits_at_by in t)

  tree_more : (d : ℕ) (e : Entailment) (w : Witness) → T (shaped_tree d e w) → T (fits_by one e w) → T (fits_by other e w)
  unfolding shaped_tree fits_by
  tree_more d e (contradiction ms) sh t = t
  tree_more d e (target j xs) sh t = target_more e xs (get_elem? e.targets j) sh t
  tree_more zero e (split r w v) sh t = absurd sh
  tree_more (suc d) e (split r w v) sh t =
      and (fits_by other (under r e) w) (fits_by other (under (other_side r) e) v) (tree_more d (under r e) w (search parts) (search parts)) (tree_more d (under (other_side r) e) v (search parts) (search parts))

  fits_more : (e : Entailment) (w : Witness) → T (shaped e w) → T (fits_by one e w) → T (fits_by other e w)
  unfolding shaped
  fits_more e w sh t = tree_more most_splits e w sh t

  pub all_work_more : (es : List Entailment) (ws : List Witness) → T (all_work_by one es ws) → T (all_work_by other es ws)
  unfolding all_work_by works_by
  all_work_more [] [] t = tt
  all_work_more [] (_ ∷ _) t = absurd t
  all_work_more (_ ∷ _) [] t = absurd t
  all_work_more (e ∷ es) (w ∷ ws) t =
      and (shaped e w && fits_by other e w) (all_work_by other es ws) (and (shaped e w) (fits_by other e w) (search parts) (fits_more e w (search parts) (search parts)))
      (all_work_more es ws (search parts))
