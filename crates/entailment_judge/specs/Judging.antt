-- One entailment judged as its witness is read: whether the sums fit is remembered while the words are still tested. That comes to the same,
-- because what is read doesn't depend on what fits.
use Rattle.std.specs.Prelude.{◌≡◌, Bool, false, ◌&&◌, ℕ, zero, suc, length, ℤ, pos, negsuc}
use Rattle.std.proofs.Math.Path.{refl, sym, ap}
use Rattle.std.proofs.Common.{◌∙◌, arith}
use Rattle.std.proofs.Math.Bool.{true, and-true, and_assoc}
use Rattle.std.proofs.Math.Option.{some}
use mathlib.Core.List.{List, [], ◌∷◌}
use Rattle.std.proofs.Math.ListN.{get_elem?}
use Rattle.rows.specs.Rows.{Row, substitute, substitute_all, refutes, yields}
use Rattle.words.specs.Limits.{most_divisor, most_splits}
use Rattle.certificates.specs.Certificate.{Disjunct}
use Rattle.certificates.specs.Entailments.{Entailment}
use Rattle.certificates.specs.Witnesses.{Share, Witness, contradiction, target, split, under, other_side, fit_shares, fits, fit_shares_by, fits_by, fits_at_by}
use Rattle.certificates.specs.Judgement.{Read, got, missing, and_then, read_within, read_multipliers, read_shares, read_target, read_chosen, read_leaf, read_row, read_split, read_tree}
use Rattle.entailment_judge.specs.Sides.{splits_at}

-- whether the witness fits, and the words after it; or a word of it is missing or beyond its range; with so many splits left
unfoldable pub judged_tree : ℕ → Entailment → List ℤ → Read Bool
judged_tree d e ws = and_then (read_tree d e ws) (λ w rest. got (fits e w) rest)

unfoldable pub judged_witness : Entailment → List ℤ → Read Bool
judged_witness e ws = judged_tree most_splits e ws

-- a leaf, from the word behind its first on
unfoldable pub judged_chosen : Entailment → ℕ → List ℤ → Read Bool
judged_chosen e j ws = and_then (read_chosen e j ws) (λ w rest. got (fits e w) rest)

-- ---- the same, with each sum judged once its words are read

unfoldable pub read_contradiction : List Row → ℕ → List ℤ → Read Bool
read_contradiction premises n ws = and_then (read_multipliers n ws) (λ ms rest. got (refutes ms premises) rest)

-- the share for one target row
unfoldable pub read_share : List Row → Row → ℕ → List ℤ → Read Bool
read_share premises r n ws = and_then (read_within 1 most_divisor ws) (λ d rest. and_then (read_multipliers n rest) (λ ms left. got (yields d ms premises r) left))

-- the shares for the rows of a disjunct that an image is put into; `fit` tells of the shares before them
unfoldable pub read_fits : List Row → List Row → ℕ → Disjunct → Bool → List ℤ → Read Bool
read_fits image premises n [] fit ws = got fit ws
read_fits image premises n (r ∷ rs) fit ws = and_then (read_share premises (substitute image r) n ws) (λ b. read_fits image premises n rs (fit && b))

-- ---- that it is the same

module _ (image premises : List Row) (n : ℕ) where
  abbrev finish : Bool → Disjunct → List Share → List ℤ → Read Bool
  finish fit d xs rest = got (fit && fit_shares premises (substitute_all image d) xs) rest

  -- one share and those after it, for which it is shown
  module _ (fit : Bool) (r : Row) (rs : Disjunct) (later : (fit : Bool) (ws : List ℤ) → read_fits image premises n rs fit ws ≡ and_then (read_shares n rs ws) (finish fit rs)) where
    after_share : (d : ℕ) (ms : List ℕ) (x : Read (List Share))
        → and_then x (finish (fit && yields d ms premises (substitute image r)) rs) ≡ and_then (and_then x (λ xs last. got (record { divisor = d; multipliers = ms } ∷ xs) last)) (finish fit (r ∷ rs))
    unfolding and_then fit_shares_by substitute_all
    after_share d ms (got xs last) = ap (λ (b : Bool). got b last) (and_assoc fit (yields d ms premises (substitute image r)) (fit_shares premises (substitute_all image rs) xs))
    after_share d ms missing = refl

    after_multipliers : (d : ℕ) (x : Read (List ℕ)) → and_then (and_then x (λ ms left. got (yields d ms premises (substitute image r)) left)) (λ b. read_fits image premises n rs (fit && b))
        ≡ and_then (and_then x (λ ms left. and_then (read_shares n rs left) (λ xs last. got (record { divisor = d; multipliers = ms } ∷ xs) last))) (finish fit (r ∷ rs))
    unfolding and_then
    after_multipliers d (got ms left) = later (fit && yields d ms premises (substitute image r)) left ∙ after_share d ms (read_shares n rs left)
    after_multipliers d missing = refl

    after_divisor : (x : Read ℕ)
        → and_then (and_then x (λ d rest. and_then (read_multipliers n rest) (λ ms left. got (yields d ms premises (substitute image r)) left))) (λ b. read_fits image premises n rs (fit && b))
        ≡ and_then (and_then x (λ d rest. and_then (read_multipliers n rest) (λ ms left. and_then (read_shares n rs left) (λ xs last. got (record { divisor = d; multipliers = ms } ∷ xs) last)))) (finish fit (r ∷ rs))
    unfolding and_then
    after_divisor (got d rest) = after_multipliers d (read_multipliers n rest)
    after_divisor missing = refl

  fits_same : (d : Disjunct) (fit : Bool) (ws : List ℤ) → read_fits image premises n d fit ws ≡ and_then (read_shares n d ws) (finish fit d)
  unfolding read_fits read_shares and_then fit_shares_by substitute_all read_share
  fits_same [] fit ws = ap (λ (b : Bool). got b ws) (sym (and-true fit))
  fits_same (r ∷ rs) fit ws = after_divisor fit r rs (fits_same rs) (read_within 1 most_divisor ws)

-- ---- by the first word of a leaf

module _ (e : Entailment) (ws : List ℤ) where
  pub chosen_contradiction : judged_chosen e 0 ws ≡ read_contradiction e.premises (length e.premises) ws
  unfolding judged_chosen read_chosen read_contradiction
  chosen_contradiction = then_judged (read_multipliers (length e.premises) ws)
    where
      then_judged : (x : Read (List ℕ)) → and_then (and_then x (λ ms left. got (contradiction ms) left)) (λ w left. got (fits e w) left) ≡ and_then x (λ ms left. got (refutes ms e.premises) left)
      then_judged (got ms left) = unfold and_then fits_by in refl
      then_judged missing = unfold and_then in refl

  pub chosen_target : (j : ℕ) (d : Disjunct) → get_elem? e.targets j ≡ some d → judged_chosen e (suc j) ws ≡ read_fits e.image e.premises (length e.premises) d true ws
  unfolding judged_chosen read_chosen read_target
  chosen_target j d g = rw g (then_judged (read_shares (length e.premises) d ws) ∙ sym (fits_same e.image e.premises (length e.premises) d true ws))
    where
      then_judged : (x : Read (List Share)) → and_then (and_then x (λ xs left. got (target j xs) left)) (λ w left. got (fits e w) left) ≡ and_then x (finish e.image e.premises (length e.premises) true d)
      then_judged (got xs left) = unfold and_then fits_by fits_at_by in rw g
      then_judged missing = unfold and_then in refl

-- ---- by the first word of a witness

-- a word that splits isn't in a leaf's range
leaf_of_lem : (d : ℕ) (e : Entailment) (ws : List ℤ) → splits_at ws ≡ false → read_tree d e ws ≡ read_leaf e ws
unfolding read_tree splits_at
leaf_of_lem zero e ws h = refl
leaf_of_lem (suc d) e [] h = refl
leaf_of_lem (suc d) e (pos n ∷ ws) h = refl
leaf_of_lem (suc d) e (negsuc zero ∷ ws) h = absurd (let z : ◌≡◌ {A = ℕ} 0 1 = cc in omega arith)
leaf_of_lem (suc d) e (negsuc (suc n) ∷ ws) h = refl

no_split : (low high : ℕ) (ws : List ℤ) {j : ℕ} {rest : List ℤ} → read_within low high ws ≡ got j rest → splits_at ws ≡ false
unfolding read_within splits_at
no_split low high [] h = refl
no_split low high (pos n ∷ ws) h = refl
no_split low high (negsuc zero ∷ ws) h = absurd (let z : ◌≡◌ {A = ℕ} 0 1 = cc in omega arith)
no_split low high (negsuc (suc n) ∷ ws) h = refl

module _ (d : ℕ) (e : Entailment) (ws : List ℤ) where
  pub judged_missing : splits_at ws ≡ false → read_within 0 (length e.targets) ws ≡ missing → judged_tree d e ws ≡ missing
  unfolding judged_tree read_leaf and_then
  judged_missing s h = rw (leaf_of_lem d e ws s, h)

  pub judged_chosen_lem : {j : ℕ} {rest : List ℤ} → read_within 0 (length e.targets) ws ≡ got j rest → judged_tree d e ws ≡ judged_chosen e j rest
  unfolding judged_tree read_leaf and_then judged_chosen
  judged_chosen_lem h = rw (leaf_of_lem d e ws (no_split 0 (length e.targets) ws h), h)

-- a split where none is left
pub judged_bottom : (e : Entailment) (ws : List ℤ) → read_within 0 (length e.targets) ws ≡ missing → judged_tree 0 e ws ≡ missing
unfolding judged_tree read_tree read_leaf and_then
judged_bottom e ws h = rw h

module _ (d : ℕ) (e : Entailment) (ws : List ℤ) where
  pub judged_no_row : read_row e.columns ws ≡ missing → judged_tree (suc d) e (negsuc 0 ∷ ws) ≡ missing
  unfolding judged_tree read_tree read_split and_then
  judged_no_row h = rw h

  module _ {r : Row} {rest : List ℤ} (h : read_row e.columns ws ≡ got r rest) where
    after_second : (w : Witness) (x : Read Witness) → and_then (and_then x (λ v last. got (split r w v) last)) (λ y last. got (fits e y) last)
        ≡ and_then (and_then x (λ v last. got (fits (under (other_side r) e) v) last)) (λ other last. got (fits (under r e) w && other) last)
    unfolding and_then fits_by
    after_second w (got v last) = refl
    after_second w missing = refl

    after_first : (x : Read Witness) → and_then (and_then x (λ w left. and_then (read_tree d (under (other_side r) e) left) (λ v last. got (split r w v) last))) (λ y last. got (fits e y) last)
        ≡ and_then (and_then x (λ w left. got (fits (under r e) w) left)) (λ one left. and_then (judged_tree d (under (other_side r) e) left) (λ other last. got (one && other) last))
    unfolding and_then judged_tree
    after_first (got w left) = after_second w (read_tree d (under (other_side r) e) left)
    after_first missing = refl

    -- the witness under the row, then the one under its other side
    pub judged_split : judged_tree (suc d) e (negsuc 0 ∷ ws)
        ≡ and_then (judged_tree d (under r e) rest) (λ one left. and_then (judged_tree d (under (other_side r) e) left) (λ other last. got (one && other) last))
    unfolding judged_tree read_tree read_split and_then
    judged_split = rw h (after_first (read_tree d (under r e) rest))
