-- What is left once a witness, or a part of one, is read: the last of the words that it was read from.
use Rattle.std.specs.Prelude.{◌≡◌, refl, Bool, true, false, cond, ◌&&◌, leb, ℤ, pos, negsuc, length, take, drop}
use Rattle.std.proofs.Common.{sym, ap, ◌∙◌, arith, length-append, length-drop, take-append-drop, drop-drop}
use Rattle.std.proofs.Math.Option.{Option, none, some}
use mathlib.Core.List.{List, [], ◌∷◌, ◌++◌, append_assoc}
use Prim.Native.Nat.{ℕ, zero, suc, ◌+◌, ◌-◌, ◌≤◌}
use Rattle.std.proofs.Math.ListN.{get_elem?}
use Rattle.std.proofs.Math.Seq.{drop-append_seam}
use Rattle.rows.specs.Rows.{Row}
use Rattle.words.specs.Limits.{coefficient_limit, most_multiplier, most_divisor}
use Rattle.words.specs.Words.{small}
use Rattle.words.specs.RowWords.{constant_of, is_constant, row_size}
use Rattle.certificates.specs.Certificate.{Disjunct}
use Rattle.certificates.specs.Entailments.{Entailment}
use Rattle.certificates.specs.Witnesses.{Witness, under, other_side}
use Rattle.certificates.specs.Judgement.{Read, got, missing, and_then, read_within, read_multipliers, read_shares, read_target, read_chosen, read_leaf, read_constant, read_coefficient, read_row, read_split, read_tree}
use Rattle.entailment_judge.specs.Sides.{read_row_lem}
use Rattle.entailment_judge.specs.Judging.{judged_tree}

-- some words were read, and these are left
pub data Leaves {A : Type 0} (ws : List ℤ) : Read A → Type 0 where
  leaves : {a : A} {rest : List ℤ} (read : List ℤ) → ws ≡ read ++ rest → Leaves ws (got a rest)
  nothing : Leaves ws missing

module _ {A : Type 0} where
  further : (read : List ℤ) {left : List ℤ} {x : Read A} → Leaves left x → Leaves (read ++ left) x
  further read (leaves {rest = rest} more e) = leaves {rest = rest} (read ++ more) (rw e (sym (append_assoc read more rest)))
  further read nothing = nothing

  pub then_leaves : {B : Type 0} {ws : List ℤ} {x : Read B} {f : B → List ℤ → Read A} → Leaves ws x → ((b : B) (left : List ℤ) → Leaves left (f b left)) → Leaves ws (and_then x f)
  unfolding and_then
  then_leaves (leaves {a = b} {rest = left} read e) h = rw e (further read (h b left))
  then_leaves nothing h = nothing

-- ---- a leaf

within_leaves : (low high : ℕ) (ws : List ℤ) → Leaves ws (read_within low high ws)
unfolding read_within
within_leaves low high [] = nothing
within_leaves low high (pos n ∷ ws) = go (leb low n && leb n high)
  where
    go : (b : Bool) → Leaves (pos n ∷ ws) (cond b (got n ws) missing)
    go true = leaves (pos n ∷ []) refl
    go false = nothing
within_leaves low high (negsuc n ∷ ws) = nothing

multipliers_leave : (n : ℕ) (ws : List ℤ) → Leaves ws (read_multipliers n ws)
unfolding read_multipliers
multipliers_leave zero ws = leaves [] refl
multipliers_leave (suc n) ws = then_leaves (within_leaves 0 most_multiplier ws) (λ m rest. then_leaves (multipliers_leave n rest) (λ ms left. leaves [] refl))

shares_leave : (n : ℕ) (rs : List Row) (ws : List ℤ) → Leaves ws (read_shares n rs ws)
unfolding read_shares
shares_leave n [] ws = leaves [] refl
shares_leave n (r ∷ rs) ws =
    then_leaves (within_leaves 1 most_divisor ws) (λ d rest. then_leaves (multipliers_leave n rest) (λ ms left. then_leaves (shares_leave n rs left) (λ xs last. leaves [] refl)))

module _ (e : Entailment) where
  target_leaves : (j : ℕ) (o : Option Disjunct) (ws : List ℤ) → Leaves ws (read_target (length e.premises) j o ws)
  unfolding read_target
  target_leaves j none ws = nothing
  target_leaves j (some d) ws = then_leaves (shares_leave (length e.premises) d ws) (λ xs rest. leaves [] refl)

  chosen_leaves : (k : ℕ) (ws : List ℤ) → Leaves ws (read_chosen e k ws)
  unfolding read_chosen
  chosen_leaves zero ws = then_leaves (multipliers_leave (length e.premises) ws) (λ ms rest. leaves [] refl)
  chosen_leaves (suc j) ws = target_leaves j (get_elem? e.targets j) ws

  leaf_leaves : (ws : List ℤ) → Leaves ws (read_leaf e ws)
  unfolding read_leaf
  leaf_leaves ws = then_leaves (within_leaves 0 (length e.targets) ws) chosen_leaves

-- ---- a row, and a split

pub constant_leaves : (ws : List ℤ) → Leaves ws (read_constant ws)
unfolding read_constant
constant_leaves [] = nothing
constant_leaves (high ∷ []) = nothing
constant_leaves (high ∷ (low ∷ ws)) = go (is_constant high low)
  where
    go : (b : Bool) → Leaves (high ∷ (low ∷ ws)) (cond b (got (constant_of high low) ws) missing)
    go true = leaves (high ∷ low ∷ []) refl
    go false = nothing

pub coefficient_leaves : (ws : List ℤ) → Leaves ws (read_coefficient ws)
unfolding read_coefficient
coefficient_leaves [] = nothing
coefficient_leaves (z ∷ ws) = go (small coefficient_limit z)
  where
    go : (b : Bool) → Leaves (z ∷ ws) (cond b (got z ws) missing)
    go true = leaves (z ∷ []) refl
    go false = nothing

row_leaves : (columns : ℕ) (ws : List ℤ) → Leaves ws (read_row columns ws)
row_leaves columns ws = go (read_row columns ws) refl
  where
    go : (x : Read Row) → read_row columns ws ≡ x → Leaves ws x
    go (got r rest) q = leaves {rest = rest} (take (row_size columns) ws) (rw (read_row_lem columns ws q).3 (sym (take-append-drop (row_size columns) ws)))
    go missing q = nothing

-- a split, where it is shown for what stands below it
split_leaves : (below : Entailment → List ℤ → Read Witness) (e : Entailment) (ws : List ℤ) → ((f : Entailment) (left : List ℤ) → Leaves left (below f left)) → Leaves (negsuc 0 ∷ ws) (read_split below e ws)
unfolding read_split
split_leaves below e ws h =
    further (negsuc 0 ∷ [])
    (then_leaves (row_leaves e.columns ws) (λ r rest. then_leaves (h (under r e) rest) (λ w left. then_leaves (h (under (other_side r) e) left) (λ v last. leaves [] refl))))

pub tree_leaves : (d : ℕ) (e : Entailment) (ws : List ℤ) → Leaves ws (read_tree d e ws)
unfolding read_tree
tree_leaves zero e ws = leaf_leaves e ws
tree_leaves (suc d) e [] = leaf_leaves e []
tree_leaves (suc d) e (pos n ∷ ws) = leaf_leaves e (pos n ∷ ws)
tree_leaves (suc d) e (negsuc zero ∷ ws) = split_leaves (read_tree d) e ws (λ f left. tree_leaves d f left)
tree_leaves (suc d) e (negsuc (suc n) ∷ ws) = leaf_leaves e (negsuc (suc n) ∷ ws)

pub judged_leaves : (d : ℕ) (e : Entailment) (ws : List ℤ) → Leaves ws (judged_tree d e ws)
unfolding judged_tree
judged_leaves d e ws = then_leaves (tree_leaves d e ws) (λ w rest. leaves [] refl)

-- ---- the words left are all the words from a place on

module _ (w : List ℤ) (at : ℕ) (there : at ≤ length w) {A : Type 0} {a : A} {rest : List ℤ} where
  pub left_at : Leaves (drop at w) (got a rest) → rest ≡ drop (length w - length rest) w
  left_at (leaves read s) =
      let k : length read + length rest ≡ length w - at = sym (length-append read rest) ∙ ap length (sym s) ∙ length-drop at w in
      let q : at + length read ≡ length w - length rest = omega arith in
      sym (drop-append_seam read rest) ∙ ap (drop (length read)) (sym s) ∙ drop-drop (length read) at w ∙ ap (λ (i : ℕ). drop i w) q
