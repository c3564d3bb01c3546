-- Premises as they stand in a buffer are judged as the premises themselves, because sums of rows that are alike are alike, and a split adds
-- the same row to both.
use Rattle.std.specs.Prelude.{◌≡◌, Bool, ◌&&◌, ℤ, pos, negsuc, length}
use Rattle.std.proofs.Math.Path.{refl, ap, ap₂}
use Rattle.std.proofs.Common.{◌∙◌}
use Rattle.std.proofs.Math.Option.{Option, none, some}
use mathlib.Core.List.{List, [], ◌∷◌, ◌++◌}
use Prim.Native.Nat.{ℕ, zero, suc}
use Rattle.std.proofs.Math.ListN.{get_elem?}
use Rattle.rows.specs.Rows.{Row, substitute_all}
use Rattle.certificates.specs.Certificate.{Disjunct}
use Rattle.certificates.specs.Entailments.{Entailment}
use Rattle.certificates.specs.Witnesses.{Share, Witness, contradiction, target, split, under, other_side, fit_shares, fits_at, fits, fit_shares_by, fits_by, fits_at_by}
use Rattle.certificates.specs.Judgement.{Read, got, missing, and_then, read_within, read_chosen, read_leaf, read_row, read_split, read_tree}
use Rattle.row_buffers.specs.Entries.{AllAlike, nil, cons}
use Rattle.row_buffers.proofs.Entries.{length_alike}
use Rattle.row_buffers.proofs.SumTests.{yields_alike, refutes_alike}
use Rattle.entailment_judge.specs.Buffers.{premised}
use Rattle.entailment_judge.specs.Judging.{judged_tree, judged_chosen}

-- one row more at the end
alike_more : {ps qs : List Row} (r : Row) → AllAlike ps qs → AllAlike (ps ++ (r ∷ [])) (qs ++ (r ∷ []))
alike_more r nil = cons (record { same = λ i. refl }) nil
alike_more r (cons h hs) = cons h (alike_more r hs)

-- ---- whether it fits

module _ {ps qs : List Row} (h : AllAlike ps qs) where
  shares_alike : (d : Disjunct) (xs : List Share) → fit_shares ps d xs ≡ fit_shares qs d xs
  unfolding fit_shares_by
  shares_alike [] [] = refl
  shares_alike [] (_ ∷ _) = refl
  shares_alike (r ∷ d) [] = refl
  shares_alike (r ∷ d) (x ∷ xs) = ap₂ (λ (a b : Bool). a && b) (yields_alike x.divisor x.multipliers h (record { same = λ i. refl })) (shares_alike d xs)

at_alike : (e : Entailment) {ps : List Row} → AllAlike ps e.premises → (o : Option Disjunct) (xs : List Share) → fits_at (premised e ps) o xs ≡ fits_at e o xs
unfolding fits_at_by
at_alike e h none xs = refl
at_alike e h (some d) xs = shares_alike h (substitute_all e.image d) xs

fits_alike : (w : Witness) (e : Entailment) {ps : List Row} → AllAlike ps e.premises → fits (premised e ps) w ≡ fits e w
unfolding fits_by under
fits_alike (contradiction ms) e h = refutes_alike ms h
fits_alike (target j xs) e h = at_alike e h (get_elem? e.targets j) xs
fits_alike (split r w v) e h = ap₂ (λ (a b : Bool). a && b) (fits_alike w (under r e) (alike_more r h)) (fits_alike v (under (other_side r) e) (alike_more (other_side r) h))

-- ---- what is read

module _ (e : Entailment) {ps : List Row} (h : AllAlike ps e.premises) where
  chosen_alike : (x : Read ℕ) → and_then x (read_chosen (premised e ps)) ≡ and_then x (read_chosen e)
  unfolding and_then read_chosen
  chosen_alike (got zero ws) = rw (length_alike h)
  chosen_alike (got (suc j) ws) = rw (length_alike h)
  chosen_alike missing = refl

  leaf_alike : (ws : List ℤ) → read_leaf (premised e ps) ws ≡ read_leaf e ws
  unfolding read_leaf
  leaf_alike ws = chosen_alike (read_within 0 (length e.targets) ws)

pub then_alike : {A B : Type 0} (x : Read A) {f g : A → List ℤ → Read B} → ((a : A) (ws : List ℤ) → f a ws ≡ g a ws) → and_then x f ≡ and_then x g
unfolding and_then
then_alike (got a ws) q = q a ws
then_alike missing q = refl

-- a split, where it is shown for what stands below it
split_alike : (d : ℕ) (e : Entailment) (ps : List Row) (ws : List ℤ) → ((r : Row) (left : List ℤ) → read_tree d (under r (premised e ps)) left ≡ read_tree d (under r e) left)
    → read_split (read_tree d) (premised e ps) ws ≡ read_split (read_tree d) e ws
unfolding read_split
split_alike d e ps ws q =
    then_alike (read_row e.columns ws) (λ r rest. rw (q r rest)
    (then_alike (read_tree d (under r e) rest) (λ w left. rw (q (other_side r) left))))

tree_alike : (d : ℕ) (e : Entailment) {ps : List Row} → AllAlike ps e.premises → (ws : List ℤ) → read_tree d (premised e ps) ws ≡ read_tree d e ws
unfolding read_tree under
tree_alike zero e h ws = leaf_alike e h ws
tree_alike (suc d) e h [] = leaf_alike e h []
tree_alike (suc d) e h (pos n ∷ ws) = leaf_alike e h (pos n ∷ ws)
tree_alike (suc d) e {ps} h (negsuc zero ∷ ws) = split_alike d e ps ws (λ r left. tree_alike d (under r e) (alike_more r h) left)
tree_alike (suc d) e h (negsuc (suc n) ∷ ws) = leaf_alike e h (negsuc (suc n) ∷ ws)

-- ---- the judgement

module _ (e : Entailment) {ps : List Row} (h : AllAlike ps e.premises) where
  judged_alike : (x : Read Witness) → and_then x (λ w rest. got (fits (premised e ps) w) rest) ≡ and_then x (λ w rest. got (fits e w) rest)
  unfolding and_then
  judged_alike (got w rest) = ap (λ (b : Bool). got b rest) (fits_alike w e h)
  judged_alike missing = refl

  pub judged_premised : (d : ℕ) (ws : List ℤ) → judged_tree d (premised e ps) ws ≡ judged_tree d e ws
  unfolding judged_tree
  judged_premised d ws = judged_alike (read_tree d (premised e ps) ws) ∙ ap (λ (x : Read Witness). and_then x (λ w rest. got (fits e w) rest)) (tree_alike d e h ws)

  pub chosen_premised : (j : ℕ) (ws : List ℤ) → judged_chosen (premised e ps) j ws ≡ judged_chosen e j ws
  unfolding judged_chosen
  chosen_premised j ws =
      judged_alike (read_chosen (premised e ps) j ws) ∙ ap (λ (x : Read Witness). and_then x (λ w rest. got (fits e w) rest)) (unfold and_then in chosen_alike e h (got j ws))
