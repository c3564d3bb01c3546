-- The trimmed witnesses work: a witness that names only what is kept works, renumbered, toward what is left of the targets, since premises, image and
-- the rows of the disjuncts that it names are as they were. No sum is looked at.
use Rattle.std.specs.Prelude.{◌≡◌, Bool, false, cond, ℤ}
use Rattle.std.proofs.Math.Path.{refl}
use Rattle.std.proofs.Common.{sym, ap, ◌∙◌, subst}
use Rattle.std.proofs.Math.Bool.{true}
use Rattle.std.proofs.Math.Option.{Option, none, some}
use mathlib.Core.List.Memᴰ
use mathlib.Core.List.{List, [], ◌∷◌, Memᴰ}
use Prim.Native.Nat.{ℕ, zero, suc}
use Rattle.std.proofs.Math.Dec.{T}
use Rattle.std.proofs.Math.ListN.{get_elem?}
use Rattle.basics.proofs.Booleans.{and, parts, holds}
use Rattle.basics.specs.Lists.{Each}
use Rattle.rows.specs.Rows.{Row}
use Rattle.words.specs.Limits.{most_splits}
use Rattle.programs.specs.Program.{Program}
use Rattle.certificates.specs.Certificate.{Disjunct, Certificate}
use Rattle.certificates.specs.Entailments.{Entailment, entailments}
use Rattle.certificates.specs.Sources.{Sourced, sourced, entailments_of, Leads}
use Rattle.certificates.proofs.Sources.{sourced_entailments, sourced_targets}
use Rattle.certificates.specs.Witnesses.{Share, Witness, contradiction, target, split, under, other_side, shaped_tree, shaped, fits_at_by, fits_by, works_by, all_work_by}
use Rattle.trimming.specs.Kept.{leaf_targets, Use, uses_of, Flags, keeps, Closed}
use Rattle.trimming.specs.KeptMembers.{kept_from}
use Rattle.trimming.proofs.KeptMembers.{kept_at}
use Rattle.trimming.specs.Trimmed.{trimmed, renumbered, trimmed_witnesses}
use Rattle.trimming.proofs.Trimmed.{trimmed_edges}
use Rattle.trimming.specs.TrimmedEntailments.{toward, trimmed_one, trimmed_all}
use Rattle.trimming.proofs.TrimmedEntailments.{sourced_trimmed}
use Rattle.trimming.specs.TrimmedWorks.{AllKept}

module _ (f : ℕ → Bool) where
  left : (r : Row) (w v : Witness) → (AllKept f) (split r w v) → (AllKept f) w
  unfolding leaf_targets
  left r w v h j m = h j (Memᴰ.append_left (leaf_targets v) m)

  right : (r : Row) (w v : Witness) → (AllKept f) (split r w v) → (AllKept f) v
  unfolding leaf_targets
  right r w v h j m = h j (Memᴰ.append_right (leaf_targets w) m)

  here : (j : ℕ) (xs : List Share) → (AllKept f) (target j xs) → T (f j)
  unfolding leaf_targets
  here j xs h = h j (Memᴰ.head refl)

  tree_shaped : (d : ℕ) (e : Entailment) (w : Witness) → (AllKept f) w → T (shaped_tree d e w) → T (shaped_tree d (toward (kept_from f 0 e.targets) e) (renumbered f w))
  unfolding shaped_tree renumbered toward under
  tree_shaped d e (contradiction ms) h t = t
  tree_shaped d e (target j xs) h t = rw (kept_at f e.targets j (here j xs h)) t
  tree_shaped zero e (split r w v) h t = absurd t
  tree_shaped (suc d) e (split r w v) h t =
      search (and, parts, tree_shaped d (under r e) w (left r w v h) (search parts), tree_shaped d (under (other_side r) e) v (right r w v h) (search parts))

  module _ (rule : ℕ → ℤ → ℤ → Bool) where
    at_fits : (ds : List Disjunct) (e : Entailment) (o : Option Disjunct) (xs : List Share) → T (fits_at_by rule e o xs) → T (fits_at_by rule (toward ds e) o xs)
    unfolding fits_at_by toward
    at_fits ds e none xs t = t
    at_fits ds e (some d) xs t = t

    tree_fits : (e : Entailment) (w : Witness) → (AllKept f) w → T (fits_by rule e w) → T (fits_by rule (toward (kept_from f 0 e.targets) e) (renumbered f w))
    unfolding fits_by renumbered toward under
    tree_fits e (contradiction ms) h t = t
    tree_fits e (target j xs) h t = rw (kept_at f e.targets j (here j xs h)) (at_fits (kept_from f 0 e.targets) e (get_elem? e.targets j) xs t)
    tree_fits e (split r w v) h t = search (and, tree_fits (under r e) w (left r w v h) (search parts), tree_fits (under (other_side r) e) v (right r w v h) (search parts))

    pub renumbered_works : (e : Entailment) (w : Witness) → (AllKept f) w → T (works_by rule e w) → T (works_by rule (toward (kept_from f 0 e.targets) e) (renumbered f w))
    unfolding works_by shaped
    renumbered_works e w h t = search (and, tree_shaped most_splits e w h (search parts), tree_fits e w h (search parts))

-- ---- all of them

closed_fewer : (u : Use) (us : List Use) (F : Flags) → Closed (u ∷ us) F → Closed us F
closed_fewer u us F k = record { closed = λ x m. k.closed x (Memᴰ.tail m) }

module _ (rule : ℕ → ℤ → ℤ → Bool) (F : Flags) (c : Certificate) where
  kept_work : (xs : List Sourced) (ws : List Witness) → Each (Leads c) xs → Closed (uses_of xs ws) F → T (all_work_by rule (entailments_of xs) ws) → T (all_work_by rule (entailments_of (trimmed_all F c xs)) (trimmed_witnesses F xs ws))
  unfolding trimmed_all trimmed_witnesses all_work_by Each uses_of
  kept_work [] [] l k t = tt
  kept_work [] (w ∷ ws) l k t = absurd t
  kept_work (x ∷ xs) [] l k t = absurd t
  kept_work (x ∷ xs) (w ∷ ws) l k t = go (keeps F x.source) refl (kept_work xs ws l.1 (closed_fewer _ (uses_of xs ws) F k) (search parts))
    where
      works : keeps F x.source ≡ true → T (works_by rule (trimmed_one F c x).entailment (renumbered (F x.leads_to) w))
      works q = unfold trimmed_one in (rw (trimmed_edges F c x.leads_to, ← l.0) (renumbered_works (F x.leads_to) rule x.entailment w (λ j m. k.closed _ (Memᴰ.head refl) (holds q) j m) (search parts)))

      go : (b : Bool) → keeps F x.source ≡ b → T (all_work_by rule (entailments_of (trimmed_all F c xs)) (trimmed_witnesses F xs ws))
          → T (all_work_by rule (entailments_of (cond b (trimmed_one F c x ∷ trimmed_all F c xs) (trimmed_all F c xs))) (cond b (renumbered (F x.leads_to) w ∷ trimmed_witnesses F xs ws) (trimmed_witnesses F xs ws)))
      go true q h = and (works_by rule (trimmed_one F c x).entailment (renumbered (F x.leads_to) w)) (all_work_by rule (entailments_of (trimmed_all F c xs)) (trimmed_witnesses F xs ws)) (works q) h
      go false q h = h

  -- by any set that is closed
  pub trimmed_works : (p : Program) (ws : List Witness) → Closed (uses_of (sourced p c) ws) F → T (all_work_by rule (entailments p c) ws)
      → T (all_work_by rule (entailments p (trimmed F c)) (trimmed_witnesses F (sourced p c) ws))
  trimmed_works p ws k t =
      subst (λ (es : List Entailment). T (all_work_by rule es (trimmed_witnesses F (sourced p c) ws))) (ap entailments_of (sym (sourced_trimmed F c p)) ∙ sourced_entailments p (trimmed F c))
      (kept_work (sourced p c) ws (sourced_targets p c) k (rw (sourced_entailments p c) t))
