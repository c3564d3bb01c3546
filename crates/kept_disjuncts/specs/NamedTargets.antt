-- The targets that the witnesses of an accepted certificate name are disjuncts that it has, since the witnesses work. So a kept disjunct is one of its,
-- and its entry is one of the program's.
use Rattle.std.specs.Prelude.{◌≡◌, Bool, true, false, ℕ, ◌+◌, ◌≤◌, ◌<◌, leb, ℤ}
use Rattle.std.proofs.Math.Path.{refl, subst}
use Rattle.std.proofs.Common.{sym, arith, leb-true, leb-false}
use mathlib.Core.List.Memᴰ
use mathlib.Core.List.{List, [], ◌∷◌, Memᴰ}
use Rattle.std.proofs.Math.Dec.{T}
use Rattle.std.proofs.Math.ListN.{length}
use Rattle.basics.proofs.Booleans.{parts}
use Rattle.basics.specs.Lists.{Each}
use Rattle.rows.specs.Rows.{fits_constant}
use Rattle.words.specs.Limits.{most_disjuncts}
use Rattle.words.proofs.Ranges.{number_most}
use Rattle.programs.specs.Decode as decode
use Rattle.programs.specs.ProgramWords.{n, p}
use Rattle.certificates.specs.Certificate.{Disjunct, path_edges}
use Rattle.certificates.specs.CertificateWords.{stored_form, certificate, entry, entry_count}
use Rattle.certificates.specs.Entailments.{Entailment}
use Rattle.certificates.proofs.Entries.{length_disjuncts_of, path_entry, no_path, no_summary, summary_most}
use Rattle.certificates.specs.Sources.{Entry, of_vertex, of_summary, edges_of, Sourced, Leads, entailments_of}
use Rattle.certificates.proofs.Sources.{sourced_entailments, sourced_targets}
use Rattle.certificates.specs.Witnesses.{Witness, all_work_by, all_work}
use Rattle.trimming.specs.Kept.{Use, uses_of, Kept, by_start, by_path, by_return}
use Rattle.trimming.proofs.InRange.{targets_exist}
use Rattle.trimmed_words.specs.Trim.{listed_uses}
use Rattle.checker.specs.ListedWitnesses.{listed_sources, listed_witnesses, AllListed}
use Rattle.program_readers.specs.Sizes.{Header}
use Rattle.program_readers.specs.declared.places.Sizes.{Sizes}
use Rattle.entailment_sources.specs.KeptBytes.{has_entry}
use Rattle.kept_disjuncts.specs.FlagBytes.{has_vertex, has_summary}

module _ (program witness : List ℤ) where
  -- each target that a use names is a disjunct of its entry
  abbrev pub TargetsThere : Type 0
  TargetsThere = (u : Use) → Memᴰ u (listed_uses program witness) → (j : ℕ) → Memᴰ j u.targets → j < length (edges_of (certificate program witness) u.leads_to)

  uses_there : (rule : ℕ → ℤ → ℤ → Bool) (xs : List Sourced) (ws : List Witness) → T (all_work_by rule (entailments_of xs) ws) → Each (Leads (certificate program witness)) xs
      → (u : Use) → Memᴰ u (uses_of xs ws) → (j : ℕ) → Memᴰ j u.targets → j < length (edges_of (certificate program witness) u.leads_to)
  unfolding uses_of all_work_by Each
  uses_there rule [] ws t e u m j k = absurd (Memᴰ.not-nil m)
  uses_there rule (x ∷ xs) [] t e u m j k = absurd t
  uses_there rule (x ∷ xs) (w ∷ ws) t e u (Memᴰ.head q) j k =
      subst (λ (y : Use). j < length (edges_of (certificate program witness) y.leads_to)) (sym q)
      (subst (λ (l : List Disjunct). j < length l) e.0 (targets_exist rule x.entailment w (search parts) j (subst (λ (y : Use). Memᴰ j y.targets) q k)))
  uses_there rule (x ∷ xs) (w ∷ ws) t e u (Memᴰ.tail m) j k = uses_there rule xs ws (search parts) e.1 u m j k

  pub targets_there : AllListed program witness → TargetsThere
  targets_there a =
      uses_there fits_constant (listed_sources program witness) (listed_witnesses program witness)
      (subst (λ (es : List Entailment). T (all_work es (listed_witnesses program witness))) (sym (sourced_entailments (decode.program program) (certificate program witness))) a.work)
      (sourced_targets (decode.program program) (certificate program witness))

  -- so is each kept disjunct
  pub kept_there : TargetsThere → {t : Entry} {j : ℕ} → Kept (listed_uses program witness) t j → j < length (edges_of (certificate program witness) t)
  kept_there h (by_start m k) = h _ m _ k
  kept_there h (by_path m g k) = h _ m _ k
  kept_there h (by_return m g f k) = h _ m _ k

  module _ {sizes : Sizes} (header : Header program sizes) where
    path_most : (v : ℕ) → 1 ≤ v → v ≤ n program + p program → length (path_edges (certificate program witness) v) ≤ most_disjuncts
    unfolding entry entry_count
    path_most v l h = rw (path_entry program witness (stored_form witness) v l h, length_disjuncts_of) (number_most most_disjuncts _)

    -- a disjunct's entry is one of the program's, and has at most 8
    pub edges_range : (t : Entry) (j : ℕ) → j < length (edges_of (certificate program witness) t) → T (has_entry sizes t) × (j < most_disjuncts)
    unfolding edges_of
    edges_range (of_vertex v) j b = go (leb 1 v) refl (leb v (n program + p program)) refl
      where
        none : ¬ ((1 ≤ v) × (v ≤ n program + p program)) → T (has_entry sizes (of_vertex v)) × (j < most_disjuncts)
        none h = let z : j < length {A = Disjunct} [] = rw (no_path program witness (stored_form witness) v h) at b in absurd (omega arith)

        go : (x : Bool) → leb 1 v ≡ x → (y : Bool) → leb v (n program + p program) ≡ y → T (has_entry sizes (of_vertex v)) × (j < most_disjuncts)
        go true e true f =
            let l = leb-true 1 v e in
            let h = leb-true v (n program + p program) f in
            (has_vertex sizes v l (omega (arith, header.statements, header.procedures)), omega (arith, path_most v l h))
        go true e false f = none (λ r. let h = leb-false v (n program + p program) f in omega (arith, r.1))
        go false e y f = none (λ r. let h = leb-false 1 v e in omega (arith, r.0))
    edges_range (of_summary q) j b = go (leb 1 q) refl (leb q (p program)) refl
      where
        none : ¬ ((1 ≤ q) × (q ≤ p program)) → T (has_entry sizes (of_summary q)) × (j < most_disjuncts)
        none h = let z : j < length {A = Disjunct} [] = rw (no_summary program witness (stored_form witness) q h) at b in absurd (omega arith)

        go : (x : Bool) → leb 1 q ≡ x → (y : Bool) → leb q (p program) ≡ y → T (has_entry sizes (of_summary q)) × (j < most_disjuncts)
        go true e true f =
            let l = leb-true 1 q e in
            let h = leb-true q (p program) f in
            (has_summary sizes q l (omega (arith, header.procedures)), omega (arith, summary_most program witness (stored_form witness) q))
        go true e false f = none (λ r. let h = leb-false q (p program) f in omega (arith, r.1))
        go false e y f = none (λ r. let h = leb-false 1 q e in omega (arith, r.0))
