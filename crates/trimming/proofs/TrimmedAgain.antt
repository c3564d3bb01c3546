-- Trimming again changes nothing: what is kept of a certificate, renumbered, is kept of the trimmed one, and that is all it has. So no disjunct and no
-- witness goes, and no number changes.
use Rattle.std.specs.Prelude.{◌≡◌, Bool, true, false, ◌&&◌, ℕ, suc, ◌+◌, ◌<◌, ℤ, length, get_or}
use Rattle.std.proofs.Math.Path.{refl, subst}
use Rattle.std.proofs.Common.{sym, ap, ap₂, ◌∙◌, arith}
use mathlib.Core.List.Memᴰ
use mathlib.Core.List.{List, [], ◌∷◌, ◌++◌, map, map-append, Memᴰ}
use Rattle.std.proofs.Math.Dec.{T}
use Rattle.basics.proofs.Booleans.{and, parts, is_true}
use Rattle.basics.specs.Lists.{Each}
use Rattle.basics.proofs.Lists.{map_from_same}
use Rattle.programs.specs.Program.{Program}
use Rattle.certificates.specs.Certificate.{Disjunct, Certificate, path_edges, summary_edges}
use Rattle.certificates.specs.Entailments.{entailments}
use Rattle.certificates.specs.Sources.{Entry, of_vertex, of_summary, edges_of, Source, from_start, from_path, from_return, Sourced, sourced, entailments_of, Leads}
use Rattle.certificates.proofs.Sources.{sourced_entailments, sourced_targets}
use Rattle.certificates.specs.Witnesses.{Witness, contradiction, target, split, all_work_by}
use Rattle.trimming.specs.Kept.{leaf_targets, Use, use_by, uses_of, Kept, by_start, by_path, by_return, Flags, keeps, Exactly}
use Rattle.trimming.proofs.Kept.{exactly_closed}
use Rattle.trimming.specs.KeptMembers.{kept_from, new_number}
use Rattle.trimming.proofs.KeptMembers.{number_onto, all_kept, number_all}
use Rattle.trimming.specs.InRange.{InRange, Exists}
use Rattle.trimming.proofs.InRange.{sources_exist, targets_exist}
use Rattle.trimming.proofs.TrimmedWorks.{trimmed_works}
use Rattle.trimming.specs.Trimmed.{kept_entries, trimmed, renumbered, trimmed_witnesses}
use Rattle.trimming.proofs.Trimmed.{trimmed_edges}
use Rattle.trimming.specs.TrimmedEntailments.{renumbered_source, trimmed_one, trimmed_all}
use Rattle.trimming.proofs.TrimmedEntailments.{sourced_trimmed}
use Rattle.trimming.specs.TrimmedAgain.{AllFlags, renumbered_use, uses_now, ws'}

-- ---- what is kept, renumbered

targets_again : (f : ℕ → Bool) (w : Witness) → leaf_targets (renumbered f w) ≡ map (new_number f) (leaf_targets w)
unfolding leaf_targets renumbered
targets_again f (contradiction ms) = refl
targets_again f (target j xs) = refl
targets_again f (split r w v) = ap₂ (λ (k l : List ℕ). k ++ l) (targets_again f w) (targets_again f v) ∙ sym (map-append (new_number f) (leaf_targets w) (leaf_targets v))

module _ (F : Flags) (c : Certificate) where
  uses_kept : (x : Sourced) (xs : List Sourced) (w : Witness) (ws : List Witness) → keeps F x.source ≡ true → (uses_now F c) (x ∷ xs) (w ∷ ws) ≡ (renumbered_use F c) (use_by x.source x.leads_to (leaf_targets w)) ∷ (uses_now F c) xs ws
  unfolding uses_of trimmed_all trimmed_witnesses trimmed_one
  uses_kept x xs w ws q = rw (q, targets_again (F x.leads_to) w)

  uses_gone : (x : Sourced) (xs : List Sourced) (w : Witness) (ws : List Witness) → keeps F x.source ≡ false → (uses_now F c) (x ∷ xs) (w ∷ ws) ≡ (uses_now F c) xs ws
  unfolding uses_of trimmed_all trimmed_witnesses
  uses_gone x xs w ws q = rw q

  use_first : (x : Sourced) (xs : List Sourced) (w : Witness) (ws : List Witness) → T (keeps F x.source) → Memᴰ ((renumbered_use F c) (use_by x.source x.leads_to (leaf_targets w))) ((uses_now F c) (x ∷ xs) (w ∷ ws))
  use_first x xs w ws t = rw (uses_kept x xs w ws (is_true (keeps F x.source) t)) (Memᴰ.head refl)

  use_later : (x : Sourced) (xs : List Sourced) (w : Witness) (ws : List Witness) (u : Use) → Memᴰ u ((uses_now F c) xs ws) → Memᴰ u ((uses_now F c) (x ∷ xs) (w ∷ ws))
  use_later x xs w ws u m = go (keeps F x.source) refl
    where
      go : (b : Bool) → keeps F x.source ≡ b → Memᴰ u ((uses_now F c) (x ∷ xs) (w ∷ ws))
      go true q = rw (uses_kept x xs w ws q) (Memᴰ.tail m)
      go false q = rw (uses_gone x xs w ws q) m

  use_kept : (xs : List Sourced) (ws : List Witness) (u : Use) → Memᴰ u (uses_of xs ws) → T (keeps F u.source) → Memᴰ ((renumbered_use F c) u) ((uses_now F c) xs ws)
  unfolding uses_of
  use_kept [] ws u m t = absurd (Memᴰ.not-nil m)
  use_kept (x ∷ xs) [] u m t = absurd (Memᴰ.not-nil m)
  use_kept (x ∷ xs) (w ∷ ws) u (Memᴰ.head e) t =
      subst (λ (y : Use). Memᴰ ((renumbered_use F c) y) ((uses_now F c) (x ∷ xs) (w ∷ ws))) (sym e) (use_first x xs w ws (subst (λ (y : Use). T (keeps F y.source)) e t))
  use_kept (x ∷ xs) (w ∷ ws) u (Memᴰ.tail m) t = use_later x xs w ws ((renumbered_use F c) u) (use_kept xs ws u m t)

  module _ (xs : List Sourced) (ws : List Witness) (e : Exactly (uses_of xs ws) F) where
    pub kept_again : {t : Entry} {j : ℕ} → Kept (uses_of xs ws) t j → Kept ((uses_now F c) xs ws) t (new_number (F t) j)
    unfolding renumbered_source
    kept_again {t} (by_start {js = js} m k) = by_start (use_kept xs ws (use_by from_start t js) m (unfold keeps in tt)) (Memᴰ.map (new_number (F t)) k)
    kept_again {t} (by_path {v} {i} {js = js} m h k) =
        by_path (use_kept xs ws (use_by (from_path v i) t js) m (unfold keeps in (e.exactly (of_vertex v) i).1 h)) (kept_again h) (Memᴰ.map (new_number (F t)) k)
    kept_again {t} (by_return {v} {i} {q} {l} {js = js} m h g k) =
        by_return (use_kept xs ws (use_by (from_return v i q l) t js) m (unfold keeps in and (F (of_vertex v) i) (F (of_summary q) l) ((e.exactly (of_vertex v) i).1 h) ((e.exactly (of_summary q) l).1 g))) (kept_again h) (kept_again g) (Memᴰ.map (new_number (F t)) k)

    -- and that is all that the trimmed certificate has
    pub all_flags : (F' : Flags) → Exactly ((uses_now F c) xs ws) F' → (t : Entry) (m : ℕ) → m < length (edges_of (trimmed F c) t) → T (F' t m)
    all_flags F' e' t m h =
        let (j, k, r) = number_onto (F t) (edges_of c t) m (rw (trimmed_edges F c t) at h) in
        (e'.exactly t m).1 (subst (λ (i : ℕ). Kept ((uses_now F c) xs ws) t i) r (kept_again ((e.exactly t j).0 k)))

same_entries : (f : ℕ → ℕ → Bool) (es : List (List Disjunct)) → ((i m : ℕ) → m < length (get_or es i []) → T (f (suc i) m)) → kept_entries f es ≡ es
unfolding kept_entries
same_entries f es all =
    map_from_same (λ (v : ℕ) (ds : List Disjunct). kept_from (f v) 0 ds) [] 1 es (λ i l. let e : 1 + i ≡ suc i = omega arith in rw e (all_kept (f (suc i)) (get_or es i []) (all i)))

same_certificate : (F : Flags) (c : Certificate) → AllFlags F c → trimmed F c ≡ c
unfolding trimmed
same_certificate F c all =
    ap₂ (λ (a b : List (List Disjunct)). record { paths = a; summaries = b })
    (same_entries (λ v. F (of_vertex v)) c.paths (λ i m h. all (of_vertex (suc i)) m (unfold edges_of path_edges in h)))
    (same_entries (λ q. F (of_summary q)) c.summaries (λ i m h. all (of_summary (suc i)) m (unfold edges_of summary_edges in h)))

same_witness : (f : ℕ → Bool) (w : Witness) → ((j : ℕ) → Memᴰ j (leaf_targets w) → (i : ℕ) → i < j → T (f i)) → renumbered f w ≡ w
unfolding renumbered leaf_targets
same_witness f (contradiction ms) h = refl
same_witness f (target j xs) h = ap (λ (i : ℕ). target i xs) (number_all f j (h j (Memᴰ.head refl)))
same_witness f (split r w v) h =
    ap₂ (λ (a b : Witness). split r a b) (same_witness f w (λ j m. h j (Memᴰ.append_left (leaf_targets v) m))) (same_witness f v (λ j m. h j (Memᴰ.append_right (leaf_targets w) m)))

sources_kept : (F : Flags) (c : Certificate) → AllFlags F c → (s : Source) → InRange c s → keeps F s ≡ true
unfolding keeps InRange
sources_kept F c all from_start h = refl
sources_kept F c all (from_path v i) h = is_true (F (of_vertex v) i) (all (of_vertex v) i (unfold edges_of in h))
sources_kept F c all (from_return v i q l) h =
    is_true (F (of_vertex v) i && F (of_summary q) l) (and (F (of_vertex v) i) (F (of_summary q) l) (all (of_vertex v) i (unfold edges_of in h.0)) (all (of_summary q) l (unfold edges_of in h.1)))

module _ (rule : ℕ → ℤ → ℤ → Bool) where
  same_witnesses : (F : Flags) (c : Certificate) → AllFlags F c → (xs : List Sourced) (ws : List Witness) → Each (Leads c) xs → Each (Exists c) xs → T (all_work_by rule (entailments_of xs) ws) → trimmed_witnesses F xs ws ≡ ws
  unfolding trimmed_witnesses all_work_by Each
  same_witnesses F c all [] [] l x t = refl
  same_witnesses F c all [] (w ∷ ws) l x t = absurd t
  same_witnesses F c all (y ∷ xs) [] l x t = absurd t
  same_witnesses F c all (y ∷ xs) (w ∷ ws) l x t =
      rw (sources_kept F c all y.source x.0)
      (ap₂ (λ (a : Witness) (b : List Witness). a ∷ b) (same_witness (F y.leads_to) w below) (same_witnesses F c all xs ws l.1 x.1 (search parts)))
    where
      below : (j : ℕ) → Memᴰ j (leaf_targets w) → (i : ℕ) → i < j → T (F y.leads_to i)
      below j m i b = all y.leads_to i (rw (← l.0) (omega (arith, targets_exist rule y.entailment w (search parts) j m)))

  module _ (p : Program) (c : Certificate) (ws : List Witness) (F F' : Flags) where
    -- trimmed again, by flags that are the least set of what is left, certificate and witnesses stay
    pub trimmed_again : T (all_work_by rule (entailments p c) ws) → Exactly (uses_of (sourced p c) ws) F → Exactly (uses_of (sourced p (trimmed F c)) (ws' rule p c ws F F')) F'
        → (trimmed F' (trimmed F c) ≡ trimmed F c) × (trimmed_witnesses F' (sourced p (trimmed F c)) (ws' rule p c ws F F') ≡ (ws' rule p c ws F F'))
    trimmed_again t e e' =
        let all : AllFlags F' (trimmed F c) = all_flags F c (sourced p c) ws e F' (subst (λ (l : List Sourced). Exactly (uses_of l (ws' rule p c ws F F')) F') (sourced_trimmed F c p) e') in
        let works = trimmed_works rule F c p ws (exactly_closed (uses_of (sourced p c) ws) F e) t in (
          same_certificate F' (trimmed F c) all,
          same_witnesses F' (trimmed F c) all (sourced p (trimmed F c)) (ws' rule p c ws F F') (sourced_targets p (trimmed F c)) (sources_exist p (trimmed F c)) (rw (sourced_entailments p (trimmed F c)) works),
        )
