-- What of a certificate is used, document 02, CR 11: "the start's targets, then again every target of an entailment whose disjunct (and summary
-- disjunct, at a return) is kept. Targets of all split leaves count." The least set, as an inductive definition: all of it is in any set that has
-- the start's targets and, with the sources of an entailment, its targets.
use Rattle.std.specs.Prelude.{◌≡◌, ℕ, T}
use mathlib.Core.List.{List, Memᴰ}
use Rattle.basics.proofs.Booleans.{and, and_l, and_r, same_truth}
use Rattle.certificates.specs.Sources.{Entry, of_vertex, of_summary, Source, from_start, from_path, from_return}
use Rattle.trimming.specs.Kept.{Closed, Exactly, Flags, Kept, Use, by_path, by_return, by_start, keeps, use_by}

-- "that least set": what is kept is in any set that is closed
pub least : (us : List Use) (F : Flags) → Closed us F → {t : Entry} {j : ℕ} → Kept us t j → T (F t j)
unfolding keeps
least us F c (by_start m k) = c.closed _ m tt _ k
least us F c (by_path m h k) = c.closed _ m (least us F c h) _ k
least us F c (by_return {v} {i} {q} {l} m h g k) = c.closed _ m (and (F (of_vertex v) i) (F (of_summary q) l) (least us F c h) (least us F c g)) _ k

-- what an entailment with kept sources names is kept
pub kept_by : (us : List Use) (F : Flags) → ((t : Entry) (j : ℕ) → T (F t j) → Kept us t j)
    → (s : Source) (t : Entry) (js : List ℕ) → Memᴰ (use_by s t js) us → T (keeps F s) → (j : ℕ) → Memᴰ j js → Kept us t j
unfolding keeps
kept_by us F f from_start t js m h j k = by_start m k
kept_by us F f (from_path v i) t js m h j k = by_path m (f (of_vertex v) i h) k
kept_by us F f (from_return v i q l) t js m h j k =
    by_return m (f (of_vertex v) i (and_l (F (of_vertex v) i) (F (of_summary q) l) h)) (f (of_summary q) l (and_r (F (of_vertex v) i) (F (of_summary q) l) h)) k

-- so the least set is closed
pub exactly_closed : (us : List Use) (F : Flags) → Exactly us F → Closed us F
exactly_closed us F e =
    record { closed = λ u m h j k. (e.exactly u.leads_to j).1 (kept_by us F (λ t i. (e.exactly t i).0) u.source u.leads_to u.targets m h j k) }

-- and there is only one
pub exactly_same : (us : List Use) (F G : Flags) → Exactly us F → Exactly us G → F ≡ G
exactly_same us F G f g = λ i t j. same t j i
  where
    same : (t : Entry) (j : ℕ) → F t j ≡ G t j
    same t j = same_truth (F t j) (G t j) (λ h. (g.exactly t j).1 ((f.exactly t j).0 h)) (λ h. (f.exactly t j).1 ((g.exactly t j).0 h))
