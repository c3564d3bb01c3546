-- How the least set is found by a queue: the kept disjuncts are taken one after the other, and for each that is taken the entailments that come from
-- it are looked at: those whose sources are kept have their targets kept. Of a return's two sources the one that is taken later finds the other kept.
-- So when all that are kept are taken, they are exactly the least set.
use Rattle.std.specs.Prelude.{◌≡◌, ◌⊎◌, ℕ}
use Rattle.std.proofs.Math.Logic.{inl, inr}
use mathlib.Core.List.{List, Memᴰ}
use Rattle.std.proofs.Math.Dec.{T}
use Rattle.basics.proofs.Booleans.{and, and_l, and_r}
use Rattle.certificates.specs.Sources.{Entry, of_vertex, of_summary, Source, from_start, from_path, from_return}
use Rattle.trimming.specs.Kept.{Use, Flags, keeps, Exactly}
use Rattle.trimming.proofs.Kept.{least}
use Rattle.trimming.specs.Taking.{AllTaken, IsSource, Takes, Taking}

pub all_taken : (us : List Use) (kept : Flags) (taken : Entry → ℕ → Type 0) → Taking us kept taken → ((t : Entry) (j : ℕ) → T (kept t j) → taken t j) → Exactly us kept
unfolding keeps AllTaken
all_taken us kept taken x all = record { exactly = λ t j. (x.sound t j, least us kept (record { closed = λ u m h. x.closed u m (sources u.source h) })) }
  where
    sources : (s : Source) → T (keeps kept s) → AllTaken taken s
    sources from_start h = tt
    sources (from_path v i) h = all (of_vertex v) i h
    sources (from_return v i q l) h = (all (of_vertex v) i (and_l (kept (of_vertex v) i) (kept (of_summary q) l) h), all (of_summary q) l (and_r (kept (of_vertex v) i) (kept (of_summary q) l) h))

module _ {us : List Use} {kept kept' : Flags} {taken taken' : Entry → ℕ → Type 0} {t : Entry} {j : ℕ} (x : Taking us kept taken) (y : Takes us kept taken t j kept' taken') where
  -- each that is taken now was kept before
  was_kept : (s : Entry) (k : ℕ) → taken s k ⊎ ((s ≡ t) × (k ≡ j)) → T (kept s k)
  was_kept s k (inl h) = x.less s k h
  was_kept s k (inr (e, f)) = rw (e, f) y.here

  -- the sources were taken before, or the new one is among them and all were kept
  sources : (s : Source) → AllTaken taken' s → AllTaken taken s ⊎ (IsSource t j s × T (keeps kept s))
  unfolding AllTaken IsSource keeps
  sources from_start h = inl tt
  sources (from_path v i) h = go (y.one (of_vertex v) i h)
    where
      go : taken (of_vertex v) i ⊎ ((of_vertex v ≡ t) × (i ≡ j)) → taken (of_vertex v) i ⊎ (((of_vertex v ≡ t) × (i ≡ j)) × T (kept (of_vertex v) i))
      go (inl g) = inl g
      go (inr e) = inr (e, was_kept (of_vertex v) i (inr e))
  sources (from_return v i q l) (h, g) = go (y.one (of_vertex v) i h) (y.one (of_summary q) l g)
    where
      both : taken (of_vertex v) i ⊎ ((of_vertex v ≡ t) × (i ≡ j)) → taken (of_summary q) l ⊎ ((of_summary q ≡ t) × (l ≡ j)) → T (keeps kept (from_return v i q l))
      both a b = and (kept (of_vertex v) i) (kept (of_summary q) l) (was_kept (of_vertex v) i a) (was_kept (of_summary q) l b)

      go : taken (of_vertex v) i ⊎ ((of_vertex v ≡ t) × (i ≡ j)) → taken (of_summary q) l ⊎ ((of_summary q ≡ t) × (l ≡ j))
          → (taken (of_vertex v) i × taken (of_summary q) l) ⊎ (((((of_vertex v ≡ t) × (i ≡ j)) ⊎ ((of_summary q ≡ t) × (l ≡ j)))) × T (keeps kept (from_return v i q l)))
      go (inl a) (inl b) = inl (a, b)
      go (inl a) (inr b) = inr (inr b, both (inl a) (inr b))
      go (inr a) b = inr (inl a, both (inr a) b)

  pub takes : Taking us kept' taken'
  takes =
      record {
        sound = y.sound;
        less = λ s k h. y.more s k (was_kept s k (y.one s k h));
        closed = λ u m h k n. go u m k n (sources u.source h);
      }
    where
      go : (u : Use) → Memᴰ u us → (k : ℕ) → Memᴰ k u.targets → AllTaken taken u.source ⊎ (IsSource t j u.source × T (keeps kept u.source)) → T (kept' u.leads_to k)
      go u m k n (inl h) = y.more u.leads_to k (x.closed u m h k n)
      go u m k n (inr (a, h)) = y.answers u m a h k n
