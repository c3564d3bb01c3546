-- The queue is worked off: at first the start's targets are kept and nothing is taken, each turn takes the next disjunct of the queue, and when the
-- queue has no more, all that are kept are taken, and they are the least set.
use Rattle.std.specs.Prelude.{◌≡◌, ◌⊎◌, Bool, true, false, ℕ, ◌+◌, ◌≤◌, ◌<◌, eqb, ℤ, get_or}
use Rattle.std.proofs.Math.Path.{refl, subst}
use Rattle.std.proofs.Common.{sym, ◌∙◌, inl, inr, eqb-true}
use mathlib.Core.List.{List, Memᴰ}
use native.Mathlib.Omega.{arith}
use Rattle.std.proofs.lemmas.Bool.{eqb-false}
use Rattle.std.proofs.Math.Dec.{T}
use Rattle.certificates.specs.Sources.{Entry, of_vertex, Source, from_start, from_path, from_return}
use Rattle.trimming.specs.Kept.{Use, Kept, keeps, Exactly}
use Rattle.trimming.proofs.Kept.{kept_by}
use Rattle.trimming.specs.Taking.{AllTaken, Taking}
use Rattle.trimming.proofs.Taking.{all_taken, takes}
use Rattle.trimmed_words.specs.Trim.{listed_uses}
use Rattle.program_readers.specs.declared.places.Sizes.{Sizes}
use Rattle.entailment_sources.specs.KeptBytes.{entry_number, byte_of, has_entry, flags_in}
use Rattle.entailment_sources.specs.CaseLaws.{OwnSource}
use Rattle.used_targets.specs.UseTable.{names, UsedBy, start_sourced, Listed}
use Rattle.kept_disjuncts.specs.Queue.{Filled, Named, NamesPlaces}
use Rattle.kept_disjuncts.specs.FlagBytes.{PlaceOf, place_for, same_place, flag_place, flag_byte, byte_flag, more_flags}
use Rattle.kept_disjuncts.specs.NamedTargets.{edges_range}
use Rattle.kept_disjuncts.specs.Standing.{KeptAt, Standing, sound, Grown, Known, case_byte, case_here}
use Rattle.kept_disjuncts.specs.TakenUses.{TakenAt, own}

-- the first `head` of the queue
abbrev pub TakenIn : Sizes → List ℕ → ℕ → Entry → ℕ → Type 0
TakenIn sizes queue head t j = (h : ℕ) × (h < head) × PlaceOf sizes t j (get_or queue h 0)

-- those are taken
pub record Closing (us : List Use) (sizes : Sizes) (bytes queue : List ℕ) (count head : ℕ) : Type 0 where
  pub standing : Standing us sizes bytes queue count
  pub within : head ≤ count
  pub taking : Taking us (flags_in sizes bytes) (TakenIn sizes queue head)

-- ---- at first

module _ {program witness : List ℤ} {sizes : Sizes} {table : List ℕ} (K : Known program witness sizes table) where
  abbrev us : List Use
  us = listed_uses program witness

  start_place_lem : (j : ℕ) → T (names K.start j) → PlaceOf sizes (of_vertex 1) j (byte_of 1 j)
  unfolding entry_number
  start_place_lem j t =
      let (u, m, used) = K.tabled.start_listed in
      let r = edges_range program witness K.header u.leads_to j (K.there u m j ((used.targets j).0 t)) in
      record { has = subst (λ (a : Entry). T (has_entry sizes a)) used.leads_to r.0; few = r.1; at = refl }

  pub start_places : NamesPlaces K.start 1
  start_places j t = (omega arith, omega arith, (start_place_lem j t).few)

  start_kept : (j : ℕ) → T (names K.start j) → Kept us (of_vertex 1) j
  unfolding keeps
  start_kept j t =
      let (u, m, used) = K.tabled.start_listed in
      subst (λ (a : Entry). Kept us a j) used.leads_to
      (kept_by us (λ (a : Entry) (k : ℕ). false) (λ a k h. absurd h) u.source u.leads_to u.targets m (subst (λ (a : Source). T (keeps (λ (b : Entry) (k : ℕ). false) a)) (sym used.source) tt) j ((used.targets j).0 t))

  module _ {bytes₀ queue₀ bytes queue : List ℕ} {count : ℕ} (zeros : (b : ℕ) → get_or bytes₀ b 0 ≡ 0) (f : Filled (Named K.start 1) bytes₀ queue₀ 0 bytes queue count) where
    known : (b : ℕ) → (get_or bytes₀ b 0 ≡ 1) ⊎ Named K.start 1 b → KeptAt us sizes b
    known b (inl e) = absurd (let z = zeros b in omega arith)
    known b (inr (j, t, e)) = let a = start_place_lem j t in record { entry = of_vertex 1; number = j; place = record { has = a.has; few = a.few; at = e ∙ a.at }; kept = start_kept j t }

    none_taken : (v i case : ℕ) (a : Source) → OwnSource v i case a → AllTaken (TakenIn sizes queue 0) a → ⊥
    unfolding OwnSource AllTaken
    none_taken v i case from_start o t = o
    none_taken v i case (from_path u j) o t = let l = t.1 in omega arith
    none_taken v i case (from_return u j q k) o t = let l = t.0.1 in omega arith

    closed : (u : Use) → Memᴰ u us → AllTaken (TakenIn sizes queue 0) u.source → (j : ℕ) → Memᴰ j u.targets → T (flags_in sizes bytes u.leads_to j)
    closed u m s j k = go (K.tabled.all u m)
      where
        go : UsedBy (start_sourced program witness) K.start u ⊎ ((w : ℕ) × (i : ℕ) × (case : ℕ) × Listed program witness w i case × UsedBy (case_here program witness sizes table w i case) (case_byte table w i case) u)
            → T (flags_in sizes bytes u.leads_to j)
        go (inl x) =
            let t = (x.targets j).1 k in
            subst (λ (a : Entry). T (flags_in sizes bytes a j)) (sym x.leads_to) (byte_flag sizes bytes (start_place_lem j t) (f.new (byte_of 1 j) (j, t, refl)))
        go (inr (w, i, case, l, x)) =
            absurd (none_taken w i case (case_here program witness sizes table w i case).source (own K bytes bytes w i case l) (subst (AllTaken (TakenIn sizes queue 0)) x.source s))

    pub closing_first : Closing us sizes bytes queue count 0
    closing_first =
        let standing : Standing us sizes bytes queue count = record { queued = f.queued; known = λ b e. known b (f.only b e) } in
        record { standing = standing; within = omega arith; taking = record { sound = sound standing; less = λ t j h. absurd (let l = h.1 in omega arith); closed = closed } }

-- ---- one more

module _ {us : List Use} {sizes : Sizes} {bytes queue : List ℕ} {count head : ℕ} (x : Closing us sizes bytes queue count head) where
  module _ {bytes' queue' : List ℕ} {count' : ℕ} (l : head < count) (g : Grown us sizes bytes queue count bytes' queue' count') (a : TakenAt us sizes (get_or queue head 0) bytes bytes') where
    place : KeptAt us sizes (get_or queue head 0)
    place = x.standing.known (get_or queue head 0) (x.standing.queued.held head l).1

    one : (s : Entry) (k : ℕ) → TakenIn sizes queue' (head + 1) s k → TakenIn sizes queue head s k ⊎ ((s ≡ place.entry) × (k ≡ place.number))
    one s k (h, b, p) = go (eqb h head) refl
      where
        before : PlaceOf sizes s k (get_or queue h 0)
        before = subst (PlaceOf sizes s k) (g.front h (omega arith)) p

        go : (t : Bool) → eqb h head ≡ t → TakenIn sizes queue head s k ⊎ ((s ≡ place.entry) × (k ≡ place.number))
        go true e = inr (same_place sizes (subst (λ (i : ℕ). PlaceOf sizes s k (get_or queue i 0)) (eqb-true h head e) before) place.place)
        go false e = inl (h, (let n = eqb-false h head e in omega arith), before)

    pub closing_next : Closing us sizes bytes' queue' count' (head + 1)
    closing_next =
        record {
          standing = g.standing;
          within = omega (arith, g.longer);
          taking =
              takes x.taking
              (record {
                here = byte_flag sizes bytes place.place (x.standing.queued.held head l).1;
                more = more_flags sizes bytes bytes' g.more;
                sound = sound g.standing;
                one = one;
                answers = a.answers place.entry place.number place.place;
              });
        }

  -- ---- at last

  pub closing_last : count ≤ head → Exactly us (flags_in sizes bytes)
  closing_last l = all_taken us (flags_in sizes bytes) (TakenIn sizes queue head) x.taking all
    where
      all : (t : Entry) (j : ℕ) → T (flags_in sizes bytes t j) → TakenIn sizes queue head t j
      all t j h =
          let (i, b, e) = x.standing.queued.each (place_for sizes t j) (flag_byte sizes bytes t j h) in
          (i, omega arith, subst (PlaceOf sizes t j) (sym e) (flag_place sizes bytes t j h))
