-- The least set can be computed: the first entailment whose sources are kept is put away and its targets are kept, again and again, until there is no
-- such entailment. It ends, since there are fewer entailments each time; and then each was put away, or its sources are not kept. So the flags are
-- exactly the least set.
use Rattle.std.specs.Prelude.{◌≡◌, refl, ◌⊎◌, Bool, true, false, cond, ◌&&◌, eqb}
use Rattle.std.proofs.Common.{sym, ap, ◌∙◌, inr, arith, eqb→eq}
use Rattle.std.proofs.Math.Path.{subst}
use Rattle.std.proofs.Math.Logic.{inl}
use Rattle.std.proofs.Math.Option.{Option, none, some}
use mathlib.Core.List.Memᴰ
use mathlib.Core.List.{List, [], ◌∷◌, Memᴰ}
use Prim.Native.Nat.{ℕ, zero, suc, ◌≤◌}
use Rattle.std.proofs.Math.Dec.{T, eqb_refl}
use Rattle.std.proofs.Math.ListN.{length}
use Rattle.basics.proofs.Booleans.{and, and_l, and_r, or_l, or_r, or_cases, holds}
use Rattle.certificates.specs.Sources.{Entry, of_vertex, of_summary}
use Rattle.trimming.specs.Kept.{Use, Kept, Flags, keeps, Exactly}
use Rattle.trimming.proofs.Kept.{least, kept_by}
use Rattle.trimming.specs.KeptFlags.{Going, Numbered, Picked, PickedFrom, after_pick, behind, has, keep_all, kept_flags, now, pick, same_entry, with_targets}

-- ---- laws of the flags

same_entry_lem : (t : Entry) → T (same_entry t t)
unfolding same_entry
same_entry_lem (of_vertex v) = eqb_refl v
same_entry_lem (of_summary q) = eqb_refl q

entry_same : (t t' : Entry) → T (same_entry t t') → t ≡ t'
unfolding same_entry
entry_same (of_vertex v) (of_vertex v') h = ap of_vertex (eqb→eq v v' h)
entry_same (of_vertex v) (of_summary q) h = absurd h
entry_same (of_summary q) (of_vertex v) h = absurd h
entry_same (of_summary q) (of_summary q') h = ap of_summary (eqb→eq q q' h)

has_more : (t : Entry) (js : List ℕ) (xs : List Numbered) (t' : Entry) (j : ℕ) → T (has xs t' j) → T (has (with_targets t js xs) t' j)
unfolding has with_targets
has_more t [] xs t' j h = h
has_more t (i ∷ js) xs t' j h = or_r (same_entry t t' && eqb i j) (has (with_targets t js xs) t' j) (has_more t js xs t' j h)

has_targets : (t : Entry) (js : List ℕ) (xs : List Numbered) (j : ℕ) → Memᴰ j js → T (has (with_targets t js xs) t j)
unfolding has with_targets
has_targets t [] xs j m = absurd (Memᴰ.not-nil m)
has_targets t (i ∷ js) xs j (Memᴰ.head e) =
    or_l (same_entry t t && eqb i j) (has (with_targets t js xs) t j) (and (same_entry t t) (eqb i j) (same_entry_lem t) (subst (λ (k : ℕ). T (eqb i k)) (sym e) (eqb_refl i)))
has_targets t (i ∷ js) xs j (Memᴰ.tail m) = or_r (same_entry t t && eqb i j) (has (with_targets t js xs) t j) (has_targets t js xs j m)

-- what is there was there, or is one of those put there
has_split : (t : Entry) (js : List ℕ) (xs : List Numbered) (t' : Entry) (j : ℕ) → T (has (with_targets t js xs) t' j) → T (has xs t' j) ⊎ ((t ≡ t') × Memᴰ j js)
unfolding has with_targets
has_split t [] xs t' j h = inl h
has_split t (i ∷ js) xs t' j h = go (or_cases (same_entry t t' && eqb i j) (has (with_targets t js xs) t' j) h) (has_split t js xs t' j)
  where
    go : T (same_entry t t' && eqb i j) ⊎ T (has (with_targets t js xs) t' j) → (T (has (with_targets t js xs) t' j) → T (has xs t' j) ⊎ ((t ≡ t') × Memᴰ j js)) → T (has xs t' j) ⊎ ((t ≡ t') × Memᴰ j (i ∷ js))
    go (inl g) r = inr (entry_same t t' (and_l (same_entry t t') (eqb i j) g), Memᴰ.head (sym (eqb→eq i j (and_r (same_entry t t') (eqb i j) g))))
    go (inr g) r = later (r g)
      where
        later : T (has xs t' j) ⊎ ((t ≡ t') × Memᴰ j js) → T (has xs t' j) ⊎ ((t ≡ t') × Memᴰ j (i ∷ js))
        later (inl h) = inl h
        later (inr (e, m)) = inr (e, Memᴰ.tail m)

NoneKept : Flags → List Use → Type 0
NoneKept F us = (u : Use) → Memᴰ u us → T (keeps F u.source) → ⊥

Choice : Flags → List Use → Option Picked → Type 0
Choice F us none = NoneKept F us
Choice F us (some p) = PickedFrom F us p

module _ (F : Flags) (u : Use) (us : List Use) where
  picked_first : T (keeps F u.source) → PickedFrom F (u ∷ us) (record { chosen = u; others = us })
  picked_first h = record { kept = h; fewer = refl; from = Memᴰ.head refl; among = λ x m. Memᴰ.tail m; either = either }
    where
      either : (x : Use) → Memᴰ x (u ∷ us) → (x ≡ u) ⊎ Memᴰ x us
      either x (Memᴰ.head e) = inl e
      either x (Memᴰ.tail m) = inr m

  picked_later : (p : Picked) → PickedFrom F us p → PickedFrom F (u ∷ us) (record { chosen = p.chosen; others = u ∷ p.others })
  picked_later p c = record { kept = c.kept; fewer = ap suc c.fewer; from = Memᴰ.tail c.from; among = among; either = either }
    where
      among : (x : Use) → Memᴰ x (u ∷ p.others) → Memᴰ x (u ∷ us)
      among x (Memᴰ.head e) = Memᴰ.head e
      among x (Memᴰ.tail m) = Memᴰ.tail (c.among x m)

      either : (x : Use) → Memᴰ x (u ∷ us) → (x ≡ p.chosen) ⊎ Memᴰ x (u ∷ p.others)
      either x (Memᴰ.head e) = inr (Memᴰ.head e)
      either x (Memᴰ.tail m) = go (c.either x m)
        where
          go : (x ≡ p.chosen) ⊎ Memᴰ x p.others → (x ≡ p.chosen) ⊎ Memᴰ x (u ∷ p.others)
          go (inl e) = inl e
          go (inr k) = inr (Memᴰ.tail k)

  none_more : keeps F u.source ≡ false → NoneKept F us → NoneKept F (u ∷ us)
  unfolding NoneKept
  none_more q n x (Memᴰ.head e) t = subst T (ap (λ (y : Use). keeps F y.source) e ∙ q) t
  none_more q n x (Memᴰ.tail m) t = n x m t

picks : (F : Flags) (us : List Use) → Choice F us (pick F us)
unfolding pick behind Choice
picks F [] = unfold NoneKept in (λ u m. absurd (Memᴰ.not-nil m))
picks F (u ∷ us) = go (keeps F u.source) refl (pick F us) (picks F us)
  where
    go : (b : Bool) → keeps F u.source ≡ b → (o : Option Picked) → Choice F us o → Choice F (u ∷ us) (cond b (some (record { chosen = u; others = us })) (behind u o))
    go true q o c = picked_first F u us (holds q)
    go false q none c = none_more F u us q c
    go false q (some p) c = picked_later F u us p c

-- ---- the flags are exactly the least set

module _ (all : List Use) where
  ended : (us : List Use) (xs : List Numbered) → (Going all) us xs → NoneKept (has xs) us → Exactly all (has xs)
  unfolding NoneKept
  ended us xs g n = record { exactly = λ t j. (g.sound t j, least all (has xs) (record { closed = closed })) }
    where
      closed : (u : Use) → Memᴰ u all → T (keeps (has xs) u.source) → (j : ℕ) → Memᴰ j u.targets → T (has xs u.leads_to j)
      closed u m h = go (g.left u m)
        where
          go : Memᴰ u us ⊎ ((j : ℕ) → Memᴰ j u.targets → T (has xs u.leads_to j)) → (j : ℕ) → Memᴰ j u.targets → T (has xs u.leads_to j)
          go (inl k) = absurd (n u k h)
          go (inr d) = d

  module _ (us : List Use) (xs : List Numbered) (g : (Going all) us xs) (p : Picked) (c : PickedFrom (has xs) us p) where
    going_on : (Going all) p.others (now all us xs g p c)
    going_on = record { among = λ u m. g.among u (c.among u m); sound = sound; left = left }
      where
        sound : (t : Entry) (j : ℕ) → T (has (now all us xs g p c) t j) → Kept all t j
        sound t j h = go (has_split p.chosen.leads_to p.chosen.targets xs t j h)
          where
            go : T (has xs t j) ⊎ ((p.chosen.leads_to ≡ t) × Memᴰ j p.chosen.targets) → Kept all t j
            go (inl k) = g.sound t j k
            go (inr (e, k)) = subst (λ (t' : Entry). Kept all t' j) e (kept_by all (has xs) g.sound p.chosen.source p.chosen.leads_to p.chosen.targets (g.among p.chosen c.from) c.kept j k)

        left : (u : Use) → Memᴰ u all → Memᴰ u p.others ⊎ ((j : ℕ) → Memᴰ j u.targets → T (has (now all us xs g p c) u.leads_to j))
        left u m = go (g.left u m)
          where
            here : (u ≡ p.chosen) ⊎ Memᴰ u p.others → Memᴰ u p.others ⊎ ((j : ℕ) → Memᴰ j u.targets → T (has (now all us xs g p c) u.leads_to j))
            here (inl e) = inr (subst (λ (x : Use). (j : ℕ) → Memᴰ j x.targets → T (has (now all us xs g p c) x.leads_to j)) (sym e) (λ j k. has_targets p.chosen.leads_to p.chosen.targets xs j k))
            here (inr k) = inl k

            go : Memᴰ u us ⊎ ((j : ℕ) → Memᴰ j u.targets → T (has xs u.leads_to j)) → Memᴰ u p.others ⊎ ((j : ℕ) → Memᴰ j u.targets → T (has (now all us xs g p c) u.leads_to j))
            go (inl k) = here (c.either u k)
            go (inr d) = inr (λ j k. has_more p.chosen.leads_to p.chosen.targets xs u.leads_to j (d j k))

  no_use : (xs : List Numbered) (us : List Use) → length us ≤ 0 → NoneKept (has xs) us
  unfolding NoneKept
  no_use xs [] h u m = absurd (Memᴰ.not-nil m)
  no_use xs (x ∷ us) h u m = absurd (omega arith)

  goes : (n : ℕ) (us : List Use) (xs : List Numbered) → length us ≤ n → (Going all) us xs → Exactly all (has (keep_all n us xs))
  unfolding keep_all
  goes zero us xs h g = ended us xs g (no_use xs us h)
  goes (suc n) us xs h g = go (pick (has xs) us) (picks (has xs) us) (λ us' xs' h' g'. goes n us' xs' h' g')
    where
      go : (o : Option Picked) → Choice (has xs) us o → ((us' : List Use) (xs' : List Numbered) → length us' ≤ n → (Going all) us' xs' → Exactly all (has (keep_all n us' xs'))) → Exactly all (has (after_pick (keep_all n) xs o))
      go none c more = unfold after_pick Choice in ended us xs g c
      go (some p) c more = unfold after_pick Choice in more p.others (with_targets p.chosen.leads_to p.chosen.targets xs) (omega (arith, c.fewer)) (going_on us xs g p c)

pub kept_flags_lem : (us : List Use) → Exactly us (kept_flags us)
unfolding kept_flags
kept_flags_lem us = goes us (length us) us [] (omega arith) (record { among = λ u m. m; sound = λ t j h. absurd (unfold has in h); left = λ u m. inl m })
