-- Flags packed into a byte, the first into its lowest bit: a bit of the byte is the flag of its number. So the byte packed from flags that are set for
-- the targets that a witness names has exactly the bits of these.
use Rattle.std.specs.Prelude.{◌≡◌, refl, ◌↔◌, ◌⊎◌, Bool, true, false, T, eqb, ltb, length, set}
use Rattle.std.proofs.Math.Path.{sym, ap}
use Rattle.std.proofs.Common.{◌∙◌, inl, inr, eqb-true, ltb-true, ltb-false, length-drop, drop_of_length-le, length-set, get_or-drop, drop-cons, get_or-set_same, get_or-set_other}
use mathlib.Core.List.{List, [], ◌∷◌, Memᴰ}
use Prim.Native.Nat.{ℕ, zero, suc, ◌+◌, ◌-◌, ◌/◌, ◌%◌, ◌≤◌, ◌<◌}
use native.Mathlib.Omega.{arith}
use Rattle.std.proofs.lemmas.Bool.{eqb-false}
use Rattle.std.proofs.Math.ListN.{get_or, drop, get_or-eq_default}
use Rattle.std.proofs.lemmas.List.{length-replicate, get_or-replicate}
use Rattle.basics.proofs.Booleans.{is_true, holds}
use Rattle.witness_walks.specs.Marks.{marked}
use Rattle.used_targets.specs.UseTable.{names}
use Rattle.used_targets.specs.Packed.{Flagged, doubled, no_flags, packed_of}

packed_below : (l : List ℕ) (m : ℕ) → Flagged l → length l ≤ m → packed_of l < doubled m
unfolding packed_of doubled
packed_below [] zero f h = omega arith
packed_below [] (suc m) f h = omega (arith, packed_below [] m (λ i. omega arith) (omega arith))
packed_below (x ∷ l) zero f h = absurd (omega arith)
packed_below (x ∷ l) (suc m) f h = omega (arith, f 0, packed_below l m (λ i. f (suc i)) (omega arith))

-- that of 7 flags can take one more
packed_most : (l : List ℕ) → Flagged l → length l ≤ 7 → packed_of l ≤ 127
unfolding doubled
packed_most l f h = omega (arith, packed_below l 7 f h)

-- from the last flag on
module _ (l : List ℕ) (long : length l ≡ 8) where
  pub packed_none : packed_of (drop (8 - 0) l) ≡ 0
  unfolding packed_of
  packed_none = rw (drop_of_length-le l {i = 8} (omega arith))

  pub packed_next : (i : ℕ) → i < 8 → packed_of (drop (8 - i) l) + packed_of (drop (8 - i) l) + get_or l (7 - i) 0 ≡ packed_of (drop (8 - (i + 1)) l)
  unfolding packed_of
  packed_next i h =
      let here : 8 - (i + 1) ≡ 7 - i = omega arith in
      let later : suc (7 - i) ≡ 8 - i = omega arith in
      sym (ap packed_of (ap (λ (k : ℕ). drop k l) here ∙ (drop-cons l (7 - i) 0 (omega arith) ∙ ap (λ (k : ℕ). get_or l (7 - i) 0 ∷ drop k l) later)))

  pub packed_fits : Flagged l → (i : ℕ) → i < 8 → packed_of (drop (8 - i) l) ≤ 127
  packed_fits f i h = packed_most (drop (8 - i) l) (λ j. rw (get_or-drop (8 - i) l j 0) (f (8 - i + j))) (omega (arith, length-drop (8 - i) l))

names_packed : (l : List ℕ) → Flagged l → (j : ℕ) → names (packed_of l) j ≡ eqb (get_or l j 0) 1
unfolding names packed_of
names_packed [] f zero = refl
names_packed [] f (suc j) = names_packed [] f j
names_packed (x ∷ l) f zero = let e : (packed_of l + packed_of l + x) % 2 ≡ x = omega (arith, f 0) in rw e
names_packed (x ∷ l) f (suc j) = let e : (packed_of l + packed_of l + x) / 2 ≡ packed_of l = omega (arith, f 0) in rw e (names_packed l (λ i. f (suc i)) j)

-- ---- flags that are set

set_flagged : (l : List ℕ) (k : ℕ) → Flagged l → Flagged (set l k 1)
set_flagged [] k f i = f i
set_flagged (x ∷ l) zero f zero = omega arith
set_flagged (x ∷ l) zero f (suc i) = f (suc i)
set_flagged (x ∷ l) (suc k) f zero = f 0
set_flagged (x ∷ l) (suc k) f (suc i) = set_flagged l k (λ j. f (suc j)) i

length_marked : (js l : List ℕ) → length (marked js l) ≡ length l
unfolding marked
length_marked [] l = refl
length_marked (k ∷ js) l = length_marked js (set l k 1) ∙ length-set l k 1

marked_flagged : (js l : List ℕ) → Flagged l → Flagged (marked js l)
unfolding marked
marked_flagged [] l f = f
marked_flagged (k ∷ js) l f = marked_flagged js (set l k 1) (set_flagged l k f)

stays_set : (js l : List ℕ) (j : ℕ) → j < length l → get_or l j 0 ≡ 1 → get_or (marked js l) j 0 ≡ 1
unfolding marked
stays_set [] l j h e = e
stays_set (k ∷ js) l j h e = stays_set js (set l k 1) j (rw (length-set l k 1) h) (go (eqb j k) refl)
  where
    go : (b : Bool) → eqb j k ≡ b → get_or (set l k 1) j 0 ≡ 1
    go true q = let z : j ≡ k = eqb-true j k q in rw z (get_or-set_same l k 1 0 (rw z at h))
    go false q = get_or-set_other l k j 1 0 (eqb-false j k q) ∙ e

named_set : (js l : List ℕ) {j : ℕ} → j < length l → Memᴰ j js → get_or (marked js l) j 0 ≡ 1
unfolding marked
named_set [] l {j} h m = elim m [ ]
named_set (k ∷ js) l {j} h (Memᴰ.head e) = stays_set js (set l k 1) j (rw (length-set l k 1) h) (rw e (get_or-set_same l k 1 0 (rw e at h)))
named_set (k ∷ js) l {j} h (Memᴰ.tail m) = named_set js (set l k 1) (rw (length-set l k 1) h) m

set_named : (js l : List ℕ) (j : ℕ) → get_or (marked js l) j 0 ≡ 1 → Memᴰ j js ⊎ (get_or l j 0 ≡ 1)
unfolding marked
set_named [] l j e = inr e
set_named (k ∷ js) l j e = go (eqb j k) refl (set_named js (set l k 1) j e)
  where
    go : (b : Bool) → eqb j k ≡ b → Memᴰ j js ⊎ (get_or (set l k 1) j 0 ≡ 1) → Memᴰ j (k ∷ js) ⊎ (get_or l j 0 ≡ 1)
    go b q (inl m) = inl (Memᴰ.tail m)
    go true q (inr h) = inl (Memᴰ.head (eqb-true j k q))
    go false q (inr h) = inr (sym (get_or-set_other l k j 1 0 (eqb-false j k q)) ∙ h)

no_flag : (j : ℕ) → get_or no_flags j 0 ≡ 0
no_flag j = go (ltb j 8) refl
  where
    go : (b : Bool) → ltb j 8 ≡ b → get_or no_flags j 0 ≡ 0
    go true q = get_or-replicate 8 j 0 0 (ltb-true j 8 q)
    go false q = get_or-eq_default no_flags 0 {n = j} (omega (arith, ltb-false j 8 q, length-replicate {A = ℕ} 8 0))

-- flags that are set from none on
pub marked_none : (js : List ℕ) {flags : List ℕ} → flags ≡ marked js no_flags → (length flags ≡ 8) × Flagged flags
marked_none js e = rw e (length_marked js no_flags ∙ length-replicate {A = ℕ} 8 0, marked_flagged js no_flags (λ i. omega (arith, no_flag i)))

pub packed_names : (js : List ℕ) → ((j : ℕ) → Memᴰ j js → j < 8) → (j : ℕ) → T (names (packed_of (marked js no_flags)) j) ↔ Memᴰ j js
packed_names js few j = (there, back)
  where
    bit : names (packed_of (marked js no_flags)) j ≡ eqb (get_or (marked js no_flags) j 0) 1
    bit = names_packed (marked js no_flags) (marked_none js refl).1 j

    there : T (names (packed_of (marked js no_flags)) j) → Memᴰ j js
    there t = go (set_named js no_flags j (eqb-true (get_or (marked js no_flags) j 0) 1 (sym bit ∙ is_true (names (packed_of (marked js no_flags)) j) t)))
      where
        go : Memᴰ j js ⊎ (get_or no_flags j 0 ≡ 1) → Memᴰ j js
        go (inl m) = m
        go (inr e) = absurd (omega (arith, no_flag j))

    back : Memᴰ j js → T (names (packed_of (marked js no_flags)) j)
    back m = holds (bit ∙ rw (named_set js no_flags (omega (arith, few j m, length-replicate {A = ℕ} 8 0)) m) refl)
