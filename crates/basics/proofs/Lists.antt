-- Lists: members by place, members of a flat map, one put in at a place and copies put in anywhere, members with their numbers, what holds of each
-- member, and the list f 1, f 2, .., f n.
use Rattle.std.specs.Prelude.{◌≡◌, ◌⊎◌, Bool, true, false, ltb, length, get_or}
use Rattle.std.proofs.Math.Path.{refl, sym, ap}
use Rattle.std.proofs.Common.{ap₂, ◌∙◌, subst, inl, inr, zero-add, suc-add, add-one, ltb-true, ltb-false}
use mathlib.Core.List.Memᴰ
use mathlib.Core.List.{List, [], ◌∷◌, ◌++◌, map, flat_map, Memᴰ}
use Rattle.std.proofs.Math.Option.{some, some-injective}
use Prim.Native.Nat.{ℕ, zero, suc, ◌+◌, ◌≤◌, ◌<◌}
use Rattle.std.proofs.Math.Nat.{add-zero}
use native.Mathlib.Omega.{arith}
use Rattle.std.proofs.Math.ListN.{get_elem?, length-append}
use Rattle.basics.specs.Lists.{Each, WithCopies, copy, flat_map_from, gathered, kept, listed, listed_from, map_from, no_copies, put_in}

-- ---- members

pub member_at : {A : Type 0} (xs : List A) (j : ℕ) {x : A} → get_elem? xs j ≡ some x → Memᴰ x xs
member_at [] j e = absurd (let z : ◌≡◌ {A = ℕ} 0 1 = cc in omega arith)
member_at (y ∷ xs) zero {x} e = Memᴰ.head (sym (some-injective y x e))
member_at (y ∷ xs) (suc j) e = Memᴰ.tail (member_at xs j e)

pub get_d_at : {A : Type 0} (xs : List A) (j : ℕ) (d : A) {x : A} → get_elem? xs j ≡ some x → get_or xs j d ≡ x
get_d_at [] j d e = cc
get_d_at (y ∷ xs) zero d e = cc
get_d_at (y ∷ xs) (suc j) d e = get_d_at xs j d e

-- a member doesn't depend on the default
pub get_d_any : {A : Type 0} (xs : List A) (i : ℕ) (a b : A) → i < length xs → get_or xs i a ≡ get_or xs i b
get_d_any [] i a b h = absurd (omega arith)
get_d_any (x ∷ xs) zero a b h = refl
get_d_any (x ∷ xs) (suc i) a b h = get_d_any xs i a b (omega arith)

pub member_flat_map : {A B : Type 0} (f : A → List B) {x : A} {xs : List A} {y : B} → Memᴰ x xs → Memᴰ y (f x) → Memᴰ y (flat_map f xs)
unfolding flat_map
member_flat_map f {y = y} (Memᴰ.head {xs = xs} e) k = Memᴰ.append_left (flat_map f xs) (subst (λ z. Memᴰ y (f z)) e k)
member_flat_map f (Memᴰ.tail {x = x} m) k = Memᴰ.append_right (f x) (member_flat_map f m k)

module _ {A : Type 0} where
  pub length_put_in : (i : ℕ) (x : A) (ys : List A) → length (put_in i x ys) ≡ suc (length ys)
  unfolding put_in
  length_put_in zero x ys = refl
  length_put_in (suc i) x [] = refl
  length_put_in (suc i) x (y ∷ ys) = ap suc (length_put_in i x ys)

  -- what stands behind stays behind
  pub put_in_before : (i : ℕ) (x : A) (ys zs : List A) → i ≤ length ys → put_in i x (ys ++ zs) ≡ put_in i x ys ++ zs
  unfolding put_in
  put_in_before zero x ys zs h = refl
  put_in_before (suc i) x [] zs h = absurd (omega arith)
  put_in_before (suc i) x (y ∷ ys) zs h = ap (λ (l : List A). y ∷ l) (put_in_before i x ys zs (omega arith))

  -- right after all others
  pub put_in_after : (x : A) (ys : List A) → put_in (length ys) x ys ≡ ys ++ (x ∷ [])
  unfolding put_in
  put_in_after x [] = refl
  put_in_after x (y ∷ ys) = ap (λ (l : List A). y ∷ l) (put_in_after x ys)

module _ {A : Type 0} {x : A} where
  pub none_put_in : (ys : List A) → WithCopies x 0 ys ys
  none_put_in [] = no_copies
  none_put_in (y ∷ ys) = kept (none_put_in ys)

  pub one_put_in : (i : ℕ) (ys : List A) → WithCopies x 1 ys (put_in i x ys)
  unfolding put_in
  one_put_in zero ys = copy (none_put_in ys)
  one_put_in (suc i) [] = copy no_copies
  one_put_in (suc i) (y ∷ ys) = kept (one_put_in i ys)

  pub copies_append : {n m : ℕ} {ys zs ys' zs' : List A} → WithCopies x n ys zs → WithCopies x m ys' zs' → WithCopies x (n + m) (ys ++ ys') (zs ++ zs')
  copies_append {m = m} {ys' = ys'} {zs'} no_copies k = subst (λ (c : ℕ). WithCopies x c ys' zs') (sym (zero-add m)) k
  copies_append (kept h) k = kept (copies_append h k)
  copies_append {m = m} {ys' = ys'} {zs'} (copy {n} {ys} {zs} h) k = subst (λ (c : ℕ). WithCopies x c (ys ++ ys') (x ∷ (zs ++ zs'))) (sym (suc-add n m)) (copy (copies_append h k))

  pub copies_length : {n : ℕ} {ys zs : List A} → WithCopies x n ys zs → length zs ≡ length ys + n
  copies_length no_copies = omega arith
  copies_length (kept h) = omega (arith, copies_length h)
  copies_length (copy h) = omega (arith, copies_length h)

  pub copies_map : {B : Type 0} (f : A → B) {n : ℕ} {ys zs : List A} → WithCopies x n ys zs → WithCopies (f x) n (map f ys) (map f zs)
  copies_map f no_copies = no_copies
  copies_map f (kept h) = kept (copies_map f h)
  copies_map f (copy h) = copy (copies_map f h)

-- ---- members with their numbers

module _ {A B : Type 0} where
  pub length_map_from : (f : ℕ → A → B) (i : ℕ) (xs : List A) → length (map_from f i xs) ≡ length xs
  unfolding map_from
  length_map_from f i [] = refl
  length_map_from f i (x ∷ xs) = ap suc (length_map_from f (suc i) xs)

  -- the one at a place; past the end it is e, where that is made of d
  pub get_or_map_from : (f : ℕ → A → B) (d : A) (e : B) → ((j : ℕ) → f j d ≡ e) → (i j : ℕ) (xs : List A) → get_or (map_from f i xs) j e ≡ f (i + j) (get_or xs j d)
  unfolding map_from
  get_or_map_from f d e h i j [] = sym (h (i + j))
  get_or_map_from f d e h i zero (x ∷ xs) = rw add-zero
  get_or_map_from f d e h i (suc j) (x ∷ xs) = let s : suc i + j ≡ i + suc j = omega arith in rw s at (get_or_map_from f d e h (suc i) j xs)

-- where each is made itself, so is the list
pub map_from_same : {A : Type 0} (f : ℕ → A → A) (d : A) (i : ℕ) (xs : List A) → ((j : ℕ) → j < length xs → f (i + j) (get_or xs j d) ≡ get_or xs j d) → map_from f i xs ≡ xs
unfolding map_from
map_from_same f d i [] h = refl
map_from_same {A} f d i (x ∷ xs) h =
    ap₂ (λ (y : A) (l : List A). y ∷ l) (rw (add-zero i) at (h 0 (omega arith)))
    (map_from_same f d (suc i) xs (λ j l. let s : suc i + j ≡ i + suc j = omega arith in rw s (h (suc j) (omega arith))))

module _ {A : Type 0} (f : ℕ → A) where
  pub length_listed : (m : ℕ) → length (listed f m) ≡ m
  unfolding listed
  length_listed zero = refl
  length_listed (suc m) = length-append (listed f m) (f (m + 1) ∷ []) ∙ (add-one (length (listed f m)) ∙ ap suc (length_listed m))

  grown : (start m : ℕ) → listed_from f start (suc m) ≡ listed_from f start m ++ (f (start + m) ∷ [])
  unfolding listed_from
  grown start zero = rw add-zero
  grown start (suc m) = let e : suc start + m ≡ start + suc m = omega arith in ap (λ (l : List A). f start ∷ l) (rw e at (grown (suc start) m))

  pub listed_from_lem : (m : ℕ) → listed f m ≡ listed_from f 1 m
  unfolding listed
  listed_from_lem zero = unfold listed_from in refl
  listed_from_lem (suc m) = let e : 1 + m ≡ m + 1 = omega arith in rw (listed_from_lem m) (rw e at (sym (grown 1 m)))

  get_elem_from : (start m i : ℕ) → i < m → get_elem? (listed_from f start m) i ≡ some (f (start + i))
  unfolding listed_from
  get_elem_from start zero i h = absurd (omega arith)
  get_elem_from start (suc m) zero h = rw add-zero
  get_elem_from start (suc m) (suc i) h = let e : suc start + i ≡ start + suc i = omega arith in rw e at (get_elem_from (suc start) m i (omega arith))

  pub get_elem_listed : (m i : ℕ) → i < m → get_elem? (listed f m) i ≡ some (f (i + 1))
  get_elem_listed m i h = let e : 1 + i ≡ i + 1 = omega arith in rw (listed_from_lem m) (rw e at (get_elem_from 1 m i h))

  pub get_or_listed : (m i : ℕ) (d : A) → i < m → get_or (listed f m) i d ≡ f (i + 1)
  get_or_listed m i d h = get_d_at (listed f m) i d (get_elem_listed m i h)

  pub listed_member : (m i : ℕ) → i < m → Memᴰ (f (i + 1)) (listed f m)
  listed_member m i h = member_at (listed f m) i (get_elem_listed m i h)

  pub member_listed : (m : ℕ) {x : A} → Memᴰ x (listed f m) → (i : ℕ) × (i < m) × (x ≡ f (i + 1))
  unfolding listed
  member_listed zero k = absurd (Memᴰ.not-nil k)
  member_listed (suc m) {x} k = go (Memᴰ.append_cases (listed f m) k) (λ h. member_listed m h)
    where
      go : Memᴰ x (listed f m) ⊎ Memᴰ x (f (m + 1) ∷ []) → (Memᴰ x (listed f m) → (i : ℕ) × (i < m) × (x ≡ f (i + 1))) → (i : ℕ) × (i < suc m) × (x ≡ f (i + 1))
      go (inl h) r = let y = r h in (y.0, omega (arith, y.1), y.2)
      go (inr h) r = (m, omega arith, Memᴰ.eq_of_singleton h)

-- two that agree on 1..m
pub listed_same : {A : Type 0} (f g : ℕ → A) (m : ℕ) → ((i : ℕ) → 1 ≤ i → i ≤ m → f i ≡ g i) → listed f m ≡ listed g m
unfolding listed
listed_same f g zero h = refl
listed_same {A} f g (suc m) h =
    ap₂ (λ (l : List A) (x : A). l ++ (x ∷ [])) (listed_same f g m (λ i l k. h i l (omega arith))) (h (m + 1) (omega arith) (omega arith))

pub member_gathered : {A : Type 0} (f : ℕ → List A) (m : ℕ) {x : A} → Memᴰ x (gathered f m) → (i : ℕ) × (i < m) × Memᴰ x (f (i + 1))
unfolding gathered
member_gathered f zero k = absurd (Memᴰ.not-nil k)
member_gathered f (suc m) {x} k = go (Memᴰ.append_cases (gathered f m) k) (λ h. member_gathered f m h)
  where
    go : Memᴰ x (gathered f m) ⊎ Memᴰ x (f (m + 1)) → (Memᴰ x (gathered f m) → (i : ℕ) × (i < m) × Memᴰ x (f (i + 1))) → (i : ℕ) × (i < suc m) × Memᴰ x (f (i + 1))
    go (inl h) r = let y = r h in (y.0, omega (arith, y.1), y.2)
    go (inr h) r = (m, omega arith, h)

pub gathered_member : {A : Type 0} (f : ℕ → List A) (m i : ℕ) {x : A} → i < m → Memᴰ x (f (i + 1)) → Memᴰ x (gathered f m)
unfolding gathered
gathered_member f zero i h k = absurd (omega arith)
gathered_member f (suc m) i {x} h k = go (ltb i m) refl (λ l. gathered_member f m i l k)
  where
    go : (b : Bool) → ltb i m ≡ b → (i < m → Memᴰ x (gathered f m)) → Memᴰ x (gathered f m ++ f (m + 1))
    go true q r = Memᴰ.append_left (f (m + 1)) (r (ltb-true i m q))
    go false q r = let l : i ≡ m = omega (arith, ltb-false i m q) in Memᴰ.append_right (gathered f m) (subst (λ j. Memᴰ x (f (j + 1))) l k)

pub each_less : {A : Type 0} {P Q : A → Type 0} → ((x : A) → P x → Q x) → (xs : List A) → Each P xs → Each Q xs
unfolding Each
each_less h [] k = tt
each_less h (x ∷ xs) k = (h x k.0, each_less h xs k.1)

module _ {A : Type 0} (P : A → Type 0) where
  pub each_append : (xs ys : List A) → Each P xs → Each P ys → Each P (xs ++ ys)
  unfolding Each
  each_append [] ys h k = k
  each_append (x ∷ xs) ys h k = (h.0, each_append xs ys h.1 k)

  pub each_gathered : (f : ℕ → List A) (m : ℕ) → ((i : ℕ) → Each P (f i)) → Each P (gathered f m)
  unfolding gathered
  each_gathered f zero h = unfold Each in tt
  each_gathered f (suc m) h = each_append (gathered f m) (f (m + 1)) (each_gathered f m h) (h (m + 1))

  module _ {B : Type 0} where
    pub each_map : (f : B → A) (xs : List B) → ((x : B) → P (f x)) → Each P (map f xs)
    unfolding Each
    each_map f [] h = tt
    each_map f (x ∷ xs) h = (h x, each_map f xs h)

    -- the numbers are below m
    pub each_numbered : (f : ℕ → B → A) (i : ℕ) (xs : List B) (m : ℕ) → m ≡ i + length xs → ((j : ℕ) (x : B) → j < m → P (f j x)) → Each P (map_from f i xs)
    unfolding Each map_from
    each_numbered f i [] m e h = tt
    each_numbered f i (x ∷ xs) m e h = (h i x (omega arith), each_numbered f (suc i) xs m (omega arith) h)

    pub each_flat_numbered : (f : ℕ → B → List A) (i : ℕ) (xs : List B) (m : ℕ) → m ≡ i + length xs → ((j : ℕ) (x : B) → j < m → Each P (f j x)) → Each P (flat_map_from f i xs)
    unfolding flat_map_from
    each_flat_numbered f i [] m e h = unfold Each in tt
    each_flat_numbered f i (x ∷ xs) m e h = each_append (f i x) (flat_map_from f (suc i) xs) (h i x (omega arith)) (each_flat_numbered f (suc i) xs m (omega arith) h)

    -- whatever they are
    pub each_map_from : (f : ℕ → B → A) (i : ℕ) (xs : List B) → ((j : ℕ) (x : B) → P (f j x)) → Each P (map_from f i xs)
    each_map_from f i xs h = each_numbered f i xs (i + length xs) refl (λ j x l. h j x)

    pub each_flat_map_from : (f : ℕ → B → List A) (i : ℕ) (xs : List B) → ((j : ℕ) (x : B) → Each P (f j x)) → Each P (flat_map_from f i xs)
    each_flat_map_from f i xs h = each_flat_numbered f i xs (i + length xs) refl (λ j x l. h j x)
