-- The bytes of the kept disjuncts and the queue of their places: each place whose byte is 1 is in the queue, and there are as many in it as bytes
-- are 1, since a place is put in when its byte becomes 1. So the queue never has more than it can hold.
use Rattle.std.specs.Prelude.{◌≡◌, refl, ◌⊎◌, Bool, true, false, cond, List, [], ◌∷◌, ℕ, zero, suc, ◌+◌, ◌/◌, ◌≤◌, ◌<◌, T, eqb, length, get_or, set}
use Rattle.std.proofs.Common.{sym, ap, subst, ◌∙◌, inl, inr, arith, eqb-true, ne_eqb, length-set, get_or-set_same, get_or-set_other}
use Rattle.std.proofs.lemmas.Bool.{eqb-false}
use Rattle.words.specs.Limits.{most_disjuncts}
use Rattle.entailment_sources.specs.KeptBytes.{most_entries, most_bytes, byte_of}
use Rattle.used_targets.specs.UseTable.{names}

-- ---- how many bytes are 1

unfoldable pub ones : List ℕ → ℕ
ones [] = 0
ones (b ∷ bs) = cond (eqb b 1) (suc (ones bs)) (ones bs)

one_more : (b m : ℕ) → cond (eqb b 1) (suc m) m ≤ suc m
one_more b m = go (eqb b 1)
  where
    go : (t : Bool) → cond t (suc m) m ≤ suc m
    go true = omega arith
    go false = omega arith

ones_most : (bs : List ℕ) → ones bs ≤ length bs
unfolding ones
ones_most [] = omega arith
ones_most (b ∷ bs) = omega (arith, one_more b (ones bs), ones_most bs)

ones_less : (bs : List ℕ) (i : ℕ) → i < length bs → (get_or bs i 0 ≡ 1 → ⊥) → ones bs < length bs
unfolding ones
ones_less [] i l h = absurd (omega arith)
ones_less (b ∷ bs) zero l h = rw (ne_eqb b 1 h) (omega (arith, ones_most bs))
ones_less (b ∷ bs) (suc i) l h = omega (arith, one_more b (ones bs), ones_less bs i (omega arith) h)

ones_set : (bs : List ℕ) (i : ℕ) → i < length bs → (get_or bs i 0 ≡ 1 → ⊥) → ones (set bs i 1) ≡ suc (ones bs)
unfolding ones
ones_set [] i l h = absurd (omega arith)
ones_set (b ∷ bs) zero l h = rw (ne_eqb b 1 h) refl
ones_set (b ∷ bs) (suc i) l h = ap (λ (m : ℕ). cond (eqb b 1) (suc m) m) (ones_set bs i (omega arith) h) ∙ go (eqb b 1)
  where
    go : (t : Bool) → cond t (suc (suc (ones bs))) (suc (ones bs)) ≡ suc (cond t (suc (ones bs)) (ones bs))
    go true = refl
    go false = refl

none_one : (bs : List ℕ) → ((i : ℕ) → get_or bs i 0 ≡ 0) → ones bs ≡ 0
unfolding ones
none_one [] h = refl
none_one (b ∷ bs) h = rw (ne_eqb b 1 (λ e. let z = h 0 in omega arith)) (none_one bs (λ i. h (suc i)))

-- ---- the queue

-- the first `count` places of the queue are those of the bytes that are 1
pub record Queued (kept queue : List ℕ) (count : ℕ) : Type 0 where
  pub kept_length : length kept ≡ most_bytes
  pub queue_length : length queue ≡ most_bytes
  pub counted : count ≡ ones kept
  pub bits : (b : ℕ) → get_or kept b 0 ≤ 1
  pub each : (b : ℕ) → get_or kept b 0 ≡ 1 → (h : ℕ) × (h < count) × (get_or queue h 0 ≡ b)
  pub held : (h : ℕ) → h < count → (get_or queue h 0 < most_bytes) × (get_or kept (get_or queue h 0) 0 ≡ 1)

pub none_queued : (kept queue : List ℕ) → length kept ≡ most_bytes → length queue ≡ most_bytes → ((b : ℕ) → get_or kept b 0 ≡ 0) → Queued kept queue 0
none_queued kept queue k q z =
    record {
      kept_length = k;
      queue_length = q;
      counted = sym (none_one kept z);
      bits = λ b. omega (arith, z b);
      each = λ b e. absurd (let x = z b in omega arith);
      held = λ h l. absurd (omega arith);
    }

pub few_queued : {kept queue : List ℕ} {count : ℕ} → Queued kept queue count → count ≤ most_bytes
few_queued {kept} x = omega (arith, x.counted, x.kept_length, ones_most kept)

-- the bytes at the places of P become 1, and those that do are put behind what is in the queue
pub record Filled (P : ℕ → Type 0) (kept queue : List ℕ) (count : ℕ) (kept' queue' : List ℕ) (count' : ℕ) : Type 0 where
  pub queued : Queued kept' queue' count'
  pub longer : count ≤ count'
  pub front : (h : ℕ) → h < count → get_or queue' h 0 ≡ get_or queue h 0
  pub more : (b : ℕ) → get_or kept b 0 ≡ 1 → get_or kept' b 0 ≡ 1
  pub new : (b : ℕ) → P b → get_or kept' b 0 ≡ 1
  pub only : (b : ℕ) → get_or kept' b 0 ≡ 1 → (get_or kept b 0 ≡ 1) ⊎ P b

-- just one place
abbrev pub Only : ℕ → ℕ → Type 0
Only place b = b ≡ place

-- target j, where the last bit is 1
abbrev pub LastNamed : ℕ → ℕ → ℕ → ℕ → Type 0
LastNamed rest entry j b = T (names rest 0) × (b ≡ byte_of entry j)

-- those of the targets below j that a byte names
abbrev pub NamedBelow : ℕ → ℕ → ℕ → ℕ → Type 0
NamedBelow byte entry j b = (i : ℕ) × (i < j) × T (names byte i) × (b ≡ byte_of entry i)

-- those of all targets that it names
abbrev pub Named : ℕ → ℕ → ℕ → Type 0
Named byte entry b = (i : ℕ) × T (names byte i) × (b ≡ byte_of entry i)

-- the targets that a byte names are places
abbrev pub NamesPlaces : ℕ → ℕ → Type 0
NamesPlaces byte entry = (j : ℕ) → T (names byte j) → (1 ≤ entry) × (entry ≤ most_entries) × (j < most_disjuncts)

module _ {kept queue : List ℕ} {count : ℕ} (x : Queued kept queue count) where
  -- nothing more
  pub filled_none : {P : ℕ → Type 0} → ((b : ℕ) → P b → get_or kept b 0 ≡ 1) → Filled P kept queue count kept queue count
  filled_none h = record { queued = x; longer = omega arith; front = λ i l. refl; more = λ b e. e; new = h; only = λ b e. inl e }

  module _ (place : ℕ) (inside : place < most_bytes) where
    pub filled_already : get_or kept place 0 ≡ 1 → Filled (Only place) kept queue count kept queue count
    filled_already e = filled_none (λ b s. ap (λ (i : ℕ). get_or kept i 0) s ∙ e)

    module _ (h : get_or kept place 0 ≡ 1 → ⊥) where
      pub a_place_left : count < most_bytes
      a_place_left = omega (arith, x.counted, x.kept_length, ones_less kept place (omega (arith, x.kept_length)) h)

      abbrev kept' : List ℕ
      kept' = set kept place 1

      abbrev queue' : List ℕ
      queue' = set queue count place

      now_one : get_or kept' place 0 ≡ 1
      now_one = get_or-set_same kept place 1 0 (omega (arith, x.kept_length))

      last : get_or queue' count 0 ≡ place
      last = get_or-set_same queue count place 0 (omega (arith, x.queue_length, a_place_left))

      before : (i : ℕ) → i < count → get_or queue' i 0 ≡ get_or queue i 0
      before i l = get_or-set_other queue count i place 0 (λ e. omega arith)

      as_before : (b : ℕ) → (b ≡ place → ⊥) → get_or kept' b 0 ≡ get_or kept b 0
      as_before b d = get_or-set_other kept place b 1 0 d

      by_place : (P : ℕ → Type 0) → P place → ((b : ℕ) → (b ≡ place → ⊥) → P b) → (b : ℕ) → P b
      by_place P p f b = go (eqb b place) refl
        where
          go : (t : Bool) → eqb b place ≡ t → P b
          go true e = subst P (sym (eqb-true b place e)) p
          go false e = f b (eqb-false b place e)

      still_one : (b : ℕ) → get_or kept b 0 ≡ 1 → get_or kept' b 0 ≡ 1
      still_one = by_place (λ b. get_or kept b 0 ≡ 1 → get_or kept' b 0 ≡ 1) (λ e. now_one) (λ b d e. as_before b d ∙ e)

      some_place : (b : ℕ) → (h : ℕ) × (h < count) × (get_or queue h 0 ≡ b) → (h : ℕ) × (h < count + 1) × (get_or queue' h 0 ≡ b)
      some_place b (i, l, e) = (i, omega arith, before i l ∙ e)

      held_below : (i : ℕ) → i < count → (get_or queue' i 0 < most_bytes) × (get_or kept' (get_or queue' i 0) 0 ≡ 1)
      held_below i l = let (b, e) = x.held i l in rw (before i l) (b, still_one (get_or queue i 0) e)

      pub filled_one : Filled (Only place) kept queue count kept' queue' (count + 1)
      filled_one =
          record {
            queued =
                record {
                  kept_length = length-set kept place 1 ∙ x.kept_length;
                  queue_length = length-set queue count place ∙ x.queue_length;
                  counted = omega (arith, x.counted, ones_set kept place (omega (arith, x.kept_length)) h);
                  bits = by_place (λ b. get_or kept' b 0 ≤ 1) (omega (arith, now_one)) (λ b d. omega (arith, as_before b d, x.bits b));
                  each = by_place (λ b. get_or kept' b 0 ≡ 1 → (h : ℕ) × (h < count + 1) × (get_or queue' h 0 ≡ b)) (λ e. (count, omega arith, last))
                      (λ b d e. some_place b (x.each b (sym (as_before b d) ∙ e)));
                  held = held;
                };
            longer = omega arith;
            front = before;
            more = still_one;
            new = λ b e. ap (λ (i : ℕ). get_or kept' i 0) e ∙ now_one;
            only = by_place (λ b. get_or kept' b 0 ≡ 1 → (get_or kept b 0 ≡ 1) ⊎ (b ≡ place)) (λ e. inr refl) (λ b d e. inl (sym (as_before b d) ∙ e));
          }
        where
          held : (i : ℕ) → i < count + 1 → (get_or queue' i 0 < most_bytes) × (get_or kept' (get_or queue' i 0) 0 ≡ 1)
          held i l = go (eqb i count) refl
            where
              go : (t : Bool) → eqb i count ≡ t → (get_or queue' i 0 < most_bytes) × (get_or kept' (get_or queue' i 0) 0 ≡ 1)
              go true e = let s = eqb-true i count e in rw (s, last) (inside, now_one)
              go false e = held_below i (let d = eqb-false i count e in omega arith)

-- one after the other
pub filled_then : {P Q R : ℕ → Type 0} {kept queue kept' queue' kept'' queue'' : List ℕ} {count count' count'' : ℕ}
    → Filled P kept queue count kept' queue' count' → Filled Q kept' queue' count' kept'' queue'' count''
    → ((b : ℕ) → R b → P b ⊎ Q b) → ((b : ℕ) → P b ⊎ Q b → R b) → Filled R kept queue count kept'' queue'' count''
filled_then {P} {Q} {R} {kept} {queue} {kept'} {queue'} {kept''} {queue''} {count} {count'} {count''} x y split join =
    record {
      queued = y.queued;
      longer = omega (arith, x.longer, y.longer);
      front = λ h l. y.front h (omega (arith, x.longer)) ∙ x.front h l;
      more = λ b e. y.more b (x.more b e);
      new = λ b r. new b (split b r);
      only = λ b e. only b (y.only b e);
    }
  where
    new : (b : ℕ) → P b ⊎ Q b → get_or kept'' b 0 ≡ 1
    new b (inl p) = y.more b (x.new b p)
    new b (inr q) = y.new b q

    before : (b : ℕ) → (get_or kept b 0 ≡ 1) ⊎ P b → (get_or kept b 0 ≡ 1) ⊎ R b
    before b (inl e) = inl e
    before b (inr p) = inr (join b (inl p))

    only : (b : ℕ) → (get_or kept' b 0 ≡ 1) ⊎ Q b → (get_or kept b 0 ≡ 1) ⊎ R b
    only b (inl e) = before b (x.only b e)
    only b (inr q) = inr (join b (inr q))

-- the same places, said otherwise
pub filled_as : {P R : ℕ → Type 0} {kept queue kept' queue' : List ℕ} {count count' : ℕ}
    → Filled P kept queue count kept' queue' count' → ((b : ℕ) → R b → P b) → ((b : ℕ) → P b → R b) → Filled R kept queue count kept' queue' count'
filled_as {P} {R} {kept} x f g = record { queued = x.queued; longer = x.longer; front = x.front; more = x.more; new = λ b r. x.new b (f b r); only = λ b e. go b (x.only b e) }
  where
    go : (b : ℕ) → (get_or kept b 0 ≡ 1) ⊎ P b → (get_or kept b 0 ≡ 1) ⊎ R b
    go b (inl e) = inl e
    go b (inr p) = inr (g b p)

-- ---- bit after bit

-- what is left of a byte before bit j
abbrev pub BitsFrom : ℕ → ℕ → ℕ → Type 0
BitsFrom byte j rest = (i : ℕ) → names rest i ≡ names byte (j + i)

pub bits_next : (byte j rest : ℕ) → BitsFrom byte j rest → BitsFrom byte (j + 1) (rest / 2)
unfolding names
bits_next byte j rest h i = let e : j + suc i ≡ j + 1 + i = omega arith in h (suc i) ∙ ap (names byte) e

pub bit_here : (byte j rest : ℕ) → BitsFrom byte j rest → T (names rest 0) → T (names byte j)
bit_here byte j rest h t = let e : j + 0 ≡ j = omega arith in subst (λ (b : Bool). T b) (h 0 ∙ ap (names byte) e) t

pub named_none : {kept queue : List ℕ} {count : ℕ} (byte entry : ℕ) → Queued kept queue count → Filled (NamedBelow byte entry 0) kept queue count kept queue count
named_none byte entry x = filled_none x (λ b n. absurd (let l = n.1 in omega arith))

pub named_next : {kept queue kept' queue' kept'' queue'' : List ℕ} {count count' count'' : ℕ} (byte entry j rest : ℕ) → BitsFrom byte j rest
    → Filled (NamedBelow byte entry j) kept queue count kept' queue' count' → Filled (LastNamed rest entry j) kept' queue' count' kept'' queue'' count''
    → Filled (NamedBelow byte entry (j + 1)) kept queue count kept'' queue'' count''
named_next byte entry j rest h x y = filled_then x y split join
  where
    split : (b : ℕ) → NamedBelow byte entry (j + 1) b → NamedBelow byte entry j b ⊎ LastNamed rest entry j b
    split b (i, l, t, e) = go (eqb i j) refl
      where
        go : (s : Bool) → eqb i j ≡ s → NamedBelow byte entry j b ⊎ LastNamed rest entry j b
        go true q =
            let same = eqb-true i j q in
            let z : i ≡ j + 0 = omega arith in
            inr (subst (λ (v : Bool). T v) (ap (names byte) z ∙ sym (h 0)) t, e ∙ ap (byte_of entry) same)
        go false q = inl (i, (let d = eqb-false i j q in omega arith), t, e)

    join : (b : ℕ) → NamedBelow byte entry j b ⊎ LastNamed rest entry j b → NamedBelow byte entry (j + 1) b
    join b (inl (i, l, t, e)) = (i, omega arith, t, e)
    join b (inr (t, e)) = (j, omega arith, bit_here byte j rest h t, e)

pub named_all : {kept queue kept' queue' : List ℕ} {count count' : ℕ} (byte entry j : ℕ) → most_disjuncts ≤ j → NamesPlaces byte entry
    → Filled (NamedBelow byte entry j) kept queue count kept' queue' count' → Filled (Named byte entry) kept queue count kept' queue' count'
named_all byte entry j l p x = filled_as x (λ b n. (n.0, (let k = (p n.0 n.1).2 in omega arith), n.1, n.2)) (λ b n. (n.0, n.2, n.3))
