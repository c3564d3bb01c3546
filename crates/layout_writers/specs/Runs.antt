-- What a loop that writes words one part after the other has done so far: what is left to write, written from here on, gives what all gives from the
-- beginning on. So a part more is one law, and where nothing is left all is written.
use Rattle.std.specs.Prelude.{◌≡◌, refl, List, [], ◌∷◌, ◌++◌, ℕ, suc, ◌+◌, ◌≤◌, ◌<◌, ℤ, pos, length, get_or, take, drop, set}
use Rattle.std.proofs.Common.{sym, ap, ◌∙◌, add-zero, le_of_lt, add-one, arith, length-append, length-drop, length-set, length-take-le, take-suc, get_or-drop}
use Rattle.std.proofs.lemmas.List.Edits.{sets}
use Rattle.std.proofs.Math.Seq.{length-sets}
use Rattle.basics.proofs.Stores.{sets_append, sets_next, sets_apart}

-- what is left, cut in two: the part at hand, and what comes behind it
pub record Cut (left part later : List ℤ) : Type 0 where
  pub is : left ≡ part ++ later

-- ---- how many words so far

pub record Counted (all left : List ℤ) (size : ℕ) : Type 0 where
  pub rest : size + length left ≡ length all

pub none_counted : (all : List ℤ) → Counted all all 0
none_counted all = record { rest = omega arith }

pub counted_next : {all left part later : List ℤ} {size n : ℕ} → Counted all left size → Cut left part later → n ≡ length part → Counted all later (size + n)
counted_next {part = part} {later = later} w e h = record { rest = omega (arith, w.rest, ap length e.is, length-append part later) }

pub all_counted : {all left : List ℤ} {size : ℕ} → Counted all left size → left ≡ [] → size ≡ length all
all_counted w e = omega (arith, w.rest, ap length e)

-- ---- the words so far, from `to` on

pub record Written (before buffer : List ℤ) (to : ℕ) (all left : List ℤ) (size : ℕ) : Type 0 where
  pub rest : size + length left ≡ length all
  pub stored : sets buffer (to + size) left ≡ sets before to all
  pub long : length buffer ≡ length before

pub none_written : (buffer : List ℤ) (to : ℕ) (all : List ℤ) → Written buffer buffer to all all 0
none_written buffer to all = record { rest = omega arith; stored = ap (λ (i : ℕ). sets buffer i all) (add-zero to); long = refl }

-- the part at hand fits
pub part_fits : {before buffer all left part later : List ℤ} {to size : ℕ} → Written before buffer to all left size → Cut left part later → to + length all ≤ length before
    → to + size + length part ≤ length buffer
part_fits {part = part} {later = later} w e h = omega (arith, w.rest, w.long, ap length e.is, length-append part later)

pub written_next : {before buffer after all left part later : List ℤ} {to size n : ℕ} → Written before buffer to all left size → Cut left part later → n ≡ length part
    → after ≡ sets buffer (to + size) part → Written before after to all later (size + n)
written_next {buffer = buffer} {after = after} {part = part} {later = later} {to = to} {size = size} {n = n} w e h g =
    let place : to + (size + n) ≡ to + size + length part = omega arith in
    record {
      rest = omega (arith, w.rest, ap length e.is, length-append part later);
      stored =
          ap (λ (i : ℕ). sets after i later) place
          ∙ (ap (λ (l : List ℤ). sets l (to + size + length part) later) g ∙ (sets_append part later buffer (to + size) ∙ (ap (sets buffer (to + size)) (sym e.is) ∙ w.stored)));
      long = ap length g ∙ (length-sets buffer (to + size) part ∙ w.long);
    }

pub all_written : {before buffer all left : List ℤ} {to size : ℕ} → Written before buffer to all left size → left ≡ [] → (size ≡ length all) × (buffer ≡ sets before to all)
all_written {buffer = buffer} {to = to} {size = size} w e = (omega (arith, w.rest, ap length e), sym (ap (sets buffer (to + size)) e) ∙ w.stored)

-- ---- the words so far, where all fit: else they are only counted, and the buffer keeps its length

pub record Fitted (before buffer : List ℤ) (to : ℕ) (all left : List ℤ) (size : ℕ) : Type 0 where
  pub counted : Counted all left size
  pub long : length buffer ≡ length before
  pub written : to + length all ≤ length before → Written before buffer to all left size

pub none_fitted : (buffer : List ℤ) (to : ℕ) (all : List ℤ) → Fitted buffer buffer to all all 0
none_fitted buffer to all = record { counted = none_counted all; long = refl; written = λ h. none_written buffer to all }

pub fitted_next : {before buffer after all left part later : List ℤ} {to size n : ℕ} → Fitted before buffer to all left size → Cut left part later → n ≡ length part → length after ≡ length buffer
    → (to + size + length part ≤ length buffer → after ≡ sets buffer (to + size) part) → Fitted before after to all later (size + n)
fitted_next w e h k g =
    record {
      counted = counted_next w.counted e h;
      long = k ∙ w.long;
      written = λ fits. written_next (w.written fits) e h (g (part_fits (w.written fits) e fits));
    }

pub all_fitted : {before buffer all left : List ℤ} {to size : ℕ} → Fitted before buffer to all left size → left ≡ []
    → (size ≡ length all) × (to + length all ≤ length before → buffer ≡ sets before to all)
all_fitted w e = (all_counted w.counted e, λ fits. (all_written (w.written fits) e).1)

-- ---- words as they are

pub copied_next : {buffer : List ℤ} (words before : List ℤ) (at to i : ℕ) → at + i < length words → buffer ≡ sets before to (take i (drop at words))
    → set buffer (to + i) (get_or words (at + i) (pos 0)) ≡ sets before to (take (i + 1) (drop at words))
copied_next words before at to i h e =
    let part : List ℤ = drop at words in
    let inside : i < length part = omega (arith, length-drop at words) in
    let many : length (take i part) ≡ i = length-take-le i part (le_of_lt inside) in
    rw (e, add-one i, take-suc part i (pos 0) inside, get_or-drop at words i (pos 0))
    (ap (λ (n : ℕ). set (sets before to (take i part)) (to + n) (get_or words (at + i) (pos 0))) (sym many) ∙ sets_next (take i part) before to (get_or words (at + i) (pos 0)))

-- ---- words and their places, in two runs: the words from `start` on, the places from `table` on, which end before `start`

pub record Placed (before buffer : List ℤ) (table start : ℕ) (allPlaces all places left : List ℤ) (i at : ℕ) : Type 0 where
  pub rest : at + length left ≡ length all
  pub apart : table + i + length places ≤ start
  pub stored : sets (sets buffer (table + i) places) (start + at) left ≡ sets (sets before table allPlaces) start all
  pub long : length buffer ≡ length before

pub none_placed : (buffer : List ℤ) (table start : ℕ) (places all : List ℤ) → table + length places ≤ start → Placed buffer buffer table start places all places all 0 0
none_placed buffer table start places all h =
    record {
      rest = omega arith;
      apart = omega arith;
      stored = ap (λ (i : ℕ). sets (sets buffer i places) (start + 0) all) (add-zero table) ∙ ap (λ (i : ℕ). sets (sets buffer table places) i all) (add-zero start);
      long = refl;
    }

-- the part at hand fits
pub placed_fits : {before buffer allPlaces all places left part later : List ℤ} {table start i at : ℕ} → Placed before buffer table start allPlaces all places left i at → Cut left part later
    → start + length all ≤ length before → start + at + length part ≤ length buffer
placed_fits {part = part} {later = later} w e h = omega (arith, w.rest, w.long, ap length e.is, length-append part later)

-- and ends where they do at the latest
pub placed_ends : {before buffer allPlaces all places left part later : List ℤ} {table start i at : ℕ} → Placed before buffer table start allPlaces all places left i at → Cut left part later
    → at + length part ≤ length all
placed_ends {part = part} {later = later} w e = omega (arith, w.rest, ap length e.is, length-append part later)

module _ {before buffer after allPlaces all places morePlaces left part later : List ℤ} {x : ℤ} {table start i at n : ℕ} (w : Placed before buffer table start allPlaces all places left i at)
    (p : places ≡ x ∷ morePlaces) (e : Cut left part later) (h : n ≡ length part) (g : after ≡ sets (set buffer (table + i) x) (start + at) part) where
  abbrev with_place : List ℤ
  with_place = set buffer (table + i) x

  fits : table + (i + 1) + length morePlaces ≤ start
  fits = omega (arith, w.apart, ap length p)

  -- the places go before the words that are written already
  turned : sets (sets with_place (start + at) part) (table + (i + 1)) morePlaces ≡ sets (sets buffer (table + i) places) (start + at) part
  turned =
      let e' : table + (i + 1) ≡ suc (table + i) = omega arith in
      sets_apart morePlaces part with_place (table + (i + 1)) (start + at) (omega (arith, fits))
      ∙ (ap (λ (j : ℕ). sets (sets with_place j morePlaces) (start + at) part) e' ∙ ap (λ (l : List ℤ). sets (sets buffer (table + i) l) (start + at) part) (sym p))

  pub placed_next : Placed before after table start allPlaces all morePlaces later (i + 1) (at + n)
  placed_next =
      let place : start + (at + n) ≡ start + at + length part = omega arith in
      record {
        rest = omega (arith, w.rest, ap length e.is, length-append part later);
        apart = fits;
        stored =
            ap (λ (j : ℕ). sets (sets after (table + (i + 1)) morePlaces) j later) place
            ∙ (ap (λ (l : List ℤ). sets (sets l (table + (i + 1)) morePlaces) (start + at + length part) later) g
            ∙ (ap (λ (l : List ℤ). sets l (start + at + length part) later) turned
            ∙ (sets_append part later (sets buffer (table + i) places) (start + at) ∙ (ap (sets (sets buffer (table + i) places) (start + at)) (sym e.is) ∙ w.stored))));
        long = ap length g ∙ (length-sets with_place (start + at) part ∙ (length-set buffer (table + i) x ∙ w.long));
      }

pub all_placed : {before buffer allPlaces all places left : List ℤ} {table start i at : ℕ} → Placed before buffer table start allPlaces all places left i at → places ≡ [] → left ≡ []
    → buffer ≡ sets (sets before table allPlaces) start all
all_placed {buffer = buffer} {places = places} {table = table} {start = start} {i = i} {at = at} w p e =
    sym (ap (λ (l : List ℤ). sets (sets buffer (table + i) l) (start + at) []) p) ∙ (sym (ap (sets (sets buffer (table + i) places) (start + at)) e) ∙ w.stored)

-- ---- both where all fit: else the words are only counted

pub record FittedPlaces (before buffer : List ℤ) (table start : ℕ) (allPlaces all places left : List ℤ) (i at : ℕ) : Type 0 where
  pub counted : Counted all left at
  pub long : length buffer ≡ length before
  pub placed : start + length all ≤ length before → Placed before buffer table start allPlaces all places left i at

pub none_fitted_places : (buffer : List ℤ) (table start : ℕ) (places all : List ℤ) → table + length places ≤ start → FittedPlaces buffer buffer table start places all places all 0 0
none_fitted_places buffer table start places all h = record { counted = none_counted all; long = refl; placed = λ fits. none_placed buffer table start places all h }

pub fitted_places_next : {before buffer middle after allPlaces all places morePlaces left part later : List ℤ} {x : ℤ} {table start i at n : ℕ}
    → FittedPlaces before buffer table start allPlaces all places left i at → places ≡ x ∷ morePlaces → Cut left part later → n ≡ length part → middle ≡ set buffer (table + i) x → length after ≡ length middle
    → (start + at + length part ≤ length middle → after ≡ sets middle (start + at) part) → FittedPlaces before after table start allPlaces all morePlaces later (i + 1) (at + n)
fitted_places_next {before} {buffer} {middle} {after} {part = part} {x = x} {table = table} {start = start} {i = i} {at = at} w p e h m k g =
    let same : length middle ≡ length buffer = ap length m ∙ length-set buffer (table + i) x in
    record {
      counted = counted_next w.counted e h;
      long = k ∙ (same ∙ w.long);
      placed =
          λ fits. let run = w.placed fits in
          placed_next run p e h (g (omega (arith, same, placed_fits run e fits)) ∙ ap (λ (l : List ℤ). sets l (start + at) part) m);
    }

pub all_fitted_places : {before buffer allPlaces all places left : List ℤ} {table start i at : ℕ} → FittedPlaces before buffer table start allPlaces all places left i at → places ≡ [] → left ≡ []
    → (at ≡ length all) × (start + length all ≤ length before → buffer ≡ sets (sets before table allPlaces) start all)
all_fitted_places w p e = (all_counted w.counted e, λ fits. all_placed (w.placed fits) p e)
