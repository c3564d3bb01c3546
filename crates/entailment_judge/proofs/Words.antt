-- Witness words at a place: a word in its range, and multipliers. What the definitions read from the words left stands at the place,
-- because the words left begin there.
use mathlib.Core.Path.{◌≡◌, refl, ap}
use mathlib.Core.Bool.{Bool, true, false, cond}
use mathlib.Core.List.{List, [], ◌∷◌, map}
use Prim.Native.Nat.{ℕ, zero, suc, ◌+◌, ◌-◌, ◌≤◌, ◌<◌}
use native.Mathlib.Numerals.{add-one}
use native.Mathlib.Omega.{arith}
use borrow.Author.Tests.{ltb-true, ltb-false, le-leb, lt-leb}
use lib.Dec.{ltb}
use lib.IntN.{ℤ, pos, negsuc}
use lib.ListN.{length, get_or, take, drop, length-drop, drop_of_length-le}
use lib.Seq.{drop-cons}
use Rattle.std.specs.Prelude.{Option, Some, None}
use Rattle.words.specs.Limits.{most_multiplier}
use Rattle.reading.specs.Reading.{natural}
use Rattle.entailment_judge.specs.WitnessReader.{ranged, next_in, word_in}
use Rattle.entailment_judge.specs.declared.reader.ReadNumber.{ReadNumber}
use Rattle.numbers.specs.Small.{Small}
use Rattle.certificates.specs.Judgement.{Read, got, missing, and_then, read_within, read_multipliers}
use Rattle.row_buffers.specs.EntryLimits.{weight_limit}
use Rattle.row_buffers.specs.Naturals.{Natural}
use Rattle.entailment_judge.specs.Answers.{after_of, leaf_of}

-- ---- a word in its range

-- what is known of a word that was found, and of the place after it
pub record Found (w : List ℤ) (at low high n next : ℕ) : Type 0 where
  pub read : read_within low high (drop at w) ≡ got n (drop next w)
  pub words : drop at w ≡ pos n ∷ drop next w
  pub after : next ≡ at + 1
  pub inside : next ≤ length w
  pub most : n ≤ high

-- and of one that wasn't, or was
abbrev Told : List ℤ → ℕ → ℕ → ℕ → Option ReadNumber → Type 0
Told w at low high (Some x) = Found w at low high x.number x.at
Told w at low high None = read_within low high (drop at w) ≡ missing

module _ (w : List ℤ) (at low high : ℕ) where
  in_range : (m : ℕ) (a b : Bool) → ltb m low ≡ a → ltb high m ≡ b → at < length w → drop at w ≡ pos m ∷ drop (at + 1) w → Told w at low high (cond a None (cond b None (Some (record { number = m; at = at + 1 }))))
  unfolding read_within
  in_range m true b p q h d = rw (d, lt-leb low m (ltb-true m low p))
  in_range m false true p q h d = rw (d, le-leb low m (ltb-false m low p), lt-leb m high (ltb-true high m q))
  in_range m false false p q h d =
      record { read = rw (d, le-leb low m (ltb-false m low p), le-leb m high (ltb-false high m q)); words = d; after = refl; inside = omega arith; most = ltb-false high m q }

  by_sign : (x : ℤ) → at < length w → drop at w ≡ x ∷ drop (at + 1) w → Told w at low high (ranged low high (at + 1) (natural x))
  by_sign (pos m) h d = in_range m (ltb m low) (ltb high m) refl refl h d
  by_sign (negsuc m) h d = unfold read_within in rw d

  told : Told w at low high (word_in w at low high)
  unfolding word_in
  told = go (ltb at (length w)) refl
    where
      go : (t : Bool) → ltb at (length w) ≡ t → Told w at low high (next_in low high (cond t (at + 1) at) (cond t (Some (get_or w at (pos 0))) None))
      go true p = let h = ltb-true at (length w) p in by_sign (get_or w at (pos 0)) h (rw add-one (drop-cons w at (pos 0) h))
      go false p = unfold read_within in rw (drop_of_length-le w (ltb-false at (length w) p))

  pub found : {x : ReadNumber} → word_in w at low high ≡ Some x → Found w at low high x.number x.at
  found e = rw e at told

  pub not_found : word_in w at low high ≡ None → read_within low high (drop at w) ≡ missing
  not_found e = rw e at told

-- ---- multipliers

module _ (w : List ℤ) where
  pub then_after : {A B : Type 0} (x : Read A) (f : A → B) → after_of w (and_then x (λ a rest. got (f a) rest)) ≡ after_of w x
  unfolding and_then
  then_after (got a rest) f = refl
  then_after missing f = refl

  -- nothing was read where there is no place after it
  pub none_after : {A : Type 0} (x : Read A) → after_of w x ≡ None → x ≡ missing
  none_after (got a rest) e = absurd (let z : ◌≡◌ {A = ℕ} 0 1 = cc in omega arith)
  none_after missing e = refl

  -- nor where the answer is that a word is missing
  pub not_whole : (x : Read Bool) → None ≡ leaf_of w x → x ≡ missing
  not_whole (got b rest) e = absurd (let z : ◌≡◌ {A = ℕ} 0 1 = cc in omega arith)
  not_whole missing e = refl

  -- the place of the words left
  pub next_at : (p : ℕ) → p ≤ length w → length w - length (drop p w) ≡ p
  next_at p h = rw length-drop (omega arith)

  pub none_left : (at : ℕ) → at ≤ length w → after_of w (read_multipliers 0 (drop at w)) ≡ Some at
  unfolding read_multipliers
  none_left at h = ap Some (next_at at h)

  one_read : (at n : ℕ) {x : ReadNumber} → word_in w at 0 most_multiplier ≡ Some x → after_of w (read_multipliers (suc n) (drop at w)) ≡ after_of w (read_multipliers n (drop x.at w))
  unfolding read_multipliers and_then
  one_read at n {x} e = rw (found w at 0 most_multiplier e).read (then_after (read_multipliers n (drop x.at w)) (λ ms. x.number ∷ ms))

  one_missing : (at n : ℕ) → word_in w at 0 most_multiplier ≡ None → after_of w (read_multipliers (suc n) (drop at w)) ≡ None
  unfolding read_multipliers and_then
  one_missing at n e = rw (not_found w at 0 most_multiplier e)

-- what is known of multipliers that were read, and of the place after them
pub record Multipliers (w : List ℤ) (at n next : ℕ) : Type 0 where
  pub list : List ℕ
  pub read : read_multipliers n (drop at w) ≡ got list (drop next w)
  pub words : map pos list ≡ take n (drop at w)
  pub small : Small weight_limit (take n (drop at w))
  pub natural : Natural (take n (drop at w))
  pub inside : at + n ≤ length w
  pub ends : next ≤ length w

module _ (w : List ℤ) where
  more : (at n m second next : ℕ) → Found w at 0 most_multiplier m second → Multipliers w second n next → Multipliers w at (suc n) next
  unfolding read_multipliers and_then Small Natural
  more at n m second next f k =
      let d : drop at w ≡ pos m ∷ drop second w = f.words in
      record {
        list = m ∷ k.list;
        read = rw (f.read, k.read);
        words = rw d (ap (λ (l : List ℤ). pos m ∷ l) k.words);
        small = rw d (f.most, k.small);
        natural = rw d (refl, k.natural);
        inside = omega (arith, f.after, k.inside);
        ends = k.ends;
      }

  pub multipliers : (at n next : ℕ) → at ≤ length w → after_of w (read_multipliers n (drop at w)) ≡ Some next → Multipliers w at n next
  unfolding read_multipliers Small Natural
  multipliers at zero next h g =
      let q : ◌≡◌ {A = Option ℕ} (Some at) (Some next) = rw (next_at w at h) at g in
      let z : next ≡ at = cc in
      record { list = []; read = rw z; words = refl; small = tt; natural = tt; inside = omega arith; ends = omega arith }
  multipliers at (suc n) next h g = go (word_in w at 0 most_multiplier) refl (λ p. multipliers p n next)
    where
      go : (x : Option ReadNumber) → word_in w at 0 most_multiplier ≡ x → ((p : ℕ) → p ≤ length w → after_of w (read_multipliers n (drop p w)) ≡ Some next → Multipliers w p n next) → Multipliers w at (suc n) next
      go (Some x) e later = let f = found w at 0 most_multiplier e in more at n x.number x.at next f (later x.at f.inside (rw (one_read w at n e) at g))
      go None e later = let q = rw (one_missing w at n e) at g in absurd (let z : ◌≡◌ {A = ℕ} 0 1 = cc in omega arith)

  pub not_read : (at n : ℕ) → after_of w (read_multipliers n (drop at w)) ≡ None → read_multipliers n (drop at w) ≡ missing
  not_read at n h = none_after w (read_multipliers n (drop at w)) h
