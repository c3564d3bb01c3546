-- The words of a split at a place: −1, and a row whose constant and coefficients are each within a limit. The place after what is read is the
-- place of the words left, so the row is read one number after the other.
use mathlib.Core.Path.{◌≡◌, refl, sym, ap, ◌∙◌}
use mathlib.Core.Bool.{Bool, true, false, cond}
use mathlib.Core.List.{List, [], ◌∷◌}
use Prim.Native.Nat.{ℕ, zero, suc, ◌+◌, ◌-◌, ◌≤◌}
use native.Mathlib.Numerals.{add-one}
use native.Mathlib.Omega.{arith}
use borrow.Author.Tests.{ltb-true, ltb-false}
use lib.Dec.{ltb, eqb-suc-zero}
use lib.IntN.{ℤ, pos, negsuc}
use lib.ListN.{length, get_or, drop, drop_of_length-le}
use lib.Seq.{drop-cons}
use Rattle.std.specs.Prelude.{Some, None}
use Rattle.basics.specs.Integers.{eq_z}
use Rattle.rows.specs.Rows.{Row}
use Rattle.words.specs.Limits.{coefficient_limit}
use Rattle.words.specs.Words.{small}
use Rattle.words.specs.RowWords.{is_constant}
use Rattle.certificates.specs.Judgement.{Read, got, missing, and_then, read_constant, read_coefficient, read_coefficients, read_row}
use Rattle.entailment_judge.specs.WitnessReader.{next_word, place_after, read_at}
use Rattle.entailment_judge.specs.Answers.{after_of}
use Rattle.entailment_judge.specs.Sides.{splits_at}
use Rattle.entailment_judge.specs.WordsLeft.{Leaves, left_at, constant_leaves, coefficient_leaves}
use Rattle.entailment_judge.specs.declared.reader.ReadWord.{ReadWord}
use Rattle.entailment_judge.proofs.Words.{next_at, then_after, none_after}

-- ---- one word

module _ (w : List ℤ) (at : ℕ) where
  there : {x : ℤ} → next_word w at ≡ Some x → (drop at w ≡ x ∷ drop (place_after w at) w) × (place_after w at ≤ length w)
  there {x} e = go (ltb at (length w)) refl e
    where
      go : (t : Bool) → ltb at (length w) ≡ t → cond t (Some (get_or w at (pos 0))) None ≡ Some x → (drop at w ≡ x ∷ drop (cond t (at + 1) at) w) × (cond t (at + 1) at ≤ length w)
      go true p q =
          let h = ltb-true at (length w) p in
          let f : get_or w at (pos 0) ≡ x = cc in
          (rw (add-one, ← f) (drop-cons w at (pos 0) h), omega arith)
      go false p q = absurd (let z : ◌≡◌ {A = ℕ} 0 1 = cc in omega arith)

  not_there : next_word w at ≡ None → drop at w ≡ []
  not_there e = go (ltb at (length w)) refl e
    where
      go : (t : Bool) → ltb at (length w) ≡ t → cond t (Some (get_or w at (pos 0))) None ≡ None → drop at w ≡ []
      go true p q = absurd (let z : ◌≡◌ {A = ℕ} 0 1 = cc in omega arith)
      go false p q = drop_of_length-le w (ltb-false at (length w) p)

  -- what the reader gave there
  module _ (read : ReadWord) (e : read ≡ read_at w at) where
    pub word_read : {x : ℤ} → read.next ≡ Some x → (drop at w ≡ x ∷ drop read.at w) × (read.at ≤ length w)
    word_read {x} f = rw (ap (λ (q : ReadWord). q.at) e) (there (sym (ap (λ (q : ReadWord). q.next) e) ∙ f))

    pub nothing_read : read.next ≡ None → drop at w ≡ []
    nothing_read f = not_there (sym (ap (λ (q : ReadWord). q.next) e) ∙ f)

    -- −1, or another word
    minus_one : (x : ℤ) (ws : List ℤ) → eq_z x (negsuc 0) ≡ splits_at (x ∷ ws)
    unfolding splits_at
    minus_one (pos n) ws = refl
    minus_one (negsuc zero) ws = refl
    minus_one (negsuc (suc n)) ws = eqb-suc-zero n

    pub splits_by : {x : ℤ} → read.next ≡ Some x → eq_z x (negsuc 0) ≡ splits_at (drop at w)
    splits_by {x} f = rw (word_read f).0 (minus_one x (drop read.at w))

    pub splits_not : read.next ≡ None → false ≡ splits_at (drop at w)
    unfolding splits_at
    splits_not f = rw (nothing_read f)

-- a coefficient, one beyond its limit, or none
module _ (w : List ℤ) (at : ℕ) where
  pub coefficient_in : {x : ℤ} {next : ℕ} → drop at w ≡ x ∷ drop next w → next ≤ length w → small coefficient_limit x ≡ true → Some next ≡ after_of w (read_coefficient (drop at w))
  unfolding read_coefficient
  coefficient_in {x} {next} d h t = rw (d, t) (ap Some (sym (next_at w next h)))

  pub coefficient_out : {x : ℤ} {ws : List ℤ} → drop at w ≡ x ∷ ws → small coefficient_limit x ≡ false → None ≡ after_of w (read_coefficient (drop at w))
  unfolding read_coefficient
  coefficient_out d t = rw (d, t)

  pub coefficient_none : drop at w ≡ [] → None ≡ after_of w (read_coefficient (drop at w))
  unfolding read_coefficient
  coefficient_none d = rw d

  -- a constant, high word and low word; one beyond its limit, the high word alone, or none
  module _ {high : ℤ} (second : ℕ) (d : drop at w ≡ high ∷ drop second w) where
    pub constant_in : {low : ℤ} {next : ℕ} → drop second w ≡ low ∷ drop next w → next ≤ length w → is_constant high low ≡ true → Some next ≡ after_of w (read_constant (drop at w))
    unfolding read_constant
    constant_in {low} {next} e h t = rw (d, e, t) (ap Some (sym (next_at w next h)))

    pub constant_out : {low : ℤ} {ws : List ℤ} → drop second w ≡ low ∷ ws → is_constant high low ≡ false → None ≡ after_of w (read_constant (drop at w))
    unfolding read_constant
    constant_out e t = rw (d, e, t)

    pub constant_cut : drop second w ≡ [] → None ≡ after_of w (read_constant (drop at w))
    unfolding read_constant
    constant_cut e = rw (d, e)

  pub constant_none : drop at w ≡ [] → None ≡ after_of w (read_constant (drop at w))
  unfolding read_constant
  constant_none d = rw d

-- ---- a row

-- what was read, up to a place
pub record ReadTo {A : Type 0} (w : List ℤ) (x : Read A) (next : ℕ) : Type 0 where
  pub value : A
  pub read : x ≡ got value (drop next w)
  pub inside : next ≤ length w

module _ (w : List ℤ) (at : ℕ) (there : at ≤ length w) where
  read_to : {A : Type 0} (x : Read A) {next : ℕ} → Leaves (drop at w) x → after_of w x ≡ Some next → ReadTo w x next
  read_to (got a rest) {next} l e =
      let n : next ≡ length w - length rest = cc in
      record { value = a; read = ap (got a) (left_at w at there l ∙ ap (λ (i : ℕ). drop i w) (sym n)); inside = omega arith }
  read_to missing l e = absurd (let x : ◌≡◌ {A = ℕ} 0 1 = cc in omega arith)

  pub constant_to : {next : ℕ} → after_of w (read_constant (drop at w)) ≡ Some next → ReadTo w (read_constant (drop at w)) next
  constant_to e = read_to (read_constant (drop at w)) (constant_leaves (drop at w)) e

  pub coefficient_to : {next : ℕ} → after_of w (read_coefficient (drop at w)) ≡ Some next → ReadTo w (read_coefficient (drop at w)) next
  coefficient_to e = read_to (read_coefficient (drop at w)) (coefficient_leaves (drop at w)) e

-- a number and what is read after it
module _ (w : List ℤ) {A B C : Type 0} (x : Read A) (later : List ℤ → Read B) (f : A → B → C) where
  abbrev both : Read C
  both = and_then x (λ a rest. and_then (later rest) (λ b left. got (f a b) left))

  both_read : {next : ℕ} → ReadTo w x next → after_of w both ≡ after_of w (later (drop next w))
  unfolding and_then
  both_read {next} k = rw k.read (then_after w (later (drop next w)) (f k.value))

  both_missing : after_of w x ≡ None → after_of w both ≡ None
  unfolding and_then
  both_missing e = rw (none_after w x e)

module _ (w : List ℤ) (at n : ℕ) where
  pub none_more : at ≤ length w → after_of w (read_coefficients 0 (drop at w)) ≡ Some at
  unfolding read_coefficients
  none_more h = ap Some (next_at w at h)

  abbrev more : ℤ → List ℤ → List ℤ
  more c cs = c ∷ cs

  pub coefficient_read : {next : ℕ} → ReadTo w (read_coefficient (drop at w)) next → after_of w (read_coefficients (suc n) (drop at w)) ≡ after_of w (read_coefficients n (drop next w))
  unfolding read_coefficients
  coefficient_read k = both_read w (read_coefficient (drop at w)) (read_coefficients n) more k

  pub coefficient_missing : after_of w (read_coefficient (drop at w)) ≡ None → after_of w (read_coefficients (suc n) (drop at w)) ≡ None
  unfolding read_coefficients
  coefficient_missing e = both_missing w (read_coefficient (drop at w)) (read_coefficients n) more e

  abbrev row : ℤ → List ℤ → Row
  row c cs = record { constant = c; coefficients = cs }

  pub constant_read : {next : ℕ} → ReadTo w (read_constant (drop at w)) next → after_of w (read_row n (drop at w)) ≡ after_of w (read_coefficients n (drop next w))
  unfolding read_row
  constant_read k = both_read w (read_constant (drop at w)) (read_coefficients n) row k

  pub constant_missing : after_of w (read_constant (drop at w)) ≡ None → after_of w (read_row n (drop at w)) ≡ None
  unfolding read_row
  constant_missing e = both_missing w (read_constant (drop at w)) (read_coefficients n) row e
