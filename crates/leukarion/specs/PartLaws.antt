-- Which part a refusal speaks of, by its number; and that a part which goes to the end has all the words that are left after its place.
use Rattle.std.specs.Prelude.{◌≡◌, Bool, true, false, List, ℕ, ◌-◌, ◌≤◌, ◌<◌, leb, length, take, drop}
use Rattle.std.proofs.Math.Path.{refl}
use Rattle.std.proofs.Common.{sym, ◌∙◌, le_of_eq, le_of_lt, le_refl, length-drop, drop_of_length-le, take_all}
use native.Mathlib.Omega.{arith}
use borrow.Author.Tests.{le-leb, lt-leb, leb-true, leb-false, ne_eqb}
use Rattle.checker.specs.Check.{of_program, of_witness, of_neither, part_of}

-- ---- by the refusal's number

module _ (number : ℕ) where
  pub one_to_three : 1 ≤ number → number ≤ 3 → part_of number ≡ of_program
  unfolding part_of
  one_to_three l h = rw (le-leb 1 number l, le-leb number 3 h) refl

  pub four_to_twelve : 4 ≤ number → number ≤ 12 → part_of number ≡ of_witness
  unfolding part_of
  four_to_twelve l h = rw (le-leb 1 number (omega arith), lt-leb number 3 (omega arith), le-leb 4 number l, le-leb number 12 h) refl

  pub fourteen_fifteen : 14 ≤ number → number ≤ 15 → part_of number ≡ of_witness
  unfolding part_of
  fourteen_fifteen l h =
      rw (le-leb 1 number (omega arith), lt-leb number 3 (omega arith), le-leb 4 number (omega arith), lt-leb number 12 (omega arith), le-leb 14 number l, le-leb number 15 h) refl

  -- both, as the code tests them
  pub but_thirteen : 4 ≤ number → number ≤ 15 → (number ≡ 13 → ⊥) → part_of number ≡ of_witness
  but_thirteen l h other = go (leb number 12) (leb 14 number) refl refl
    where
      go : (a b : Bool) → leb number 12 ≡ a → leb 14 number ≡ b → part_of number ≡ of_witness
      go true b p q = four_to_twelve l (leb-true number 12 p)
      go false true p q = fourteen_fifteen (leb-true 14 number q) h
      go false false p q = absurd (other (omega (arith, leb-false number 12 p, leb-false 14 number q)))

  pub below_one : number < 1 → part_of number ≡ of_neither
  unfolding part_of
  below_one h = let e : number ≡ 0 = omega arith in rw e refl

  pub thirteen : number ≡ 13 → part_of number ≡ of_neither
  unfolding part_of
  thirteen e = rw e refl

  pub twenty_five_lem : number ≡ 25 → part_of number ≡ of_witness
  unfolding part_of
  twenty_five_lem e = rw e refl

  pub above_fifteen : 15 < number → (number ≡ 25 → ⊥) → part_of number ≡ of_neither
  unfolding part_of
  above_fifteen h other =
      rw (
        le-leb 1 number (omega arith),
        lt-leb number 3 (omega arith),
        le-leb 4 number (omega arith),
        lt-leb number 12 (omega arith),
        le-leb 14 number (omega arith),
        lt-leb number 15 h,
        ne_eqb number 25 other,
      )
      refl

-- ---- a part to the end

module _ {A : Type 0} (place : ℕ) (words : List A) where
  pub to_end : take (length words - place) (drop place words) ≡ drop place words
  to_end = take_all (length words - place) (drop place words) (le_of_eq (length-drop place words))

module _ {A : Type 0} (place : ℕ) (words : List A) (h : length words < place) where
  pub past_end : take (length words - length words) (drop (length words) words) ≡ drop place words
  past_end = to_end (length words) words ∙ (drop_of_length-le words (le_refl (length words)) ∙ sym (drop_of_length-le words (le_of_lt h)))
