-- A judgement of a list of entailments that grows part by part, as each of the nested loops makes it grow: the progress after one part more is
-- that of the part, begun where the parts before it ended, because a judgement of two lists is that of the second after the first; and an end
-- stays, with its count, because an ended judgement changes no more.
use Rattle.std.specs.Prelude.{◌≡◌, refl, ℕ, suc, zero, ◌+◌, ◌-◌, ◌≤◌, ◌<◌, ℤ, length, get_or, take, drop, Result, Ok, Err}
use Rattle.std.proofs.Common.{sym, ap, ◌∙◌, add-zero, add-suc, add-one, arith, take-suc}
use mathlib.Core.List.{List, [], ◌∷◌, ◌++◌, flat_map, append_assoc, append-nil}
use Rattle.std.proofs.Math.Seq.{take-length}
use Rattle.basics.specs.Lists.{gathered}
use Rattle.certificates.specs.Entailments.{Entailment}
use Rattle.certificates.specs.Judgement.{Progress, running, ended, judge_one, judge}
use Rattle.certificates.proofs.Judged.{judge_append, judge_ended}
use Rattle.answers.specs.declared.Reason.{Reason}
use Rattle.answers.specs.Answers.{number_of}
use Rattle.entailment_judge.specs.Answers.{verdict_of}
use Rattle.entailment_judge.specs.Judging.{judged_witness}
use Rattle.entailment_judge.specs.Verdicts.{progress_of, judged_verdict}
use Rattle.vertex_entailments.specs.Given.{no_entailment}
use Rattle.judge.specs.CountSoFar.{count_or, count_so_far, count_append, count_ended, count_through}

-- ---- lists that grow part by part

-- the list up to a place: empty up to 0, and up to the next place with one part more
pub record Grows (up_to part : ℕ → List Entailment) (m : ℕ) : Type 0 where
  pub none : up_to 0 ≡ []
  pub more : (i : ℕ) → i < m → up_to (suc i) ≡ up_to i ++ part i

module _ {up_to part : ℕ → List Entailment} {m : ℕ} (g : Grows up_to part m) (s : Progress) where
  pub begins : judge (up_to 0) s ≡ s
  unfolding judge
  begins = rw g.none

  pub goes_on : (i : ℕ) {t r : Progress} → i < m → judge (up_to i) s ≡ t → judge (part i) t ≡ r → judge (up_to (i + 1)) s ≡ r
  goes_on i h e f = rw (add-one, g.more i h, judge_append, e) f

-- ---- a refusal

-- the judgement of the entailments, after so many, ends with a number and the words left, when so many have held
pub record Ends (es : List Entailment) (s : Progress) (n number : ℕ) (left : List ℤ) (held : ℕ) : Type 0 where
  pub refused : judge es s ≡ ended number left
  pub counted : count_so_far es s n ≡ held

module _ {number : ℕ} {left : List ℤ} {held : ℕ} where
  ends_append : (xs ys : List Entailment) (s : Progress) (n : ℕ) → Ends xs s n number left held → Ends (xs ++ ys) s n number left held
  ends_append xs ys s n e =
      record {
        refused = rw (judge_append, e.refused) (judge_ended ys number left);
        counted = rw (count_append, e.refused, e.counted) (count_ended ys number left held);
      }

  module _ {up_to part : ℕ → List Entailment} {m : ℕ} (g : Grows up_to part m) (words : List ℤ) (n : ℕ) where
    later : (i j : ℕ) → i + j ≤ m → Ends (up_to i) (running words n) n number left held → Ends (up_to (i + j)) (running words n) n number left held
    later i zero h e = rw add-zero e
    later i (suc j) h e = rw (add-suc, g.more (i + j) (omega arith)) (ends_append (up_to (i + j)) (part (i + j)) (running words n) n (later i j (omega arith) e))

    -- a part that ends, after parts that held, ends the whole
    pub ends_on : (i : ℕ) (here : List ℤ) (k : ℕ) → i < m → judge (up_to i) (running words n) ≡ running here k → Ends (part i) (running here k) k number left held → Ends (up_to m) (running words n) n number left held
    ends_on i here k h e f =
        let q : i + 1 + (m - (i + 1)) ≡ m = omega arith in
        rw q at (later (i + 1) (m - (i + 1)) (omega arith) (rw (add-one, g.more i h) first))
      where
        first : Ends (up_to i ++ part i) (running words n) n number left held
        first =
            record {
              refused = rw (judge_append, e) f.refused;
              counted = rw (count_append, e, count_through (up_to i) words here n k e) f.counted;
            }

-- ---- the lists of the loops

pub grows_taken : (es : List Entailment) → Grows (λ i. take i es) (λ i. get_or es i no_entailment ∷ []) (length es)
grows_taken es = record { none = refl; more = λ i h. take-suc es i no_entailment h }

pub grows_gathered : (f : ℕ → List Entailment) (m : ℕ) → Grows (gathered f) (λ i. f (i + 1)) m
unfolding gathered
grows_gathered f m = record { none = refl; more = λ i h. refl }

flat_map_snoc : {A B : Type 0} (f : A → List B) (xs : List A) (y : A) → flat_map f (xs ++ (y ∷ [])) ≡ flat_map f xs ++ f y
unfolding flat_map
flat_map_snoc f [] y = append-nil (f y)
flat_map_snoc {B = B} f (x ∷ xs) y = ap (λ (l : List B). f x ++ l) (flat_map_snoc f xs y) ∙ sym (append_assoc (f x) (flat_map f xs) (f y))

pub grows_flat_map : {A : Type 0} (f : A → List Entailment) (xs : ℕ → List A) (x : ℕ → A) (m : ℕ) → xs 0 ≡ [] → ((i : ℕ) → xs (suc i) ≡ xs i ++ (x i ∷ []))
    → Grows (λ i. flat_map f (xs i)) (λ i. f (x i)) m
unfolding flat_map
grows_flat_map f xs x m z h = record { none = rw z; more = λ i l. ap (flat_map f) (h i) ∙ flat_map_snoc f (xs i) (x i) }

-- ---- one entailment, as the code's step says it

module _ (es : List Entailment) (i : ℕ) (h : i < length es) (w : List ℤ) (at : ℕ) (there : at ≤ length w) (held : ℕ) (r : Result ℕ Reason) (q : r ≡ verdict_of w (judged_witness (get_or es i no_entailment) (drop at w))) where
  step_on_lem : (s : Progress) → judge (take i es) s ≡ running (drop at w) held → judge (take (i + 1) es) s ≡ progress_of w at held r
  unfolding judge
  step_on_lem s e = goes_on (grows_taken es) s i h e (judged_verdict (get_or es i no_entailment) w at there held r q).0

  -- it holds
  pub step_next : (p : ℕ) → r ≡ Ok p → (s : Progress) → judge (take i es) s ≡ running (drop at w) held
      → (judge (take (i + 1) es) s ≡ running (drop p w) (held + 1)) × (p ≤ length w)
  step_next p z s e = (rw (← add-one held) at (rw z at (step_on_lem s e)), rw z at (judged_verdict (get_or es i no_entailment) w at there held r q).1)

  -- it is refused, and with it the whole list
  pub step_ended : (reason : Reason) → r ≡ Err reason → (words : List ℤ) (n : ℕ) → judge (take i es) (running words n) ≡ running (drop at w) held → Ends es (running words n) n (number_of reason) (drop at w) held
  unfolding judge count_so_far count_or
  step_ended reason z words n e =
      let one : judge_one (get_or es i no_entailment) (running (drop at w) held) ≡ ended (number_of reason) (drop at w) = rw z at (judged_verdict (get_or es i no_entailment) w at there held r q).0 in
      rw (take-length es) at (ends_on {held = held} (grows_taken es) words n i (drop at w) held h e (record { refused = one; counted = rw one }))

-- all of them taken
pub taken_all : (es : List Entailment) (i : ℕ) (s : Progress) {r : Progress} → i ≡ length es → judge (take i es) s ≡ r → judge es s ≡ r
taken_all es i s z e = rw (z, take-length es) at e
