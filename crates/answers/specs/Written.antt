-- What a writer answers, as the code gives it: the words themselves stand in its buffer. And what it promises of both.
use Rattle.std.specs.Prelude.{◌≡◌, refl, ◌↔◌, List, ℕ, ℤ, length, Result, Ok, Err}
use Rattle.std.proofs.Common.{sym, ap, arith}
use Rattle.words.specs.Tests as tests
use Rattle.words.specs.Writing as writing
use Rattle.words.specs.Writing.{buffer_after, written, unwritten}
use Rattle.answers.specs.Answers.{refusal_of, told}
use Rattle.answers.specs.declared.Refusal.{Refusal}

abbrev pub writing_for : writing.Writing → Result ℕ tests.Refusal
writing_for (written words) = Ok (length words)
writing_for (unwritten r) = Err r

-- its answer r, and its buffer afterwards
pub record Wrote (w : writing.Writing) (buffer : List ℤ) (r : Result ℕ Refusal) (after : List ℤ) : Type 0 where
  pub answer : told r ≡ writing_for w
  pub result : after ≡ buffer_after w buffer

-- ---- what the answer says

abbrev count_in : Result ℕ tests.Refusal → ℕ
count_in (Ok n) = n
count_in (Err q) = 0

abbrev kind_in : Result ℕ tests.Refusal → ℕ
kind_in (Ok n) = 0
kind_in (Err q) = 1

abbrev refusal_in : Result ℕ tests.Refusal → tests.Refusal → tests.Refusal
refusal_in (Ok n) r = r
refusal_in (Err q) r = q

not_refused : {n : ℕ} {q : tests.Refusal} → Ok n ≡ Err q → ⊥
not_refused e = let z : ◌≡◌ {A = ℕ} 0 1 = ap kind_in e in omega arith

-- words are written, and how many
pub as_written : (w : writing.Writing) (n : ℕ) → (writing_for w ≡ Ok n) ↔ ((words : List ℤ) × (w ≡ written words) × (n ≡ length words))
as_written w n = (there w, λ x. rw (x.1, x.2) refl)
  where
    there : (w : writing.Writing) → writing_for w ≡ Ok n → (words : List ℤ) × (w ≡ written words) × (n ≡ length words)
    there (written words) e = (words, refl, sym (ap count_in e))
    there (unwritten r) e = absurd (not_refused (sym e))

-- or they are refused
pub as_refused : (w : writing.Writing) (q : tests.Refusal) → (writing_for w ≡ Err q) ↔ (w ≡ unwritten q)
as_refused w q = (there w, λ e. rw e refl)
  where
    there : (w : writing.Writing) → writing_for w ≡ Err q → w ≡ unwritten q
    there (written words) e = absurd (not_refused e)
    there (unwritten r) e = ap (λ (x : Result ℕ tests.Refusal). unwritten (refusal_in x r)) e
