-- "left by a label at the first refusal, with place and count so far": how many entailments have held when a judgement comes to the first that
-- is refused, or through. At a refusal these are the entailments listed before the one refused, because an ended judgement counts no more.
use Rattle.std.specs.Prelude.{◌≡◌, refl, List, [], ◌∷◌, ◌++◌, ℕ, ◌+◌, ℤ, length}
use Rattle.std.proofs.Common.{sym, ap, ◌∙◌, arith}
use Rattle.certificates.specs.Entailments.{Entailment}
use Rattle.certificates.specs.Judgement.{Progress, running, ended, judge_one, judge}
use Rattle.certificates.specs.Judged.{Stopped}
use Rattle.certificates.proofs.Judged.{judge_iff, judge_ended}

-- the count of a judgement that goes on; one that has ended leaves the count as it was
unfoldable pub count_or : ℕ → Progress → ℕ
count_or n (running words m) = m
count_or n (ended number words) = n

unfoldable pub count_so_far : List Entailment → Progress → ℕ → ℕ
count_so_far [] s n = n
count_so_far (e ∷ es) s n = count_so_far es (judge_one e s) (count_or n (judge_one e s))

pub count_append : (xs ys : List Entailment) (s : Progress) (n : ℕ) → count_so_far (xs ++ ys) s n ≡ count_so_far ys (judge xs s) (count_so_far xs s n)
unfolding count_so_far judge
count_append [] ys s n = refl
count_append (x ∷ xs) ys s n = count_append xs ys (judge_one x s) (count_or n (judge_one x s))

pub count_ended : (es : List Entailment) (number : ℕ) (words : List ℤ) (n : ℕ) → count_so_far es (ended number words) n ≡ n
unfolding count_so_far judge_one count_or
count_ended [] number words n = refl
count_ended (e ∷ es) number words n = count_ended es number words n

-- all held: the count is the judgement's own
pub count_through : (es : List Entailment) (words rest : List ℤ) (n m : ℕ) → judge es (running words n) ≡ running rest m → count_so_far es (running words n) n ≡ m
unfolding count_so_far judge count_or
count_through [] words rest n m q = ap (count_or 0) q
count_through (e ∷ es) words rest n m q = go (count_through es) (judge_one e (running words n)) q
  where
    go : ((words rest : List ℤ) (n m : ℕ) → judge es (running words n) ≡ running rest m → count_so_far es (running words n) n ≡ m) → (t : Progress) → judge es t ≡ running rest m → count_so_far es t (count_or n t) ≡ m
    go more (running left k) q = more left rest k m q
    go more (ended number left) q = let d : ended number left ≡ running rest m = sym (judge_ended es number left) ∙ q in absurd (let z : ◌≡◌ {A = ℕ} 0 1 = cc in omega arith)

-- the first refusal: the count is that of the entailments before it
pub count_stopped : (es : List Entailment) (words left : List ℤ) (n number : ℕ) (s : Stopped es words left) → judge_one s.at (running left (n + length s.earlier)) ≡ ended number left
    → count_so_far es (running words n) n ≡ n + length s.earlier
unfolding count_so_far count_or
count_stopped es words left n number s q =
    let through = (judge_iff s.earlier words left n (n + length s.earlier)).1 (record { witnesses = s.witnesses; work = s.work; spelled = s.spelled; counted = refl }) in
    rw (s.listed, count_append s.earlier (s.at ∷ s.later) (running words n) n, through, count_through s.earlier words left n (n + length s.earlier) through, q)
    (count_ended s.later number left (n + length s.earlier))
