-- What the answer to a trace says of the replay: it is never safe; it is trace if and only if the replay came to its end, no entry value is
-- left over and the result buffer suffices; and it is a refusal if and only if the replay ended with it, or came to its end and an entry value
-- is left over, or none is and the result buffer is too short.
use Rattle.std.specs.Prelude.{◌≡◌, refl, ◌↔◌, ◌⊎◌, Bool, true, false, cond, List, [], ◌∷◌, ℕ, ◌-◌, ◌≤◌, leb, eqb, ℤ, length}
use Rattle.std.proofs.Common.{sym, ap, ◌∙◌, inl, inr, arith, leb-false, eqb-true, ne_eqb, leb→le, le→leb, eqb→eq}
use Rattle.std.proofs.Math.Option.{none, some}
use Rattle.std.proofs.lemmas.Bool.{lt-leb, eqb-false}
use Rattle.std.proofs.Math.Dec.{eqb_refl}
use Rattle.words.specs.Tests.{Refusal, first_failure, refusal_at}
use Rattle.words.proofs.FirstFailure.{two_pass, no_failure}
use Rattle.words.specs.Answer.{safe, trace, refused, answer_after}
use Rattle.words.specs.AnswerLaws.{is_safe, is_trace}
use Rattle.words.proofs.AnswerLaws.{accepted_after, same_refusal}
use Rattle.programs.specs.Moves.{Configuration, current}
use Rattle.traces.specs.TraceWords.{N}
use Rattle.traces.specs.TraceTests.{trace_tests}
use Rattle.traces.specs.Replay.{Progress, at, ended, left_test, buffer_test, replay_answer, replayed_to, trace_answer}
use Rattle.traces.specs.TraceAnswers.{LeftOver, Short}

concluded_safe : (steps end buffer count : ℕ) (s : Progress) → replay_answer steps end buffer s ≡ safe count → ⊥
unfolding replay_answer
concluded_safe steps end buffer count (ended r) e = let z : ◌≡◌ {A = ℕ} 0 1 = cc in omega arith
concluded_safe steps end buffer count (at c left) e =
    let x = (accepted_after (first_failure (left_test end left ∷ buffer_test buffer c ∷ [])) (trace steps) is_safe).0 e in
    let d : trace steps ≡ safe count = x.1 in
    let z : ◌≡◌ {A = ℕ} 0 1 = cc in omega arith

refused_not : {r : Refusal} {steps : ℕ} → refused r ≡ trace steps → ⊥
refused_not e = let z : ◌≡◌ {A = ℕ} 0 1 = cc in omega arith

same_steps : {a b : ℕ} → trace a ≡ trace b → b ≡ a
same_steps e = cc

nothing_left : (left : List ℤ) → length left ≡ 0 → left ≡ []
nothing_left [] e = refl
nothing_left (x ∷ left) e = absurd (omega arith)

pub trace_not_safe : (program witness : List ℤ) (buffer count : ℕ) → trace_answer program witness buffer ≡ safe count → ⊥
unfolding trace_answer
trace_not_safe program witness buffer count e =
    concluded_safe (N program witness) (length witness) buffer count (replayed_to program witness (N program witness)) ((accepted_after (first_failure (trace_tests program witness)) _ is_safe).0 e).1

pub concluded_iff : (steps end buffer answered : ℕ) (s : Progress)
    → (replay_answer steps end buffer s ≡ trace answered) ↔ ((c : Configuration) × (s ≡ at c []) × (answered ≡ steps) × (length (current c) ≤ buffer))
unfolding replay_answer left_test buffer_test
concluded_iff steps end buffer answered s = (there s, back)
  where
    there : (s : Progress) → replay_answer steps end buffer s ≡ trace answered → (c : Configuration) × (s ≡ at c []) × (answered ≡ steps) × (length (current c) ≤ buffer)
    there (ended r) e = absurd (refused_not e)
    there (at c left) e =
        let x = (accepted_after (first_failure (left_test end left ∷ buffer_test buffer c ∷ [])) (trace steps) (is_trace {steps = answered})).0 e in
        let y = (two_pass (left_test end left) (buffer_test buffer c)).0 ((no_failure (left_test end left ∷ buffer_test buffer c ∷ [])).0 x.0) in
        (c, ap (at c) (nothing_left left (eqb→eq (length left) 0 y.0)), same_steps x.1, leb→le (length (current c)) buffer y.1)

    back : (c : Configuration) × (s ≡ at c []) × (answered ≡ steps) × (length (current c) ≤ buffer) → replay_answer steps end buffer s ≡ trace answered
    back x =
        let tests = left_test end [] ∷ buffer_test buffer x.0 ∷ [] in
        ap (replay_answer steps end buffer) x.1
        ∙ ((accepted_after (first_failure tests) (trace steps) (is_trace {steps = answered})).1
        ((no_failure tests).1 ((two_pass (left_test end []) (buffer_test buffer x.0)).1 (eqb_refl 0, le→leb (length (current x.0)) buffer x.3)), ap trace (sym x.2)))

pub concluded_refused : (steps end buffer : ℕ) (s : Progress) (r : Refusal) → (replay_answer steps end buffer s ≡ refused r) ↔ ((s ≡ ended r) ⊎ (LeftOver end s r ⊎ Short buffer s r))
unfolding replay_answer left_test buffer_test first_failure answer_after
concluded_refused steps end buffer s r = (there s, back)
  where
    failed : (c : Configuration) (left : List ℤ) (a b : Bool) → eqb (length left) 0 ≡ a → leb (length (current c)) buffer ≡ b
        → answer_after (cond a (cond b none (some (refusal_at 13 (length (current c))))) (some (refusal_at 14 (end - length left)))) (trace steps) ≡ refused r
        → LeftOver end (at c left) r ⊎ Short buffer (at c left) r
    failed c left true true p q e = absurd (refused_not (sym e))
    failed c left true false p q e =
        inr (record { final = c; comes = ap (at c) (nothing_left left (eqb-true (length left) 0 p)); refuses = sym (same_refusal e); short = leb-false (length (current c)) buffer q })
    failed c left false b p q e =
        let n = eqb-false (length left) 0 p in inl (record { final = c; left = left; comes = refl; more = omega arith; refuses = sym (same_refusal e) })

    there : (s : Progress) → replay_answer steps end buffer s ≡ refused r → (s ≡ ended r) ⊎ (LeftOver end s r ⊎ Short buffer s r)
    there (ended q) e = inl (ap ended (same_refusal e))
    there (at c left) e = inr (failed c left (eqb (length left) 0) (leb (length (current c)) buffer) refl refl e)

    back : (s ≡ ended r) ⊎ (LeftOver end s r ⊎ Short buffer s r) → replay_answer steps end buffer s ≡ refused r
    back (inl e) = rw e
    back (inr (inl x)) = rw (x.comes, ne_eqb (length x.left) 0 (λ e. omega (arith, x.more))) (ap refused (sym x.refuses))
    back (inr (inr x)) = rw (x.comes, lt-leb (length (current x.final)) buffer x.short) (ap refused (sym x.refuses))
