-- What a judgement's outcome says. It comes through if and only if the words begin with a witness that works for each entailment; and it
-- ends if and only if such words lead to an entailment where no shaped witness's words follow (6), or those of one that doesn't fit (7).
-- The outcome is decided so because the words are a prefix code: at each entailment they begin with one shaped witness at most.
use Rattle.std.specs.Prelude.{◌≡◌, refl, ◌↔◌, ◌⊎◌, Bool, true, false, not, cond, List, [], ◌∷◌, ◌++◌, ℕ, suc, ◌+◌, T, ℤ, length}
use Rattle.std.proofs.Common.{ap, ◌∙◌, subst, inl, inr, append_assoc, arith}
use Rattle.std.proofs.Math.Logic.{⊎_map}
use Rattle.basics.proofs.Booleans.{and, parts, holds, is_true, cond_no}
use Rattle.certificates.specs.Entailments.{Entailment}
use Rattle.certificates.specs.Witnesses.{Witness, encode, encode_all, shaped, fits, works, all_work, all_work_by, works_by}
use Rattle.certificates.specs.Judgement.{Read, got, missing, read_witness, Progress, running, ended, judge_read, judge_one, judge}
use Rattle.certificates.proofs.WitnessCode.{read_encoded, encoded_read, read_missing}
use Rattle.certificates.specs.Judged.{Held, Misfit, Outcome, Stopped, Unread}

pub judge_append : (xs ys : List Entailment) (s : Progress) → judge (xs ++ ys) s ≡ judge ys (judge xs s)
unfolding judge
judge_append [] ys s = refl
judge_append (x ∷ xs) ys s = judge_append xs ys (judge_one x s)

-- ---- from the outcome to its meaning

pub judge_ended : (es : List Entailment) (number : ℕ) (words : List ℤ) → judge es (ended number words) ≡ ended number words
unfolding judge judge_one
judge_ended [] number words = refl
judge_ended (e ∷ es) number words = judge_ended es number words

-- one entailment more, that holds
module _ (e : Entailment) (w : Witness) (words left : List ℤ) (t : T (works e w)) (q : words ≡ encode w ++ left) where
  work_more : (es : List Entailment) (ws : List Witness) → T (all_work es ws) → T (all_work (e ∷ es) (w ∷ ws))
  unfolding all_work_by
  work_more es ws u = and (works e w) (all_work es ws) t u

  spelled_more : (ws : List Witness) (last : List ℤ) → left ≡ encode_all ws ++ last → words ≡ encode_all (w ∷ ws) ++ last
  unfolding encode_all
  spelled_more ws last r = rw (append_assoc, ← r) q

  module _ (es : List Entailment) where
    abbrev stopped_more : (last : List ℤ) → Stopped es left last → Stopped (e ∷ es) words last
    stopped_more last s =
        record {
          earlier = e ∷ s.earlier;
          at = s.at;
          later = s.later;
          listed = ap (λ (l : List Entailment). e ∷ l) s.listed;
          witnesses = w ∷ s.witnesses;
          work = work_more s.earlier s.witnesses s.work;
          spelled = spelled_more s.witnesses last s.spelled;
        }

    outcome_more : (n : ℕ) (s : Progress) → Outcome es left (suc n) s → Outcome (e ∷ es) words n s
    outcome_more n (running rest m) h =
        record { witnesses = w ∷ h.witnesses; work = work_more es h.witnesses h.work; spelled = spelled_more h.witnesses rest h.spelled; counted = omega arith }
    outcome_more n (ended number last) (inl (q, u)) = inl (q, record { stopped = stopped_more last u.stopped; unread = u.unread })
    outcome_more n (ended number last) (inr (q, m)) =
        inr (q, record { stopped = stopped_more last m.stopped; witness = m.witness; rest = m.rest; shape = m.shape; reads = m.reads; misfits = m.misfits })

at_once : (e : Entailment) (es : List Entailment) (words : List ℤ) → Stopped (e ∷ es) words words
unfolding all_work_by encode_all
at_once e es words = record { earlier = []; at = e; later = es; listed = refl; witnesses = []; work = tt; spelled = refl }

outcome_one : (e : Entailment) (es : List Entailment) (words : List ℤ) (n : ℕ) → ((left : List ℤ) → Outcome es left (suc n) (judge es (running left (suc n))))
    → (r : Read Witness) → read_witness e words ≡ r → Outcome (e ∷ es) words n (judge es (judge_read e words n r))
unfolding judge_read at_once works_by
outcome_one e es words n h missing q = rw (judge_ended es 6 words) (inl (refl, record { stopped = at_once e es words; unread = (read_missing e words).0 q }))
outcome_one e es words n h (got w left) q = go (fits e w) refl (encoded_read e words w left q)
  where
    go : (b : Bool) → fits e w ≡ b → (words ≡ encode w ++ left) × T (shaped e w) → Outcome (e ∷ es) words n (judge es (cond b (running left (suc n)) (ended 7 words)))
    go true f s = outcome_more e w words left (and (shaped e w) (fits e w) s.1 (holds f)) s.0 es n (judge es (running left (suc n))) (h left)
    go false f s = rw (judge_ended es 7 words) (inr (refl, record { stopped = at_once e es words; witness = w; rest = left; shape = s.1; reads = s.0; misfits = rw f tt }))

outcome : (es : List Entailment) (words : List ℤ) (n : ℕ) → Outcome es words n (judge es (running words n))
unfolding judge judge_one all_work_by encode_all
outcome [] words n = record { witnesses = []; work = tt; spelled = refl; counted = omega arith }
outcome (e ∷ es) words n = outcome_one e es words n (λ left. outcome es left (suc n)) (read_witness e words) refl

-- ---- from the meaning to the outcome

module _ (e : Entailment) (w : Witness) (rest : List ℤ) (n : ℕ) (t : T (shaped e w)) where
  judge_shaped : judge_one e (running (encode w ++ rest) n) ≡ cond (fits e w) (running rest (suc n)) (ended 7 (encode w ++ rest))
  unfolding judge_one judge_read
  judge_shaped = rw (read_encoded e w rest t)

  judge_misfit : T (not (fits e w)) → judge_one e (running (encode w ++ rest) n) ≡ ended 7 (encode w ++ rest)
  judge_misfit f = judge_shaped ∙ cond_no (fits e w) (running rest (suc n)) (ended 7 (encode w ++ rest)) f

judge_working : (es : List Entailment) (ws : List Witness) (rest : List ℤ) (n : ℕ) → T (all_work es ws) → judge es (running (encode_all ws ++ rest) n) ≡ running rest (n + length es)
unfolding judge all_work_by works_by encode_all
judge_working [] [] rest n t = ap (running rest) (omega arith)
judge_working [] (w ∷ ws) rest n t = absurd t
judge_working (e ∷ es) [] rest n t = absurd t
judge_working (e ∷ es) (w ∷ ws) rest n t =
    rw (append_assoc, judge_shaped e w (encode_all ws ++ rest) n (search parts), is_true (fits e w) (search parts)) (judge_working es ws rest (suc n) (search parts) ∙ ap (running rest) (omega arith))

-- ---- each outcome

meaning : (es : List Entailment) (words : List ℤ) (n : ℕ) {s : Progress} → judge es (running words n) ≡ s → Outcome es words n s
meaning es words n q = subst (Outcome es words n) q (outcome es words n)

pub judge_iff : (es : List Entailment) (words rest : List ℤ) (n m : ℕ) → (judge es (running words n) ≡ running rest m) ↔ Held es words rest n m
judge_iff es words rest n m = (meaning es words n, back)
  where
    back : Held es words rest n m → judge es (running words n) ≡ running rest m
    back h = rw (h.spelled, h.counted) (judge_working es h.witnesses rest n h.work)

module _ (es : List Entailment) (words left : List ℤ) (n : ℕ) where
  ends : (number : ℕ) (s : Stopped es words left) → ((m : ℕ) → judge_one s.at (running left m) ≡ ended number left) → judge es (running words n) ≡ ended number left
  unfolding judge
  ends number s h =
      rw (s.listed, judge_append s.earlier (s.at ∷ s.later) (running words n), s.spelled, judge_working s.earlier s.witnesses left n s.work, h)
      (judge_ended s.later number left)

  pub ended_six : (judge es (running words n) ≡ ended 6 left) ↔ Unread es words left
  unfolding judge_one judge_read
  ended_six = (λ q. there (meaning es words n q), back)
    where
      there : Outcome es words n (ended 6 left) → Unread es words left
      there (inl (q, u)) = u
      there (inr (q, x)) = absurd (omega arith)

      back : Unread es words left → judge es (running words n) ≡ ended 6 left
      back u = ends 6 u.stopped (λ m. rw ((read_missing u.stopped.at left).1 u.unread))

  pub ended_seven : (judge es (running words n) ≡ ended 7 left) ↔ Misfit es words left
  ended_seven = (λ q. there (meaning es words n q), back)
    where
      there : Outcome es words n (ended 7 left) → Misfit es words left
      there (inl (q, u)) = absurd (omega arith)
      there (inr (q, x)) = x

      back : Misfit es words left → judge es (running words n) ≡ ended 7 left
      back x = ends 7 x.stopped (λ m. rw x.reads (judge_misfit x.stopped.at x.witness x.rest m x.shape x.misfits))

  pub ended_number : (number : ℕ) → judge es (running words n) ≡ ended number left → (number ≡ 6) ⊎ (number ≡ 7)
  ended_number number q = ⊎_map (λ x. x.0) (λ x. x.0) (meaning es words n q)
