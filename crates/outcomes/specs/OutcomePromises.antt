-- What an answer promises, as C gets it: demands 2 and 3 for `leukarion_check`, and what a choice made definite promises. `told` is the struct that it
-- gives back for a program, a witness and a result buffer, and `after` the buffer then; all that is used of them is its contract, `Told`. A caller tests
-- `kind`, which is 1 for LEUKARION_SAFE and 2 for LEUKARION_TRACE, and reads `number`. These two fix an answer that isn't a refusal, so the claims are
-- those of leukarion/Promises and leukarion/DefinitePromises.
use Rattle.std.specs.Prelude.{◌≡◌, refl, ◌↔◌, cond, List, ◌++◌, ℕ, ◌≤◌, eqb, ℤ, length, drop}
use Rattle.std.proofs.Common.{sym, ap, ◌∙◌}
use Rattle.std.proofs.Math.Logic.Iff.{trans as iff_trans}
use Rattle.rows.specs.Rows.{Row}
use Rattle.words.specs.Limits.{most_words}
use Rattle.programs.specs.Decode as decode
use Rattle.programs.specs.Runs.{State, Run, values_now}
use Rattle.programs.specs.DefiniteWords.{definite_program, GetsCondition}
use Rattle.certificates.specs.CertificateWords.{certificate}
use Rattle.certificates.specs.Claim.{Within}
use Rattle.checker.specs.Demand2.{Witnessed}
use Rattle.checker.specs.Demand2Traces.{Replays}
use Rattle.checker.specs.ChoiceMadeDefinite.{definite_certificate}
use Rattle.answers.specs.Answers.{answer_of}
use Rattle.answers.specs.declared.Answer.{Answer}
use Rattle.answers.specs.declared.Answer.TheVariants.{Safe, Trace, Refused}
use Rattle.leukarion.specs.Promises as promises
use Rattle.leukarion.specs.DefinitePromises as definite
use Rattle.outcomes.specs.declared.Outcome.{Outcome}
use Rattle.outcomes.specs.Outcomes.{outcome_of, Told}

-- ---- the answer that a struct tells

abbrev heard : Outcome → Answer
heard o =
    cond (eqb o.kind 1) (Safe o.number)
    (cond (eqb o.kind 2) (Trace o.number) (Refused (record { number = o.number; place = o.place; line = o.line })))

heard_told : (a : Answer) → heard (outcome_of (answer_of a)) ≡ a
heard_told (Safe count) = refl
heard_told (Trace steps) = refl
heard_told (Refused q) = refl

module _ {program witness buffer after : List ℤ} {told : Outcome} (t : Told program witness buffer told after) where
  -- answers of a kind that have a number and nothing else
  told_as : (kind : ℕ) (accepted : ℕ → Answer) → ((n : ℕ) → ((outcome_of (answer_of (accepted n))).kind ≡ kind) × ((outcome_of (answer_of (accepted n))).number ≡ n))
      → ((o : Outcome) → o.kind ≡ kind → heard o ≡ accepted o.number)
      → (n : ℕ) → ((told.kind ≡ kind) × (told.number ≡ n)) ↔ (t.answer ≡ accepted n)
  told_as kind accepted tells hears n = (there, back)
    where
      there : (told.kind ≡ kind) × (told.number ≡ n) → t.answer ≡ accepted n
      there (k, m) = sym (heard_told t.answer) ∙ (ap heard (sym t.tells) ∙ (hears told k ∙ ap accepted m))

      back : t.answer ≡ accepted n → (told.kind ≡ kind) × (told.number ≡ n)
      back e =
          let q : told ≡ outcome_of (answer_of (accepted n)) = t.tells ∙ ap (λ (a : Answer). outcome_of (answer_of a)) e in
          (ap (λ (o : Outcome). o.kind) q ∙ (tells n).0, ap (λ (o : Outcome). o.number) q ∙ (tells n).1)

  pub safe_as : (count : ℕ) → ((told.kind ≡ 1) × (told.number ≡ count)) ↔ (t.answer ≡ Safe count)
  safe_as = told_as 1 Safe (λ n. (refl, refl)) (λ o e. rw e)

  trace_as : (steps : ℕ) → ((told.kind ≡ 2) × (told.number ≡ steps)) ↔ (t.answer ≡ Trace steps)
  trace_as = told_as 2 Trace (λ n. (refl, refl)) (λ o e. rw e)

  -- ---- the promises

  -- Demand 2: "Safe, with the number of entailments, is answered if and only if both sheets have the form and every entailment listed in
  -- document 01 has a witness there that works, in its turn, with no word left."
  pub safe_told : (count : ℕ) → ((told.kind ≡ 1) × (told.number ≡ count)) ↔ Witnessed program witness count
  safe_told count = iff_trans (safe_as count) (promises.safe_answered t.checked count)

  -- Demand 2: "Trace is answered if and only if both have the form, the room suffices and the listed vertices are a run by the Linear
  -- Programs report, as document 01 condenses it, from the listed start to the error vertex, inside the stated depth and value limits."
  pub trace_told : (steps : ℕ) → ((told.kind ≡ 2) × (told.number ≡ steps)) ↔ Replays program witness (length buffer) steps
  trace_told steps = iff_trans (trace_as steps) (promises.trace_answered t.checked steps)

  -- Demand 1: "after trace its front holds the last values and the rest is as it came": those of the state that the run ends in
  pub trace_buffer : (k : told.kind ≡ 2) → let s = ((trace_told told.number).0 (k, refl)).run.failing.traced.state in after ≡ values_now s ++ drop (length (values_now s)) buffer
  unfolding trace_told
  trace_buffer k = promises.trace_buffer t.checked told.number ((trace_as told.number).0 (k, refl))

  -- Demand 1: "after safe or a refusal the result room is as it came"
  pub other_buffer : (told.kind ≡ 2 → ⊥) → after ≡ buffer
  other_buffer h = go t.answer refl
    where
      go : (a : Answer) → t.answer ≡ a → after ≡ buffer
      go (Safe count) e = promises.safe_buffer t.checked count e
      go (Trace steps) e = absurd (h ((trace_as steps).1 e).0)
      go (Refused q) e = promises.refused_buffer t.checked q e

  -- Demand 3: "Let a program and a certificate be accepted as safe .. After that list the run doesn't stand at the error vertex; each open call,
  -- taken where it stands or where it made its pending call, meets with its entry state one of its place's path edges; and each call that got
  -- to its exit met there one of its summary edges." The test of `kind` is enough.
  pub safe_reach : told.kind ≡ 1 → {s : State} (run : Run (decode.program program) s) → Within (decode.program program) (certificate program witness) run
  safe_reach k = promises.safe_reach t.checked told.number ((safe_as told.number).0 (k, refl))

-- Hence no program is answered safe with one witness and trace with another.
pub never_both : {program certificate witness buffer after buffer' after' : List ℤ} {told told' : Outcome}
    → Told program certificate buffer told after → told.kind ≡ 1
    → Told program witness buffer' told' after' → told'.kind ≡ 2 → ⊥
never_both t k t' k' = promises.never_both t.checked ((safe_as t _).0 (k, refl)) t'.checked ((trace_as t' _).0 (k', refl))

-- "the certificate with one multiplier 0 put in .. is accepted with the same count", document 02, CR 13
pub choice_made_definite : {program certificate buffer after buffer' after' : List ℤ} {told told' : Outcome} {v op : ℕ} {e : Row}
    → Told program certificate buffer told after → told.kind ≡ 1
    → GetsCondition program v op e → op ≤ 4 → length (definite_certificate program certificate v) ≤ most_words
    → Told (definite_program program v op e) (definite_certificate program certificate v) buffer' told' after' → (told'.kind ≡ 1) × (told'.number ≡ told.number)
choice_made_definite t k g few most t' = (safe_as t' _).1 (definite.choice_made_definite t.checked ((safe_as t _).0 (k, refl)) g few most t'.checked)
