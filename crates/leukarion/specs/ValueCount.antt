-- How many values an accepted trace leaves in the result buffer: "room shorter than k" is 13 with the returned place k, so an empty buffer is
-- refused with that number, or is long enough and there is none.
use Rattle.std.specs.Prelude.{◌≡◌, refl, Bool, true, false, cond, List, [], ℕ, ◌≤◌, leb, eqb, ℤ}
use Rattle.std.proofs.Math.Path.{sym, ap}
use Rattle.std.proofs.Common.{◌∙◌, arith, leb-true, leb-false}
use Rattle.std.proofs.Math.ListN.{length}
use Rattle.words.specs.Answer.{Answer, safe, trace, refused}
use Rattle.programs.specs.Moves.{Configuration, current}
use Rattle.traces.specs.TraceWords.{N}
use Rattle.traces.specs.Replay.{at, replay_answer, replayed_to, last_values, final_values}
use Rattle.traces.proofs.TraceAnswers.{concluded_iff}
use Rattle.trace_steps.specs.ResultLaws.{too_short, long_enough}
use Rattle.checker.specs.Check.{check}
use Rattle.checker.proofs.Demand2Traces.{trace_answered, concludes}

-- the buffer that an answer asks for
unfoldable pub wanted : Answer → ℕ
wanted (safe count) = 0
wanted (trace steps) = 0
wanted (refused r) = cond (eqb r.number 13) r.place 0

unfoldable pub value_count : List ℤ → List ℤ → ℕ
value_count program witness = wanted (check program witness 0)

wanted_concluded : (steps end : ℕ) (c : Configuration) → wanted (replay_answer steps end 0 (at c [])) ≡ length (current c)
unfolding wanted
wanted_concluded steps end c = go (leb (length (current c)) 0) refl
  where
    go : (b : Bool) → leb (length (current c)) 0 ≡ b → wanted (replay_answer steps end 0 (at c [])) ≡ length (current c)
    go true e = let h : length (current c) ≤ 0 = leb-true (length (current c)) 0 e in ap wanted (sym (long_enough steps end 0 c [] refl h)) ∙ omega arith
    go false e = ap wanted (sym (too_short steps end 0 c [] refl (leb-false (length (current c)) 0 e)))

module _ (program witness : List ℤ) (buffer steps : ℕ) (e : check program witness buffer ≡ trace steps) where
  pub value_count_lem : (value_count program witness ≡ length (final_values program witness)) × (value_count program witness ≤ buffer)
  unfolding value_count final_values
  value_count_lem =
      let f = ((trace_answered program witness buffer steps).0 e).forms in
      let x = (concluded_iff (N program witness) (length witness) buffer steps (replayed_to program witness (N program witness))).0 (sym (concludes program witness buffer f) ∙ e) in
      let k : wanted (check program witness 0) ≡ length (current x.0) = ap wanted (concludes program witness 0 f ∙ ap (replay_answer (N program witness) (length witness) 0) x.1) ∙ wanted_concluded (N program witness) (length witness) x.0 in
      (k ∙ sym (ap (λ s. length (last_values s)) x.1 ∙ (unfold last_values in refl)), omega (arith, k, x.3))
