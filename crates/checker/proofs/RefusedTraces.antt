-- Refused traces, where both have the form: 10, 11, 12 and one cause of 14 are where the listed vertices cease to be a run inside the limits,
-- entered with the listed entry values; the other cause of 14 is an entry value that the run doesn't use; 13 is a result buffer too short for the
-- values of the run that they are. Where the program has the form, 4 and 9 are those of the trace's tests. If and
-- only if, places included, since an answer comes from the first test that fails and these numbers tell the tests apart. That these numbers
-- are answered nowhere else is in Refusals.
use Rattle.std.specs.Prelude.{◌≡◌, refl, ◌↔◌, ◌⊎◌, List, [], ℕ, ◌+◌, ◌-◌, ◌≤◌, ℤ, pos, length}
use Rattle.std.proofs.Common.{sym, ap, ◌∙◌, inl, inr, arith, length-append}
use Rattle.std.proofs.Math.Logic.{⊎_map}
use Rattle.std.proofs.Math.Logic.Iff.{trans as iff_trans}
use Rattle.std.proofs.Math.Option.{none, some}
use Rattle.words.specs.Words.{word}
use Rattle.words.specs.Tests.{Refusal, first_failure, refusal_at, refusal_on}
use Rattle.words.specs.Answer.{refused, refuse}
use Rattle.words.proofs.AnswerLaws.{failed_after}
use Rattle.programs.specs.ProgramForm.{ProgramForm}
use Rattle.programs.specs.Runs.{entry_values}
use Rattle.programs.specs.Moves.{Configuration, configuration, current}
use Rattle.traces.specs.TraceWords.{trace_mark, N, entry_values_from}
use Rattle.traces.specs.TraceTests.{trace_tests}
use Rattle.traces.proofs.TraceForm.{trace_form_lem}
use Rattle.traces.specs.Replay.{ended, replay_answer, replayed_to, trace_answer}
use Rattle.traces.specs.TraceAnswers.{LeftOver, Short}
use Rattle.traces.proofs.TraceAnswers.{concluded_refused}
use Rattle.traces.specs.TracedRuns.{FailingRun}
use Rattle.traces.proofs.StartValues.{entries_length}
use Rattle.traces.proofs.ReplayRuns.{replayed_iff}
use Rattle.traces.specs.ReplayRefusals.{Ends}
use Rattle.traces.proofs.ReplayRefusals.{ends_iff, ends_number, ends_line}
use Rattle.checker.specs.Demand2Traces.{TraceForms}
use Rattle.checker.proofs.Demand2Traces.{answers_trace, concludes, comes_to}
use Rattle.checker.specs.Check.{check}
use Rattle.checker.specs.RefusedTraces.{Left, LeftUnused, Numbered, Thirteen, TooShort, progress}

module _ (program witness : List ℤ) where
  module _ (buffer : ℕ) (f : TraceForms program witness) (r : Refusal) where
    -- the first value left stands after those that are used
    left_place : (run : FailingRun program witness) → length witness - length run.traced.left ≡ entry_values_from program witness + length (entry_values run.traced.run)
    left_place run =
        let n = entries_length program witness f.trace_form in
        let m = ap length run.traced.enters ∙ length-append (entry_values run.traced.run) run.traced.left in
        omega (arith, n, m, f.trace_form.header.total)

    left_iff : LeftOver (length witness) (progress program witness buffer f r) r ↔ (Left program witness) r
    left_iff = (there, back)
      where
        there : LeftOver (length witness) (progress program witness buffer f r) r → (Left program witness) r
        there x =
            let y = (replayed_iff program witness f.program_form f.trace_form x.final x.left).0 x.comes in
            let h : r.place ≡ length witness - length x.left = ap (λ (q : Refusal). q.place) x.refuses in
            let same : length x.left ≡ length y.run.traced.left = ap length (sym y.leaves) in (
              ap (λ (q : Refusal). q.number) x.refuses,
              ap (λ (q : Refusal). q.line) x.refuses,
              record { run = y.run; stands = h ∙ (ap (λ n. length witness - n) same ∙ left_place y.run); more = omega (arith, same, x.more) },
            )

        back : (Left program witness) r → LeftOver (length witness) (progress program witness buffer f r) r
        back (q, z, x) =
            let place = x.stands ∙ sym (left_place x.run) in
            record {
              final = configuration x.run.traced.state;
              left = x.run.traced.left;
              comes = (replayed_iff program witness f.program_form f.trace_form (configuration x.run.traced.state) x.run.traced.left).1 (record { run = x.run; configured = refl; leaves = refl });
              more = x.more;
              refuses = λ i. refusal_on (q i) (place i) (z i);
            }

    short_iff : Short buffer (progress program witness buffer f r) r ↔ (Thirteen program witness) buffer r
    short_iff = (there, back)
      where
        there : Short buffer (progress program witness buffer f r) r → (Thirteen program witness) buffer r
        there x =
            let y = (replayed_iff program witness f.program_form f.trace_form x.final []).0 x.comes in
            let h : r.place ≡ length (current x.final) = ap (λ (q : Refusal). q.place) x.refuses in (
              ap (λ (q : Refusal). q.number) x.refuses,
              ap (λ (q : Refusal). q.line) x.refuses,
              record { run = record { failing = y.run; all_used = y.leaves }; stands = h ∙ ap (λ (c : Configuration). length (current c)) (sym y.configured); short = rw h x.short },
            )

        back : (Thirteen program witness) buffer r → Short buffer (progress program witness buffer f r) r
        back (q, z, x) =
            record {
              final = configuration x.run.failing.traced.state;
              comes = comes_to program witness f x.run;
              refuses = λ i. refusal_on (q i) (x.stands i) (z i);
              short = rw x.stands at x.short;
            }

    refused_iff : (check program witness buffer ≡ refused r) ↔ (Ends program witness r ⊎ ((Left program witness) r ⊎ (Thirteen program witness) buffer r))
    refused_iff =
        rw (concludes program witness buffer f)
        (iff_trans (concluded_refused (N program witness) (length witness) buffer (progress program witness buffer f r) r) (⊎_map ends.0 (⊎_map left_iff.0 short_iff.0), ⊎_map ends.1 (⊎_map left_iff.1 short_iff.1)))
      where
        ends : ((progress program witness buffer f r) ≡ ended r) ↔ Ends program witness r
        ends = ends_iff program witness f.program_form f.trace_form r

    formed_number : check program witness buffer ≡ refused r → Numbered 10 14 r
    formed_number e = go (refused_iff.0 e)
      where
        go : Ends program witness r ⊎ ((Left program witness) r ⊎ (Thirteen program witness) buffer r) → Numbered 10 14 r
        go (inl x) = let h = ends_number x in omega arith
        go (inr (inl x)) = omega arith
        go (inr (inr x)) = omega arith

    -- of these, 13 and 14 have no line
    formed_line : check program witness buffer ≡ refused r → 13 ≤ r.number → r.line ≡ 0
    formed_line e h = go (refused_iff.0 e)
      where
        go : Ends program witness r ⊎ ((Left program witness) r ⊎ (Thirteen program witness) buffer r) → r.line ≡ 0
        go (inl x) = ends_line x h
        go (inr (inl x)) = x.1
        go (inr (inr x)) = x.1

    -- 10, 11 and 12
    pub formed_replay : r.number ≤ 12 → (check program witness buffer ≡ refused r) ↔ Ends program witness r
    formed_replay h = iff_trans refused_iff (there, inl)
      where
        there : Ends program witness r ⊎ ((Left program witness) r ⊎ (Thirteen program witness) buffer r) → Ends program witness r
        there (inl x) = x
        there (inr (inl x)) = absurd (omega arith)
        there (inr (inr x)) = absurd (omega arith)

  pub formed_thirteen : (buffer place : ℕ) → TraceForms program witness → (check program witness buffer ≡ refuse 13 place) ↔ (TooShort program witness) buffer place
  formed_thirteen buffer place f = iff_trans (refused_iff buffer f (refusal_at 13 place)) (there, λ x. inr (inr (refl, refl, x)))
    where
      there : Ends program witness (refusal_at 13 place) ⊎ ((Left program witness) (refusal_at 13 place) ⊎ (Thirteen program witness) buffer (refusal_at 13 place)) → (TooShort program witness) buffer place
      there (inl x) = absurd ((ends_number x).2 refl)
      there (inr (inl x)) = absurd (omega (arith, x.0))
      there (inr (inr x)) = x.2

  -- 14 has two causes: a missing entry value, at a vertex, and one left over
  pub formed_fourteen : (buffer place : ℕ) → TraceForms program witness → (check program witness buffer ≡ refuse 14 place) ↔ (Ends program witness (refusal_at 14 place) ⊎ (LeftUnused program witness) place)
  formed_fourteen buffer place f = iff_trans (refused_iff buffer f (refusal_at 14 place)) (there, back)
    where
      there : Ends program witness (refusal_at 14 place) ⊎ ((Left program witness) (refusal_at 14 place) ⊎ (Thirteen program witness) buffer (refusal_at 14 place)) → Ends program witness (refusal_at 14 place) ⊎ (LeftUnused program witness) place
      there (inl x) = inl x
      there (inr (inl x)) = inr x.2
      there (inr (inr x)) = absurd (omega (arith, x.0))

      back : Ends program witness (refusal_at 14 place) ⊎ (LeftUnused program witness) place → Ends program witness (refusal_at 14 place) ⊎ ((Left program witness) (refusal_at 14 place) ⊎ (Thirteen program witness) buffer (refusal_at 14 place))
      back (inl x) = inl x
      back (inr x) = inr (inl (refl, refl, x))

  -- ---- where the program has the form: 4 and 9, by the trace's tests

  -- what is refused after these tests has a larger number
  pub replayed_number : (buffer : ℕ) → ProgramForm program → (r : Refusal) → first_failure (trace_tests program witness) ≡ none
      → replay_answer (N program witness) (length witness) buffer (replayed_to program witness (N program witness)) ≡ refused r → Numbered 10 14 r
  replayed_number buffer f r q e =
      let forms : TraceForms program witness = record { program_form = f; trace_form = (trace_form_lem program witness).0 q } in
      formed_number buffer forms r (concludes program witness buffer forms ∙ e)

  pub replayed_line : (buffer : ℕ) → ProgramForm program → (r : Refusal) → first_failure (trace_tests program witness) ≡ none
      → replay_answer (N program witness) (length witness) buffer (replayed_to program witness (N program witness)) ≡ refused r → 13 ≤ r.number → r.line ≡ 0
  replayed_line buffer f r q e =
      let forms : TraceForms program witness = record { program_form = f; trace_form = (trace_form_lem program witness).0 q } in
      formed_line buffer forms r (concludes program witness buffer forms ∙ e)

  pub tests_refused : (buffer : ℕ) (r : Refusal) → r.number ≤ 9 → ProgramForm program → word witness 0 ≡ pos trace_mark
      → (check program witness buffer ≡ refused r) ↔ (first_failure (trace_tests program witness) ≡ some r)
  unfolding trace_answer
  tests_refused buffer r h f k =
      rw (answers_trace program witness buffer f k) (failed_after (first_failure (trace_tests program witness)) _ r (λ q e. let x = replayed_number buffer f r q e in omega arith))
