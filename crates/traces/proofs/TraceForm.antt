-- The form of a trace's words, said in inequalities over ℤ: it holds if and only if tests 4 and 9 pass, and then every word that the replay
-- reads is in range.
use Rattle.std.specs.Prelude.{◌≡◌, ◌↔◌, List, ℕ, ◌≤◌, ◌<◌, T, ℤ, length}
use Rattle.std.proofs.Math.Option.{none}
use Rattle.std.proofs.Common.{arith}
use Rattle.basics.proofs.Booleans.{tests}
use Rattle.words.proofs.Ranges.{within_between, within_exactly, small_between}
use Rattle.words.specs.Tests.{first_failure}
use Rattle.words.proofs.FirstFailure.{no_failure, pass_cons, pass_append, pass_listed}
use Rattle.traces.specs.TraceWords.{N, starts, start_place, vertex_place}
use Rattle.traces.specs.TraceTests.{header_passes, start_test, entry_value_test, trace_tests}
use Rattle.traces.specs.TraceForm.{TraceForm, TraceHeader}

module _ (program witness : List ℤ) where
  pub header_form : T (header_passes program witness) ↔ (TraceHeader program witness)
  unfolding header_passes
  header_form = (λ t. let x = simp (tests, within_exactly, within_between) at t in search, λ f. simp (tests, within_exactly, within_between) search)

  ruleset all_tests = (no_failure, pass_cons, pass_append, pass_listed, header_form, small_between)

  pub trace_form_lem : (first_failure (trace_tests program witness) ≡ none) ↔ (TraceForm program witness)
  unfolding trace_tests start_test entry_value_test
  trace_form_lem = (there, back)
    where
      there : first_failure (trace_tests program witness) ≡ none → (TraceForm program witness)
      there e = let x = simp all_tests at e in search

      back : (TraceForm program witness) → first_failure (trace_tests program witness) ≡ none
      back f = simp all_tests search

  -- every word that the replay reads
  pub start_inside : (TraceForm program witness) → (i : ℕ) → 1 ≤ i → i ≤ starts program witness → start_place i < length witness
  start_inside f i l h = omega (arith, f.header.total)

  pub vertex_inside : (TraceForm program witness) → (i : ℕ) → i ≤ N program witness → vertex_place program witness i < length witness
  vertex_inside f i h = omega (arith, f.header.total)
