-- Refused traces, where both have the form: 10, 11, 12 and one cause of 14 are where the listed vertices cease to be a run inside the limits,
-- entered with the listed entry values; the other cause of 14 is an entry value that the run doesn't use; 13 is a result buffer too short for the
-- values of the run that they are. Where the program has the form, 4 and 9 are those of the trace's tests. If and
-- only if, places included, since an answer comes from the first test that fails and these numbers tell the tests apart. That these numbers
-- are answered nowhere else is in Refusals.
use Rattle.std.specs.Prelude.{◌≡◌, List, ℕ, ◌+◌, ◌-◌, ◌≤◌, ◌<◌, ℤ, length}
use Rattle.words.specs.Tests.{Refusal}
use Rattle.programs.specs.Runs.{values_now, entry_values}
use Rattle.traces.specs.TraceWords.{N, entry_values_from}
use Rattle.traces.specs.Replay.{Progress, replayed_to}
use Rattle.traces.specs.TracedRuns.{FailingRun, TracedRun}
use Rattle.checker.specs.Demand2Traces.{TraceForms}

-- a refusal whose number is one of low..=high
abbrev pub Numbered : ℕ → ℕ → Refusal → Type 0
Numbered low high r = (low ≤ r.number) × (r.number ≤ high)

module _ (program witness : List ℤ) where
  -- ---- where both have the form: 10 to 14

  -- the listed vertices are a run to the error vertex inside the limits, whose calls use only the entry values before this place; one stands there
  pub record LeftUnused (place : ℕ) : Type 0 where
    pub run : FailingRun program witness
    pub stands : place ≡ entry_values_from program witness + length (entry_values run.traced.run)
    pub more : 1 ≤ length run.traced.left

  -- they are such a run that uses all of them, and the buffer is too short for its k values
  pub record TooShort (buffer place : ℕ) : Type 0 where
    pub run : TracedRun program witness
    pub stands : place ≡ length (values_now run.failing.traced.state)
    pub short : buffer < place

  abbrev pub Thirteen : ℕ → Refusal → Type 0
  Thirteen buffer r = (r.number ≡ 13) × (r.line ≡ 0) × TooShort buffer r.place

  abbrev pub Left : Refusal → Type 0
  Left r = (r.number ≡ 14) × (r.line ≡ 0) × LeftUnused r.place

  module _ (buffer : ℕ) (f : TraceForms program witness) (r : Refusal) where
    abbrev pub progress : Progress
    progress = replayed_to program witness (N program witness)
