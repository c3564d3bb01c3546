-- Demand 2 for traces, from the words: "Trace is answered if and only if both have the form, the room suffices and the listed vertices are a
-- run by the Linear Programs report, as document 01 condenses it, from the listed start to the error vertex, inside the stated depth and
-- value limits." The values that the run's calls are entered with are then exactly the listed entry values (document 02, CR 2). And what the
-- result buffer then holds: the k values of the call that stands at the failed assertion.
use Rattle.std.specs.Prelude.{◌≡◌, List, ℕ, ◌≤◌, ℤ, length}
use Rattle.programs.specs.ProgramForm.{ProgramForm}
use Rattle.programs.specs.Runs.{values_now}
use Rattle.programs.specs.Decode as decode
use Rattle.traces.specs.TraceWords.{N}
use Rattle.traces.specs.TraceForm.{TraceForm}
use Rattle.traces.specs.Replay as replay
use Rattle.traces.specs.TracedRuns.{TracedRun}

module _ (program witness : List ℤ) where
  pub record TraceForms : Type 0 where
    pub program_form : ProgramForm program
    pub trace_form : TraceForm program witness

  -- both have the form, the listed vertices are such a run, and the buffer suffices
  pub record Replays (buffer steps : ℕ) : Type 0 where
    pub forms : TraceForms
    pub counted : steps ≡ N program witness
    pub run : TracedRun program witness
    pub suffices : length (values_now run.failing.traced.state) ≤ buffer
