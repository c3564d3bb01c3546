-- The labels that are read in a replay, step by step, are those of its run.
use Rattle.std.specs.Prelude.{ℤ}
use mathlib.Core.List.{List}
use Rattle.programs.specs.Program.{Program}
use Rattle.programs.specs.ProgramForm.{ProgramForm}
use Rattle.programs.specs.Decode as decode
use Rattle.traces.specs.TraceForm.{TraceForm}

module _ (program witness : List ℤ) (f : ProgramForm program) (g : TraceForm program witness) where
  abbrev pub plan : Program
  plan = decode.program program
