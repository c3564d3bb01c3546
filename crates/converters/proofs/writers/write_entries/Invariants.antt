-- After i turns the places and the words of i entries are written, and the next one begins at `at`.
use Rattle.converters.specs.OtherEntries.{entries_other, places_other}
use Rattle.layout_writers.specs.Runs.{Placed}
use Rattle.converters.proofs.writers.write_entries.Given as goal

abbrev pub invariant-loop-i : goal.invariant-loop-i
invariant-loop-i l =
    Placed l.initial.buffer l.buffer l.table l.start (places_other l.program l.certificate l.form 0 0) (entries_other l.program l.certificate l.form 0)
    (places_other l.program l.certificate l.form l.i l.at) (entries_other l.program l.certificate l.form l.i) l.i l.at
