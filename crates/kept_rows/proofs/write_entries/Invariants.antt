-- After i turns the words of i entries are counted, the next one begins at `at`, and places and words are written where all fit.
use Rattle.std.proofs.Common.{◌*◌, ◌≤◌}
use Rattle.words.specs.declared.StoredForm.TheVariants.{Dense}
use Rattle.layout_writers.specs.EntryRuns.{entries_left, places_left}
use Rattle.layout_writers.specs.Runs.{FittedPlaces}
use Rattle.kept_rows.specs.KeptEntries.{trimmed_entries}
use Rattle.kept_rows.proofs.write_entries.Given as goal

abbrev pub invariant-loop-i : goal.invariant-loop-i
invariant-loop-i l =
    let es = trimmed_entries l.program l.certificate l.sizes l.kept in
    record {
      few : l.at ≤ 16904 * l.i;
      run : FittedPlaces l.initial.buffer l.buffer l.table l.start (places_left Dense es 0 0) (entries_left Dense es 0) (places_left Dense es l.i l.at) (entries_left Dense es l.i) l.i l.at;
    }
