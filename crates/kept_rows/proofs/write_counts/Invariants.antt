-- After i turns the first i counts are there.
use Rattle.std.proofs.Common.{◌≡◌, List, ℤ, take}
use Rattle.std.proofs.lemmas.List.Edits.{sets}
use Rattle.layouts.specs.Layout.{count_words}
use Rattle.program_readers.specs.Sizes.{Header}
use Rattle.kept_rows.specs.KeptEntries.{trimmed_entries}
use Rattle.kept_rows.proofs.write_counts.Given as goal

abbrev pub invariant-loop-i : goal.invariant-loop-i
invariant-loop-i l = (program : List ℤ) → Header program l.fn.sizes → l.buffer ≡ sets l.initial.buffer 3 (take l.i (count_words (trimmed_entries program l.certificate l.fn.sizes l.kept)))
