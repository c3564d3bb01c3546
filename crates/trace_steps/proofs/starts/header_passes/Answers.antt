-- `header_passes` meets its contract: it tests the length, the mark, N, E and the total, as the definition does.
use Rattle.std.proofs.Common.{refl}
use Rattle.traces.specs.TraceTests.{header_passes}
use Rattle.trace_steps.proofs.starts.header_passes.Goals as goal

pub returns : goal.returns
unfolding header_passes
returns c = rw (c.number_at.ensures.value, c.word_within-entries.ensures, c.word_within-steps.ensures, c.word_within-mark.ensures, c.entries_from-from.ensures.value) refl
