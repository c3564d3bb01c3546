-- The procedure is that of the last vertex, and the table is filled up to it.
use Rattle.program_readers.specs.OwnerLaws.{Filled}
use Rattle.program_readers.specs.Owners.{Reached}
use Rattle.program_readers.proofs.procedures.fill_owners.Given as goal

abbrev pub invariant-loop-i : goal.invariant-loop-i
invariant-loop-i l = Reached l.program l.i l.q.0 × Filled l.program l.owners l.i
