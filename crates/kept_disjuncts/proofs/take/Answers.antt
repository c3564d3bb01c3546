-- `take` meets its contract: the place says which entry and which of its disjuncts it is.
use Rattle.std.proofs.Common.{arith}
use Rattle.kept_disjuncts.specs.TakenUses.{path_taken, summary_taken}
use Rattle.kept_disjuncts.proofs.take.Goals as goal

pub returns-then-entry-vertices-clause-taken_at : goal.returns-then-entry-vertices-clause-taken_at
returns-then-entry-vertices-clause-taken_at c = path_taken c.requires.known c.args.place c.args.kept.now _ c.if-entry-vertices.true c.take_path.ensures.by_index

pub returns-clause-taken_at : goal.returns-clause-taken_at
returns-clause-taken_at c = summary_taken c.requires.known c.args.place c.args.kept.now _ (omega (arith, c.if-entry-vertices.false)) c.take_summary.ensures.by_index
