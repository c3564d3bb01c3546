-- `keep_targets` meets its contract: a turn takes the next bit, and keeps its target if the bit is 1.
use Rattle.kept_disjuncts.specs.Queue.{bits_next, named_next}
use Rattle.kept_disjuncts.proofs.keep_targets.Goals as goal

pub loop-j-preserved : goal.loop-j-preserved
loop-j-preserved c =
    let l = c.loop-j in
    (bits_next c.args.byte l.j l.rest l.invariant.0, named_next c.args.byte c.args.entry l.j l.rest l.invariant.0 l.invariant.1 c.keep_target-held.ensures)
