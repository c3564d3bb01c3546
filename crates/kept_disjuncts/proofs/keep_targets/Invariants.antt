-- `keep_targets` meets its contract: before turn j the targets below j are kept, and bit i of `rest` is bit j + i of the byte.
use Rattle.kept_disjuncts.specs.Queue.{Filled, NamedBelow, BitsFrom}
use Rattle.kept_disjuncts.proofs.keep_targets.Given as goal

abbrev pub invariant-loop-j : goal.invariant-loop-j
invariant-loop-j l = BitsFrom l.byte l.j l.rest × Filled (NamedBelow l.byte l.entry l.j) l.fn.kept l.fn.queue l.count l.kept l.queue l.held
